-- The numbers that stand for kinds of tables, ops and ways.
use Rattle.std.specs.Prelude.{◌≡◌, ℕ, ◌<◌, Some, None, Result, MatchResult}
use Rattle.model.specs.Action.{way_of}
use Rattle.model.specs.Encoding.{kind_byte}
use Rattle.model.specs.declared.code.Kind.{Kind}
use Rattle.model.specs.declared.code.Op.{Op}
use Rattle.model.specs.declared.code.Op.TheVariants.{Set, Move, Add, Inc, Jump, IfEq, IfLt, Pick, Wait, Load, Store, Fence, Arw, Open, Shut, Call, Back}
use Rattle.model.specs.declared.numbers.Unknown.{Unknown}
use Rattle.model.specs.declared.state.Way.{Way}

-- a number above the last one is unknown
abbrev pub IsPast : ℕ → ℕ → Unknown → Type 0
IsPast last n u = (u.0 ≡ n) × (last < n)

abbrev pub IsKind : ℕ → Result Kind Unknown → Type 0
IsKind n r = MatchResult r (λ k. kind_byte k ≡ n) (IsPast 1 n)

abbrev pub op_byte : Op → ℕ
op_byte Set = 0
op_byte Move = 1
op_byte Add = 2
op_byte Inc = 3
op_byte Jump = 4
op_byte IfEq = 5
op_byte IfLt = 6
op_byte Pick = 7
op_byte Wait = 8
op_byte Load = 9
op_byte Store = 10
op_byte Fence = 11
op_byte Arw = 12
op_byte Open = 13
op_byte Shut = 14
op_byte Call = 15
op_byte Back = 16

abbrev pub IsOp : ℕ → Result Op Unknown → Type 0
IsOp n r = MatchResult r (λ o. op_byte o ≡ n) (IsPast 16 n)

abbrev pub IsWay : ℕ → Result Way Unknown → Type 0
IsWay n r = MatchResult r (λ w. way_of n ≡ Some w) (λ u. IsPast 1 n u × (way_of n ≡ None))
