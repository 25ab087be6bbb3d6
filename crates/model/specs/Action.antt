-- What a thread at an instruction is about to do, the same for both machines.
use Rattle.std.specs.Prelude.{ℕ, ◌+◌, ◌%◌, Bool, true, false, if◌then◌else◌, Some, None, Option, ◌==◌, nat_lt, slice_index, slice_set}
use Rattle.model.specs.declared.code.Instruction.{Instruction}
use Rattle.model.specs.declared.code.Instruction.TheVariants.{Set, Move, Add, Inc, Jump, IfEq, IfLt, Pick, Wait, Load, Store, Fence, Arw, Open, Shut, Call, Back}
use Rattle.model.specs.declared.state.Thread.{Thread}
use Rattle.model.specs.declared.state.Way.{Way}
use Rattle.model.specs.declared.state.Way.TheVariants.{Next, Aside}

-- An action with the thread as it is afterwards: `reads` waits for the word's value, `writes` has word and
-- value, `swaps` has word, expected value and new value.
pub data Action : Type 0 where
  stuck : Action
  quiet : Thread → Action
  reads : ℕ → (ℕ → Thread) → Action
  writes : ℕ → ℕ → Thread → Action
  fences : Thread → Action
  swaps : ℕ → ℕ → ℕ → Thread → Action
  opens : Thread → Action
  shuts : Thread → Action

-- way 0 goes on, way 1 goes aside, there is no other
abbrev pub way_of : ℕ → Option Way
way_of w = if w == 0 then Some Next else if w == 1 then Some Aside else None

abbrev pub register : Thread → ℕ → ℕ
register th r = slice_index th.registers r

abbrev pub goes : Thread → ℕ → Thread
goes th to = record { place = to; link = th.link; registers = th.registers }

abbrev pub onward : Thread → Thread
onward th = goes th (th.place + 1)

-- a register takes a value, and the thread goes on
abbrev pub takes : Thread → ℕ → ℕ → Thread
takes th r v = record { place = th.place + 1; link = th.link; registers = slice_set th.registers r v }

-- only PICK goes aside
abbrev pub only_next : Way → Action → Action
only_next Next a = a
only_next Aside a = stuck

abbrev pub picks : Way → Thread → ℕ → Action
picks Next th to = quiet (onward th)
picks Aside th to = quiet (goes th to)

abbrev pub about : Instruction → Way → Thread → Action
about (Set p r) w th = only_next w (quiet (takes th p r))
about (Move p q) w th = only_next w (quiet (takes th p (register th q)))
about (Add p q) w th = only_next w (quiet (takes th p ((register th p + register th q) % 256)))
about (Inc p r) w th = only_next w (quiet (takes th p ((register th p + r) % 256)))
about (Jump t) w th = only_next w (quiet (goes th t))
about (IfEq p r t) w th = only_next w (quiet (if register th p == r then goes th t else onward th))
about (IfLt p q t) w th = only_next w (quiet (if nat_lt (register th p) (register th q) then goes th t
    else onward th))
about (Pick t) w th = picks w th t
about (Wait p q) w th = only_next w (if register th p == register th q then quiet (onward th) else stuck)
about (Load p q) w th = only_next w (reads q (λ v. takes th p v))
about (Store p q) w th = only_next w (writes p (register th q) (onward th))
about Fence w th = only_next w (fences (onward th))
about (Arw p q r) w th = only_next w (swaps p (register th q) (register th r) (onward th))
about (Open p r) w th = only_next w (if nat_lt (register th p) r then opens (takes th p (register th p + 1))
    else stuck)
about (Shut t) w th = only_next w (shuts (goes th t))
about (Call t) w th = only_next w (quiet (record { place = t; link = th.place + 1; registers = th.registers }))
about Back w th = only_next w (quiet (goes th th.link))

abbrev pub is_pick : Instruction → Bool
is_pick (Pick t) = true
is_pick i = false

-- whether the instruction can go that way
abbrev pub can_go : Instruction → Way → Bool
can_go i Next = true
can_go i Aside = is_pick i
