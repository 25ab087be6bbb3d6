-- The translation of a source table: each source place becomes a block, and stores wait in registers.
use Rattle.std.specs.Prelude.{ℕ, zero, suc, ◌+◌, ◌-◌, ◌*◌, if◌then◌else◌, List, [], ◌∷◌, ◌++◌, length, drop, Ok, Err, Result, nat_le}
use Rattle.model.specs.Encoding.{encode}
use Rattle.model.specs.Registers.{Layout, Name, now, drain, view, mask, queue, index, register_count}
use Rattle.model.specs.Table.{Program, decode, within}
use Rattle.model.specs.declared.code.Instruction.{Instruction}
use Rattle.model.specs.declared.code.Instruction.TheVariants.{Set, Move, Add, Inc, Jump, IfEq, IfLt, Pick, Wait, Load, Store, Fence, Arw, Open, Shut, Call, Back}
use Rattle.model.specs.declared.code.Kind.TheVariants as kind
use Rattle.model.specs.declared.faults.Given.TheVariants.{First}
use Rattle.model.specs.declared.faults.TableFault.TheVariants.{WrongKind}
use Rattle.model.specs.declared.faults.TranslateFault.{TranslateFault}
use Rattle.model.specs.declared.faults.TranslateFault.TheVariants as fault

-- what the block of a thread rests on: the register layout, the thread's own rounds, its source code
pub record Frame : Type 0 where
  pub layout : Layout
  pub rounds : ℕ
  pub code : List Instruction

-- how many instructions the body of a source instruction has
abbrev pub body_size : ℕ → Instruction → ℕ
body_size k (Jump t) = 1
body_size k (Store p q) = 6 + 4 * k
body_size k (Arw p q r) = 4
body_size k (Set p r) = 2
body_size k (Move p q) = 2
body_size k (Add p q) = 2
body_size k (Inc p r) = 2
body_size k (IfEq p r t) = 2
body_size k (IfLt p q t) = 2
body_size k (Pick t) = 2
body_size k (Wait p q) = 2
body_size k (Load p q) = 2
body_size k Fence = 2
body_size k (Open p r) = 2
body_size k (Shut t) = 2
body_size k (Call t) = 2
body_size k Back = 2

-- where the block of a source place starts; past the last place it stays there
abbrev pub block_start : ℕ → List Instruction → ℕ → ℕ
block_start k [] l = 0
block_start k (i ∷ is) zero = 0
block_start k (i ∷ is) (suc l) = (4 + body_size k i) + block_start k is l

-- the place behind OPEN and CALL of a block
abbrev pub ready : ℕ → List Instruction → ℕ → ℕ
ready k is l = block_start k is l + 2

-- where the opening block starts, behind the block of the end
abbrev pub opening : ℕ → List Instruction → ℕ
opening k is = block_start k is (length is) + 3

module _ (f : Frame) where
  -- the index of a named register, and the place ready behind a source place
  abbrev pub reg : Name → ℕ
  reg n = index f.layout n

  abbrev pub to : ℕ → ℕ
  to l = ready f.rounds f.code l

  -- rounds 2 to k, counted from j, each with what a list gives for it
  abbrev pub each_round : ℕ → ℕ → (ℕ → ℕ → List Instruction) → ℕ → ℕ → List Instruction
  each_round zero j emit at size = []
  each_round (suc n) j emit at size = emit j at ++ each_round n (j + 1) emit (at + size) size

  -- a STORE whose store waits for round j, and the test that leads there
  abbrev pub queued : ℕ → ℕ → ℕ → ℕ → ℕ → List Instruction
  queued p q l j at = Set (reg (mask j p)) 1 ∷ Move (reg (queue j p)) q ∷ Jump (to (l + 1)) ∷ []

  abbrev pub queue_tests : ℕ → ℕ → ℕ → List Instruction
  queue_tests zero j at = []
  queue_tests (suc n) j at = IfEq (reg drain) j at ∷ queue_tests n (j + 1) (at + 3)

  -- the body of STORE p q at source place l, which starts at a place
  abbrev pub store_body : ℕ → ℕ → ℕ → ℕ → List Instruction
  store_body p q l at =
      let k = f.rounds in
      (Move (reg (view p)) q
      ∷ IfEq (reg drain) (k + 1) (at + 5)
      ∷ Pick (at + 5)
      ∷ Inc (reg drain) 1
      ∷ Jump (at + 1)
      ∷ IfLt (reg now) (reg drain) (at + 8)
      ∷ Store p q
      ∷ Jump (to (l + 1))
      ∷ queue_tests (k - 1) 2 (at + 8 + (k - 1) + 2))
      ++ ((Set (reg (mask (k + 1) p)) 1 ∷ Jump (to (l + 1)) ∷ []) ++ each_round (k - 1) 2 (queued p q l) 0 0)

  -- the body of the instruction at source place l, which starts at a place; its last step leads out
  abbrev pub body : ℕ → ℕ → Instruction → List Instruction
  body l at (Set p r) = Set p r ∷ Jump (to (l + 1)) ∷ []
  body l at (Move p q) = Move p q ∷ Jump (to (l + 1)) ∷ []
  body l at (Add p q) = Add p q ∷ Jump (to (l + 1)) ∷ []
  body l at (Inc p r) = Inc p r ∷ Jump (to (l + 1)) ∷ []
  body l at (Jump t) = Jump (to t) ∷ []
  body l at (IfEq p r t) = IfEq p r (to t) ∷ Jump (to (l + 1)) ∷ []
  body l at (IfLt p q t) = IfLt p q (to t) ∷ Jump (to (l + 1)) ∷ []
  body l at (Pick t) = Pick (to t) ∷ Jump (to (l + 1)) ∷ []
  body l at (Wait p q) = Wait p q ∷ Jump (to (l + 1)) ∷ []
  body l at (Load p q) = Move p (reg (view q)) ∷ Jump (to (l + 1)) ∷ []
  body l at (Store p q) = store_body p q l at
  body l at Fence = Wait (reg drain) (reg now) ∷ Jump (to (l + 1)) ∷ []
  body l at (Arw p q r) =
      Wait (reg drain) (reg now) ∷ Arw p q r ∷ Move (reg (view p)) r ∷ Jump (to (l + 1)) ∷ []
  body l at (Open p r) = Open p r ∷ Jump (to (l + 1)) ∷ []
  body l at (Shut t) = Shut (to t) ∷ Jump (to (l + 1)) ∷ []
  body l at (Call t) = Call (to t) ∷ Jump (to (l + 1)) ∷ []
  body l at Back = Back ∷ Jump (to (l + 1)) ∷ []

  -- the block of source place l: open a round, then body after body, or shut
  abbrev pub block : ℕ → Instruction → List Instruction
  block l i =
      let at = block_start f.rounds f.code l in
      Open (reg now) f.rounds ∷ Call (opening f.rounds f.code) ∷ Pick (at + 4) ∷ Shut at ∷ body l (at + 4) i

  abbrev pub last_block : List Instruction
  last_block =
      let n = length f.code in
      Open (reg now) f.rounds
      ∷ Call (opening f.rounds f.code)
      ∷ Shut (block_start f.rounds f.code n)
      ∷ []

  abbrev pub blocks : ℕ → List Instruction → List Instruction
  blocks l [] = last_block
  blocks l (i ∷ is) = block l i ++ blocks (l + 1) is

  -- the opening block: tests that lead to the stores of the round that is opened
  abbrev pub drain_tests : ℕ → ℕ → ℕ → List Instruction
  drain_tests zero j at = []
  drain_tests (suc n) j at = IfEq (reg now) j at ∷ drain_tests n (j + 1) (at + (3 * f.layout.words + 1))

  -- the waiting stores of round j are written, word after word from x
  abbrev pub drain_words : ℕ → ℕ → ℕ → ℕ → List Instruction
  drain_words zero j x at = []
  drain_words (suc n) j x at =
      IfEq (reg (mask j x)) 0 (at + 3)
      ∷ Store x (reg (queue j x))
      ∷ Set (reg (mask j x)) 0
      ∷ drain_words n j (x + 1) (at + 3)

  abbrev pub drain_round : ℕ → ℕ → ℕ → List Instruction
  drain_round views j at = drain_words f.layout.words j 0 at ++ Jump views ∷ []

  -- a view is refreshed unless a store of the thread still waits for a round from 2 to k + 1
  abbrev pub view_tests : ℕ → ℕ → ℕ → ℕ → List Instruction
  view_tests zero j x past = []
  view_tests (suc n) j x past = IfEq (reg (mask j x)) 1 past ∷ view_tests n (j + 1) x past

  abbrev pub view_words : ℕ → ℕ → ℕ → List Instruction
  view_words zero x at = []
  view_words (suc n) x at =
      (view_tests f.rounds 2 x (at + f.rounds + 1) ++ Load (reg (view x)) x ∷ [])
      ++ view_words n (x + 1) (at + f.rounds + 1)

  abbrev pub opening_block : List Instruction
  opening_block =
      let k = f.rounds in
      let m = f.layout.words in
      let at = opening k f.code in
      let drains = at + 2 + (k - 1) + 1 in
      let views = drains + (k - 1) * (3 * m + 1) in
      (IfLt (reg now) (reg drain) (at + 2) ∷ Move (reg drain) (reg now) ∷ drain_tests (k - 1) 2 drains)
      ++ ((Jump views ∷ each_round (k - 1) 2 (drain_round views) drains (3 * m + 1)) ++ (view_words m 0 views ++ Back ∷ []))

  abbrev pub translated_code : List Instruction
  translated_code = blocks 0 f.code ++ opening_block

abbrev pub layout_of : Program → ℕ → Layout
layout_of p k = record { registers = p.registers; words = p.words; rounds = k }

abbrev pub frame_of : Program → ℕ → List Instruction → Frame
frame_of p k is = record { layout = layout_of p k; rounds = k; code = is }

abbrev pub translated_codes : Program → ℕ → List (List Instruction) → List (List Instruction)
translated_codes p k [] = []
translated_codes p k (is ∷ rest) = translated_code (frame_of p k is) ∷ translated_codes p k rest

-- the translation of a program by a number of rounds
abbrev pub translated : Program → ℕ → Program
translated p k =
    record {
      kind = kind.Translated;
      words = p.words;
      registers = register_count (layout_of p k);
      rounds = k;
      code = translated_codes p k p.code;
    }

abbrev pub Translates : Type 0
Translates = Result (List ℕ) TranslateFault

-- the bytes go to the front of the output, which keeps the rest
abbrev pub written_to : List ℕ → List ℕ → Translates
written_to out bs =
    if nat_le (length bs) (length out) then Ok (bs ++ drop (length bs) out) else Err (fault.Short (length bs))

-- what translating a table into an output leaves there; refused by the table, its kind, the rounds, the room
abbrev pub translate : List ℕ → ℕ → List ℕ → Translates
translate table k out =
    elim (decode table) [
      | Err f ↦ Err (fault.Table f)
      | Ok p ↦ elim p.kind [
        | kind.Source ↦ if within 1 k 4 then written_to out (encode (translated p k)) else Err (fault.Rounds k)
        | kind.Translated ↦ Err (fault.Table (WrongKind First))
      ]
    ]
