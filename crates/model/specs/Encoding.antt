-- The bytes of a program, and which programs a table can hold.
use Rattle.std.specs.Prelude.{◌≡◌, ℕ, ◌+◌, ◌*◌, ◌/◌, ◌%◌, ◌<◌, ◌≤◌, List, [], ◌∷◌, ◌++◌, length, Ok}
use Rattle.model.specs.Table.{Program, decode, ops, most_registers, least_rounds, most_rounds, most_instructions}
use Rattle.model.specs.declared.code.Kind.{Kind}
use Rattle.model.specs.declared.code.Kind.TheVariants.{Source, Translated}
use Rattle.model.specs.declared.code.Instruction.{Instruction}
use Rattle.model.specs.declared.code.Instruction.TheVariants.{Set, Move, Add, Inc, Jump, IfEq, IfLt, Pick, Wait, Load, Store, Fence, Arw, Open, Shut, Call, Back}

abbrev pub six : ℕ → ℕ → ℕ → ℕ → ℕ → List ℕ
six op p q r t = op ∷ p ∷ q ∷ r ∷ t % 256 ∷ t / 256 ∷ []

-- the six bytes of an instruction
abbrev pub encode_instruction : Instruction → List ℕ
encode_instruction (Set p r) = six 0 p 0 r 0
encode_instruction (Move p q) = six 1 p q 0 0
encode_instruction (Add p q) = six 2 p q 0 0
encode_instruction (Inc p r) = six 3 p 0 r 0
encode_instruction (Jump t) = six 4 0 0 0 t
encode_instruction (IfEq p r t) = six 5 p 0 r t
encode_instruction (IfLt p q t) = six 6 p q 0 t
encode_instruction (Pick t) = six 7 0 0 0 t
encode_instruction (Wait p q) = six 8 p q 0 0
encode_instruction (Load p q) = six 9 p q 0 0
encode_instruction (Store p q) = six 10 p q 0 0
encode_instruction Fence = six 11 0 0 0 0
encode_instruction (Arw p q r) = six 12 p q r 0
encode_instruction (Open p r) = six 13 p 0 r 0
encode_instruction (Shut t) = six 14 0 0 0 t
encode_instruction (Call t) = six 15 0 0 0 t
encode_instruction Back = six 16 0 0 0 0

abbrev pub encode_code : List Instruction → List ℕ
encode_code [] = []
encode_code (i ∷ is) = encode_instruction i ++ encode_code is

abbrev pub encode_codes : List (List Instruction) → List ℕ
encode_codes [] = []
encode_codes (c ∷ cs) = encode_code c ++ encode_codes cs

-- the entries of threads whose code begins at a position
abbrev pub entries : ℕ → List (List Instruction) → List ℕ
entries at [] = []
entries at (c ∷ cs) =
    at % 256 ∷ at / 256 ∷ length c % 256 ∷ length c / 256 ∷ entries (at + 6 * length c) cs

abbrev pub kind_byte : Kind → ℕ
kind_byte Source = 0
kind_byte Translated = 1

abbrev pub encode : Program → List ℕ
encode p =
    1 ∷ kind_byte p.kind ∷ length p.code ∷ p.words ∷ p.registers ∷ p.rounds
    ∷ (entries (6 + 4 * length p.code) p.code ++ encode_codes p.code)

-- an instruction with its operands in range: g registers, m words, a thread of n instructions
abbrev pub InRange : Kind → ℕ → ℕ → ℕ → Instruction → Type 0
InRange k g m n (Set p r) = (p < g) × (r < 256)
InRange k g m n (Move p q) = (p < g) × (q < g)
InRange k g m n (Add p q) = (p < g) × (q < g)
InRange k g m n (Inc p r) = (p < g) × (r < 256)
InRange k g m n (Jump t) = t ≤ n
InRange k g m n (IfEq p r t) = (p < g) × (r < 256) × (t ≤ n)
InRange k g m n (IfLt p q t) = (p < g) × (q < g) × (t ≤ n)
InRange k g m n (Pick t) = t ≤ n
InRange k g m n (Wait p q) = (p < g) × (q < g)
InRange k g m n (Load p q) = (p < g) × (q < m)
InRange k g m n (Store p q) = (p < m) × (q < g)
InRange k g m n Fence = Unit {0}
InRange k g m n (Arw p q r) = (p < m) × (q < g) × (r < g)
InRange k g m n (Open p r) = (13 < ops k) × (p < g) × (r < 256)
InRange k g m n (Shut t) = (13 < ops k) × (t ≤ n)
InRange k g m n (Call t) = (13 < ops k) × (t ≤ n)
InRange k g m n Back = 13 < ops k

abbrev pub EachInRange : Kind → ℕ → ℕ → ℕ → List Instruction → Type 0
EachInRange k g m n [] = Unit {0}
EachInRange k g m n (i ∷ is) = InRange k g m n i × EachInRange k g m n is

-- a thread's code: at least one instruction, at most as many as the kind allows, each in range
abbrev pub CodeInRange : Kind → ℕ → ℕ → List Instruction → Type 0
CodeInRange k g m c = (1 ≤ length c) × (length c ≤ most_instructions k) × EachInRange k g m (length c) c

abbrev pub CodesInRange : Kind → ℕ → ℕ → List (List Instruction) → Type 0
CodesInRange k g m [] = Unit {0}
CodesInRange k g m (c ∷ cs) = CodeInRange k g m c × CodesInRange k g m cs

pub record WellFormed (p : Program) : Type 0 where
  pub threads : (1 ≤ length p.code) × (length p.code ≤ 4)
  pub words : (1 ≤ p.words) × (p.words ≤ 8)
  pub registers : (1 ≤ p.registers) × (p.registers ≤ most_registers p.kind)
  pub rounds : (least_rounds p.kind ≤ p.rounds) × (p.rounds ≤ most_rounds p.kind)
  pub code : CodesInRange p.kind p.registers p.words p.code

abbrev pub Bytes : List ℕ → Type 0
Bytes [] = Unit {0}
Bytes (b ∷ bs) = (b < 256) × Bytes bs

-- what is encoded is read back, whatever the program
abbrev pub EncodedIsReadBack : Type 0
EncodedIsReadBack = (p : Program) → WellFormed p → Bytes (encode p) × (decode (encode p) ≡ Ok p)

-- what is read is well formed, and its encoding is the bytes that were read
abbrev pub ReadIsEncodedBack : Type 0
ReadIsEncodedBack =
    (bs : List ℕ) (p : Program) → Bytes bs → decode bs ≡ Ok p → WellFormed p × (encode p ≡ bs)
