-- The table format: which byte strings are tables, which fault comes first, and what a table says.
use Rattle.std.specs.Prelude.{ℕ, zero, suc, ◌+◌, ◌*◌, Bool, true, false, if◌then◌else◌, ◌&&◌, List, [], ◌∷◌, length, Some, None, Ok, Option, Result, ◌==◌, nat_le, nat_lt, slice_index, slice_index_or}
use Rattle.std.specs.List.{slice_get}
use Rattle.model.specs.Steps.{and_then, demand}
use Rattle.model.specs.declared.code.Kind.{Kind}
use Rattle.model.specs.declared.code.Kind.TheVariants.{Source, Translated}
use Rattle.model.specs.declared.code.Instruction.{Instruction}
use Rattle.model.specs.declared.code.Instruction.TheVariants.{Set, Move, Add, Inc, Jump, IfEq, IfLt, Pick, Wait, Load, Store, Fence, Arw, Open, Shut, Call, Back}
use Rattle.model.specs.declared.code.Role.{Role}
use Rattle.model.specs.declared.code.Role.TheVariants.{Register, Word, Constant, Unused}
use Rattle.model.specs.declared.code.Shape.{Shape}
use Rattle.model.specs.declared.code.Limits.{Limits}
use Rattle.model.specs.declared.places.Place.{Place}
use Rattle.model.specs.declared.places.Place.TheVariants as place
use Rattle.model.specs.declared.faults.TableFault.{TableFault}
use Rattle.model.specs.declared.faults.TableFault.TheVariants.{Length, Header, Entry, Op, Operand}

-- what a table says: its kind, how many shared words and registers, its rounds, and each thread's code
pub record Program : Type 0 where
  pub kind : Kind
  pub words : ℕ
  pub registers : ℕ
  pub rounds : ℕ
  pub code : List (List Instruction)

abbrev pub Checked : Type 0
Checked = Result (Unit {0}) TableFault

-- the two-byte number at a position, low byte first
abbrev pub two : List ℕ → ℕ → ℕ
two bs at = slice_index bs at + 256 * slice_index bs (at + 1)

abbrev pub within : ℕ → ℕ → ℕ → Bool
within low n high = nat_le low n && nat_le n high

abbrev pub kind_of : ℕ → Kind
kind_of b = if b == 0 then Source else Translated

-- how many ops a kind of table has, and its largest counts of registers, rounds and instructions
abbrev pub ops : Kind → ℕ
ops Source = 13
ops Translated = 17

abbrev pub most_registers : Kind → ℕ
most_registers Source = 16
most_registers Translated = 82

abbrev pub least_rounds : Kind → ℕ
least_rounds Source = 0
least_rounds Translated = 1

abbrev pub most_rounds : Kind → ℕ
most_rounds Source = 0
most_rounds Translated = 4

abbrev pub most_instructions : Kind → ℕ
most_instructions Source = 48
most_instructions Translated = 1400

-- what the fields of an op hold: p, q, r, and whether it has a target
abbrev pub shape_of : Role → Role → Role → Bool → Shape
shape_of p q r t = record { p = p; q = q; r = r; aims = t }

abbrev pub shape : ℕ → Shape
shape op =
    if op == 0 then shape_of Register Unused Constant false
    else if op == 1 then shape_of Register Register Unused false
    else if op == 2 then shape_of Register Register Unused false
    else if op == 3 then shape_of Register Unused Constant false
    else if op == 4 then shape_of Unused Unused Unused true
    else if op == 5 then shape_of Register Unused Constant true
    else if op == 6 then shape_of Register Register Unused true
    else if op == 7 then shape_of Unused Unused Unused true
    else if op == 8 then shape_of Register Register Unused false
    else if op == 9 then shape_of Register Word Unused false
    else if op == 10 then shape_of Word Register Unused false
    else if op == 11 then shape_of Unused Unused Unused false
    else if op == 12 then shape_of Word Register Register false
    else if op == 13 then shape_of Register Unused Constant false
    else if op == 14 then shape_of Unused Unused Unused true
    else if op == 15 then shape_of Unused Unused Unused true
    else shape_of Unused Unused Unused false

-- the instruction of an op and its fields
abbrev pub instruction_of : ℕ → ℕ → ℕ → ℕ → ℕ → Instruction
instruction_of op p q r t =
    if op == 0 then Set p r
    else if op == 1 then Move p q
    else if op == 2 then Add p q
    else if op == 3 then Inc p r
    else if op == 4 then Jump t
    else if op == 5 then IfEq p r t
    else if op == 6 then IfLt p q t
    else if op == 7 then Pick t
    else if op == 8 then Wait p q
    else if op == 9 then Load p q
    else if op == 10 then Store p q
    else if op == 11 then Fence
    else if op == 12 then Arw p q r
    else if op == 13 then Open p r
    else if op == 14 then Shut t
    else if op == 15 then Call t
    else Back

-- a field has to stay below its limit; an unused one below 1, a target at most at the count
abbrev pub field_limit : Limits → Role → ℕ
field_limit l Register = l.registers
field_limit l Word = l.words
field_limit l Constant = 256
field_limit l Unused = 1

abbrev pub target_limit : Limits → Bool → ℕ
target_limit l true = l.count + 1
target_limit l false = 1

-- the first fault of an instruction's fields: op, p, q, r, target
abbrev pub operands_fault : Limits → Shape → ℕ → ℕ → ℕ → ℕ → ℕ → Checked
operands_fault l s at p q r t =
    and_then (demand (nat_lt p (field_limit l s.p)) (Operand (at + 1)))
    (λ _. and_then (demand (nat_lt q (field_limit l s.q)) (Operand (at + 2)))
    (λ _. and_then (demand (nat_lt r (field_limit l s.r)) (Operand (at + 3)))
    (λ _. demand (nat_lt t (target_limit l s.aims)) (Operand (at + 4)))))

abbrev pub fields_fault : Limits → ℕ → ℕ → ℕ → ℕ → ℕ → ℕ → Checked
fields_fault l at op p q r t =
    and_then (demand (nat_lt op l.ops) (Op at)) (λ _. operands_fault l (shape op) at p q r t)

-- the six bytes at a position: their first fault, and the instruction that they spell
abbrev pub instruction_fault : Limits → List ℕ → ℕ → Checked
instruction_fault l bs at =
    fields_fault l at (slice_index bs at) (slice_index bs (at + 1)) (slice_index bs (at + 2)) (slice_index bs (at + 3)) (two bs (at + 4))

abbrev pub instruction_at : List ℕ → ℕ → Instruction
instruction_at bs at =
    instruction_of (slice_index bs at) (slice_index bs (at + 1)) (slice_index bs (at + 2)) (slice_index bs (at + 3)) (two bs (at + 4))

-- the first fault of so many instructions from a position on
abbrev pub code_fault : Limits → List ℕ → ℕ → ℕ → Checked
code_fault l bs at zero = Ok tt
code_fault l bs at (suc n) = and_then (instruction_fault l bs at) (λ _. code_fault l bs (at + 6) n)

abbrev pub code_at : List ℕ → ℕ → ℕ → List Instruction
code_at bs at zero = []
code_at bs at (suc n) = instruction_at bs at ∷ code_at bs (at + 6) n

-- the entry of a thread: where it stands, the position of the thread's code, its count of instructions
abbrev pub entry_at : ℕ → ℕ
entry_at thread = 6 + 4 * thread

abbrev pub position : List ℕ → ℕ → ℕ
position bs thread = two bs (entry_at thread)

abbrev pub count : List ℕ → ℕ → ℕ
count bs thread = two bs (entry_at thread + 2)

-- the header: edition, kind, threads, words, registers, rounds
abbrev pub header_fault : List ℕ → Checked
header_fault bs =
    let k = kind_of (slice_index bs 1) in
    and_then (demand (slice_index bs 0 == 1) (Header 0))
    (λ _. and_then (demand (nat_le (slice_index bs 1) 1) (Header 1))
    (λ _. and_then (demand (within 1 (slice_index bs 2) 4) (Header 2))
    (λ _. and_then (demand (within 1 (slice_index bs 3) 8) (Header 3))
    (λ _. and_then (demand (within 1 (slice_index bs 4) (most_registers k)) (Header 4))
    (λ _. demand (within (least_rounds k) (slice_index bs 5) (most_rounds k)) (Header 5))))))

-- an entry has to name the position where the thread's code begins, and a count in range
abbrev pub entry_fault : Kind → List ℕ → ℕ → ℕ → Checked
entry_fault k bs thread at =
    demand (position bs thread == at && within 1 (count bs thread) (most_instructions k)) (Entry (entry_at thread))

-- the entries of so many threads from one on, whose code has to begin at a position: the end of all code
abbrev pub entries_end : Kind → List ℕ → ℕ → ℕ → ℕ → Result ℕ TableFault
entries_end k bs thread at zero = Ok at
entries_end k bs thread at (suc n) =
    and_then (entry_fault k bs thread at) (λ _. entries_end k bs (thread + 1) (at + 6 * count bs thread) n)

abbrev pub limits : List ℕ → ℕ → Limits
limits bs thread =
    record { ops = ops (kind_of (slice_index bs 1)); registers = slice_index bs 4; words = slice_index bs 3; count = count bs thread }

abbrev pub thread_fault : List ℕ → ℕ → Checked
thread_fault bs thread = code_fault (limits bs thread) bs (position bs thread) (count bs thread)

-- the code of so many threads from one on
abbrev pub codes_fault : List ℕ → ℕ → ℕ → Checked
codes_fault bs thread zero = Ok tt
codes_fault bs thread (suc n) = and_then (thread_fault bs thread) (λ _. codes_fault bs (thread + 1) n)

abbrev pub codes_at : List ℕ → ℕ → ℕ → List (List Instruction)
codes_at bs thread zero = []
codes_at bs thread (suc n) = code_at bs (position bs thread) (count bs thread) ∷ codes_at bs (thread + 1) n

-- the first fault of a table: length below 6, header, room for the entries, entries, whole length, instructions
abbrev pub table_fault : List ℕ → Checked
table_fault bs =
    let threads = slice_index bs 2 in
    let long = length bs in
    and_then (demand (nat_le 6 long) (Length long))
    (λ _. and_then (header_fault bs)
    (λ _. and_then (demand (nat_le (6 + 4 * threads) long) (Length long))
    (λ _. and_then (entries_end (kind_of (slice_index bs 1)) bs 0 (6 + 4 * threads) threads)
    (λ end. and_then (demand (end == long) (Length long))
    (λ _. codes_fault bs 0 threads)))))

-- what the bytes say, read at the places that a table has
abbrev pub program_of : List ℕ → Program
program_of bs =
    record {
      kind = kind_of (slice_index bs 1);
      words = slice_index bs 3;
      registers = slice_index bs 4;
      rounds = slice_index bs 5;
      code = codes_at bs 0 (slice_index bs 2);
    }

-- a table is refused by its first fault, or says its program
abbrev pub decode : List ℕ → Result Program TableFault
decode bs = and_then (table_fault bs) (λ _. Ok (program_of bs))

-- a place in the measure of the table's kind
abbrev pub placed : Kind → ℕ → Place
placed Source n = place.Source (record { 0 = n })
placed Translated n = place.Translated (record { 0 = n })

-- the instruction of a thread at a place: none past the end, and none of a thread that the table lacks
abbrev pub fetch : Program → ℕ → ℕ → Option Instruction
fetch p thread place = slice_get (slice_index_or p.code thread []) place

-- where an instruction goes aside: only PICK does
abbrev pub aside_of : Instruction → Option ℕ
aside_of (Pick t) = Some t
aside_of i = None
