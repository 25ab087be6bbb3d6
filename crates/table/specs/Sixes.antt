-- Code as the six bytes of each instruction.
use Rattle.std.specs.Prelude.{ℕ, ◌+◌, ◌*◌, List, [], ◌∷◌, Ok, drop, slice_index}
use Rattle.std.specs.Simd.{first_chunks}
use Rattle.model.specs.Steps.{and_then}
use Rattle.model.specs.Table.{Checked, count, fields_fault, instruction_at, position, two}
use Rattle.model.specs.declared.code.Instruction.{Instruction}
use Rattle.model.specs.declared.code.Limits.{Limits}

-- what six bytes spell, and their first fault where they stand at a position
abbrev pub six_spells : List ℕ → Instruction
six_spells six = instruction_at six 0

abbrev pub six_fault : Limits → ℕ → List ℕ → Checked
six_fault l at six =
    fields_fault l at (slice_index six 0) (slice_index six 1) (slice_index six 2) (slice_index six 3) (two six 4)

-- the first fault of instructions from one on, the first of all standing at a position
abbrev pub sixes_fault : Limits → ℕ → ℕ → List (List ℕ) → Checked
sixes_fault l start index [] = Ok tt
sixes_fault l start index (six ∷ sixes) =
    and_then (six_fault l (start + 6 * index) six) (λ _. sixes_fault l start (index + 1) sixes)

-- the code of a thread
abbrev pub sixes : List ℕ → ℕ → List (List ℕ)
sixes bs thread = first_chunks 6 (count bs thread) (drop (position bs thread) bs)
