-- The values of the memories: what their fields stand for.
use Rattle.std.specs.Prelude.{ℕ, if◌then◌else◌, List, [], replicate, Some, None, Option, ◌==◌, nat_lt}
use Rattle.model.specs.Memory.{Memory}

-- every word 0, nothing pending
abbrev pub fresh : Option ℕ → Memory
fresh d = record { words = replicate 8 0; pending = replicate 4 []; depth = d }

-- a memory that writes each store at once
abbrev pub plain_value : List ℕ → Memory
plain_value ws = record { words = ws; pending = replicate 4 []; depth = Some 0 }

-- a limit of 0 counts as 1
abbrev pub some_limit : ℕ → ℕ
some_limit n = if n == 0 then 1 else n

abbrev pub smaller : Option ℕ → ℕ → ℕ
smaller None l = l
smaller (Some d) l = if nat_lt d l then d else l

-- the same words and lists, with a depth of at most the limit
abbrev pub narrowed : Memory → ℕ → Memory
narrowed m l = record { words = m.words; pending = m.pending; depth = Some (smaller m.depth l) }
