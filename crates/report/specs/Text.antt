-- The text of each line that is printed of a table.
use Rattle.std.specs.Prelude.{◌≡◌, ℕ, List, ◌++◌, codes, decimal}
use Rattle.model.specs.Encoding.{kind_byte}
use Rattle.model.specs.Text.{instruction_text, kind_text}
use Rattle.model.specs.declared.code.Kind.{Kind}
use Rattle.model.specs.declared.code.Kind.TheVariants.{Source, Translated}
use Rattle.report.specs.declared.lines.Field.{Field}
use Rattle.report.specs.declared.lines.Entry.{Entry}
use Rattle.report.specs.declared.lines.Listed.{Listed}
use Rattle.report.specs.declared.lines.Accepted.{Accepted}

abbrev pub field_text : Field → List ℕ
field_text x =
    codes "byte " ++ (decimal x.at ++ (codes ", " ++ (x.name.now ++ (codes ": " ++ (decimal x.value ++ (codes " (" ++ (x.meaning.now ++ codes ")")))))))

-- a field of the header is at a byte, has a name, holds a number and means a text
abbrev pub Says : Field → ℕ → List ℕ → ℕ → List ℕ → Type 0
Says x at name n meaning = (x.at ≡ at) × (x.name.now ≡ name) × (x.value ≡ n) × (x.meaning.now ≡ meaning)

abbrev pub Edition : Field → Type 0
Edition x = Says x 0 (codes "edition") 1 (codes "the only one so far")

abbrev pub meaning_of : Kind → List ℕ
meaning_of Source = codes "source: as its author wrote it"
meaning_of Translated = codes "translated: made from a source"

abbrev pub KindSaid : Field → Kind → Type 0
KindSaid x k = Says x 1 (codes "kind") (kind_byte k) (meaning_of k)

abbrev pub Threads : Field → ℕ → Type 0
Threads x n = Says x 2 (codes "threads") n (codes "they run at the same time")

abbrev pub Words : Field → ℕ → Type 0
Words x n = Says x 3 (codes "shared words") n (codes "every thread reads and writes them")

abbrev pub Registers : Field → ℕ → Type 0
Registers x n = Says x 4 (codes "registers") n (codes "in each thread, seen by no other")

abbrev pub Rounds : Field → ℕ → Type 0
Rounds x n = Says x 5 (codes "rounds") n (codes "how many each thread may open; 0 in a source table")

abbrev pub entry_text : Entry → List ℕ
entry_text e =
    codes "byte " ++ (decimal e.at ++ (codes ", thread " ++ (decimal e.thread ++ (codes ": code at byte " ++ (decimal e.position ++ (codes ", instruction count " ++ decimal e.count))))))

abbrev pub listed_text : Listed → List ℕ
listed_text l =
    codes "byte " ++ (decimal l.at ++ (codes ", thread " ++ (decimal l.thread ++ (codes ", place " ++ (decimal l.place ++ (codes ": " ++ instruction_text l.instruction))))))

abbrev pub accepted_text : Accepted → List ℕ
accepted_text a = codes "accepted: every byte of this " ++ (kind_text a.kind ++ codes " table is in its range")
