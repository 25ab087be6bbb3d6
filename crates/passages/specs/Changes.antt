-- What a granted step of an instruction changes besides its thread's place, if anything.
use Rattle.std.specs.Prelude.{ℕ, Some, None, Option}
use Rattle.std.specs.Option.{unwrap_or}
use Rattle.model.specs.declared.code.Instruction.{Instruction}
use Rattle.model.specs.declared.code.Instruction.TheVariants.{Set, Move, Add, Inc, Load, Store, Arw, Open}
use Rattle.plain.specs.Said.{register_at, word_at}
use Rattle.plain.specs.declared.run.Run.{Run}
use Rattle.passages.specs.declared.stepped.Change.{Change}
use Rattle.passages.specs.declared.stepped.Change.TheVariants.{Register, Word}

abbrev pub register_change : Run → ℕ → ℕ → Change
register_change run t p = Register p (unwrap_or (register_at run t p) 0)

abbrev pub word_change : Run → ℕ → Change
word_change run x = Word x (unwrap_or (word_at run x) 0)

abbrev pub change_of : Run → ℕ → Instruction → Option Change
change_of run t (Set p r) = Some (register_change run t p)
change_of run t (Move p q) = Some (register_change run t p)
change_of run t (Add p q) = Some (register_change run t p)
change_of run t (Inc p r) = Some (register_change run t p)
change_of run t (Load p q) = Some (register_change run t p)
change_of run t (Open p r) = Some (register_change run t p)
change_of run t (Store p q) = Some (word_change run p)
change_of run t (Arw p q r) = Some (word_change run p)
change_of run t i = None
