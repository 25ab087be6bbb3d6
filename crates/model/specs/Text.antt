-- The texts that are printed for instructions and refusals.
use Rattle.std.specs.Prelude.{ℕ, List, ◌++◌, codes, decimal}
use Rattle.model.specs.declared.code.Kind.{Kind}
use Rattle.model.specs.declared.code.Kind.TheVariants as kind
use Rattle.model.specs.declared.faults.Layer.{Layer}
use Rattle.model.specs.declared.faults.Layer.TheVariants as layer
use Rattle.model.specs.declared.faults.Refusal.{Refusal}
use Rattle.model.specs.declared.faults.Given.{Given}
use Rattle.model.specs.declared.faults.Given.TheVariants.{First, Second}
use Rattle.model.specs.declared.places.Place.{Place}
use Rattle.model.specs.declared.places.Place.TheVariants as place
use Rattle.model.specs.declared.faults.MemoryFault.{MemoryFault}
use Rattle.model.specs.declared.faults.MemoryFault.TheVariants as memory
use Rattle.model.specs.declared.faults.MachineFault.{MachineFault}
use Rattle.model.specs.declared.faults.MachineFault.TheVariants as machine
use Rattle.model.specs.declared.faults.TableFault.{TableFault}
use Rattle.model.specs.declared.faults.TableFault.TheVariants.{Length, Header, Entry, Op, Operand, WrongKind}
use Rattle.model.specs.declared.code.Instruction.{Instruction}
use Rattle.model.specs.declared.code.Instruction.TheVariants.{Set, Move, Add, Inc, Jump, IfEq, IfLt, Pick, Wait, Load, Store, Fence, Arw, Open, Shut, Call, Back}

abbrev pub instruction_text : Instruction → List ℕ
instruction_text (Set p r) = codes "SET register " ++ (decimal p ++ (codes " to " ++ decimal r))
instruction_text (Move p q) = codes "MOVE register " ++ (decimal p ++ (codes " from register " ++ decimal q))
instruction_text (Add p q) = codes "ADD register " ++ (decimal q ++ (codes " to register " ++ decimal p))
instruction_text (Inc p r) = codes "INC register " ++ (decimal p ++ (codes " by " ++ decimal r))
instruction_text (Jump t) = codes "JUMP to " ++ decimal t
instruction_text (IfEq p r t) = codes "IFEQ register " ++ (decimal p ++ (codes " is " ++ (decimal r ++ (codes ", to " ++ decimal t))))
instruction_text (IfLt p q t) = codes "IFLT register " ++ (decimal p ++ (codes " is below register " ++ (decimal q ++ (codes ", to " ++ decimal t))))
instruction_text (Pick t) = codes "PICK the next place or " ++ decimal t
instruction_text (Wait p q) = codes "WAIT until registers " ++ (decimal p ++ (codes " and " ++ (decimal q ++ codes " are equal")))
instruction_text (Load p q) = codes "LOAD register " ++ (decimal p ++ (codes " from word " ++ decimal q))
instruction_text (Store p q) = codes "STORE word " ++ (decimal p ++ (codes " from register " ++ decimal q))
instruction_text Fence = codes "FENCE"
instruction_text (Arw p q r) = codes "ARW word " ++ (decimal p ++ (codes " from register " ++ (decimal q ++ (codes " to register " ++ decimal r))))
instruction_text (Open p r) = codes "OPEN a section, register " ++ (decimal p ++ (codes " below " ++ decimal r))
instruction_text (Shut t) = codes "SHUT the section, to " ++ decimal t
instruction_text (Call t) = codes "CALL " ++ decimal t
instruction_text Back = codes "BACK"

abbrev pub kind_text : Kind → List ℕ
kind_text kind.Source = codes "source"
kind_text kind.Translated = codes "translated"

abbrev pub layer_text : Layer → List ℕ
layer_text layer.Table = codes "table"
layer_text layer.Translation = codes "translation"
layer_text layer.Machine = codes "machine"
layer_text layer.Memory = codes "memory"
layer_text layer.Console = codes "console"

abbrev pub refusal_text : Refusal → List ℕ
refusal_text r =
    codes "refused " ++ (decimal r.number ++ (codes " at " ++ (decimal r.place ++ (codes " in " ++ layer_text r.layer))))

abbrev pub given_text : Given → List ℕ
given_text First = codes "first"
given_text Second = codes "second"

abbrev pub table_fault_text : TableFault → List ℕ
table_fault_text (Length n) = codes "a table of " ++ (decimal n ++ codes " bytes is not as long as its counts say")
table_fault_text (Header at) = codes "byte " ++ (decimal at ++ codes " of the header is out of its range")
table_fault_text (Entry at) = codes "the thread entry at byte " ++ (decimal at ++ codes " has a wrong position or a count out of its range")
table_fault_text (Op at) = codes "the op at byte " ++ (decimal at ++ codes " is unknown or of the other kind of table")
table_fault_text (Operand at) = codes "the operand at byte " ++ (decimal at ++ codes " is out of its range or should be 0")
table_fault_text (WrongKind t) = codes "the " ++ (given_text t ++ codes " table is of the wrong kind")

abbrev pub place_text : Place → List ℕ
place_text (place.Source p) = codes "source place " ++ decimal p.0
place_text (place.Translated p) = codes "translated place " ++ decimal p.0

abbrev pub memory_fault_text : MemoryFault → List ℕ
memory_fault_text (memory.NoThread t) = codes "the memory has no thread " ++ decimal t
memory_fault_text (memory.NoWord x) = codes "the memory has no word " ++ decimal x
memory_fault_text (memory.Full t) = codes "no further store of thread " ++ (decimal t ++ codes " can wait")
memory_fault_text (memory.Empty t) = codes "no store of thread " ++ (decimal t ++ codes " waits")

abbrev pub machine_fault_text : MachineFault → List ℕ
machine_fault_text (machine.NoThread t) = codes "the table has no thread " ++ decimal t
machine_fault_text (machine.Ended p) = codes "the thread has ended at " ++ place_text p
machine_fault_text (machine.NoWay p) = codes "there is no such way at " ++ place_text p
machine_fault_text (machine.NotGranted p) = codes "the step at " ++ (place_text p ++ codes " is not granted now")
machine_fault_text (machine.Memory f) = memory_fault_text f
