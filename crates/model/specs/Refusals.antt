-- The refusals: number, place and layer of each case, given once.
use Rattle.std.specs.Prelude.{ℕ}
use Rattle.model.specs.declared.faults.Layer.{Layer}
use Rattle.model.specs.declared.faults.Layer.TheVariants as layer
use Rattle.model.specs.declared.faults.Refusal.{Refusal}
use Rattle.model.specs.declared.faults.Given.{Given}
use Rattle.model.specs.declared.faults.Given.TheVariants.{First, Second}
use Rattle.model.specs.declared.places.Place.{Place}
use Rattle.model.specs.declared.places.Place.TheVariants.{Source, Translated}
use Rattle.model.specs.declared.faults.MemoryFault.{MemoryFault}
use Rattle.model.specs.declared.faults.MemoryFault.TheVariants as memory
use Rattle.model.specs.declared.faults.MachineFault.{MachineFault}
use Rattle.model.specs.declared.faults.MachineFault.TheVariants as machine
use Rattle.model.specs.declared.faults.StepsFault.{StepsFault}
use Rattle.model.specs.declared.faults.StepsFault.TheVariants as steps
use Rattle.model.specs.declared.faults.LineFault.{LineFault}
use Rattle.model.specs.declared.faults.LineFault.TheVariants as line
use Rattle.model.specs.declared.faults.AtLine.{AtLine}
use Rattle.model.specs.declared.faults.ReplayFault.{ReplayFault}
use Rattle.model.specs.declared.faults.ReplayFault.TheVariants as replay
use Rattle.model.specs.declared.faults.TranslateFault.{TranslateFault}
use Rattle.model.specs.declared.faults.TranslateFault.TheVariants as translate
use Rattle.model.specs.declared.faults.ScheduleFault.{ScheduleFault}
use Rattle.model.specs.declared.faults.ScheduleFault.TheVariants as schedule
use Rattle.model.specs.declared.faults.TableFault.{TableFault}
use Rattle.model.specs.declared.faults.TableFault.TheVariants.{Length, Header, Entry, Op, Operand, WrongKind}

abbrev pub refusal : ℕ → ℕ → Layer → Refusal
refusal n at l = record { number = n; place = at; layer = l }

-- the first table has place 0, the second 1
abbrev pub given_place : Given → ℕ
given_place First = 0
given_place Second = 1

abbrev pub table_refusal : TableFault → Refusal
table_refusal (Length n) = refusal 1 n layer.Table
table_refusal (Header at) = refusal 2 at layer.Table
table_refusal (Entry at) = refusal 3 at layer.Table
table_refusal (Op at) = refusal 4 at layer.Table
table_refusal (Operand at) = refusal 5 at layer.Table
table_refusal (WrongKind t) = refusal 7 (given_place t) layer.Table

-- a thread or a word that is not there has the number asked for as its place
abbrev pub no_such : ℕ → Layer → Refusal
no_such n l = refusal 9 n l

-- a thread that has ended, and one that lacks what its step needs
abbrev pub not_granted : ℕ → Refusal
not_granted at = refusal 11 at layer.Machine

-- a byte of a list that is no step or no line
abbrev pub bad_byte : ℕ → Refusal
bad_byte index = refusal 12 index layer.Machine

abbrev pub memory_refusal : MemoryFault → Refusal
memory_refusal (memory.NoThread t) = no_such t layer.Memory
memory_refusal (memory.NoWord x) = no_such x layer.Memory
memory_refusal (memory.Full t) = refusal 15 t layer.Memory
memory_refusal (memory.Empty t) = refusal 16 t layer.Memory

abbrev pub place_index : Place → ℕ
place_index (Source p) = p.0
place_index (Translated p) = p.0

-- a memory's refusal travels up whole
abbrev pub machine_refusal : MachineFault → Refusal
machine_refusal (machine.NoThread t) = no_such t layer.Machine
machine_refusal (machine.Ended p) = not_granted (place_index p)
machine_refusal (machine.NoWay p) = refusal 10 (place_index p) layer.Machine
machine_refusal (machine.NotGranted p) = not_granted (place_index p)
machine_refusal (machine.Memory f) = memory_refusal f

abbrev pub steps_refusal : StepsFault → Refusal
steps_refusal (steps.Byte i) = bad_byte i
steps_refusal (steps.Step i f) = machine_refusal f

-- an output that is too short has the bytes needed as its place
abbrev pub too_short : ℕ → Refusal
too_short needed = refusal 8 needed layer.Translation

-- a refusal at a line of a schedule has the line as its place
abbrev pub at_line : ℕ → LineFault → Refusal
at_line n line.Byte = bad_byte n
at_line n (line.Machine f) = refusal (machine_refusal f).number n (machine_refusal f).layer

abbrev pub line_refusal : AtLine → Refusal
line_refusal a = at_line a.line.0 a.fault

abbrev pub replay_refusal : ReplayFault → Refusal
replay_refusal (replay.Table f) = table_refusal f
replay_refusal (replay.Goal n) = refusal 17 n layer.Machine
replay_refusal (replay.Line a) = line_refusal a

abbrev pub translate_refusal : TranslateFault → Refusal
translate_refusal (translate.Table f) = table_refusal f
translate_refusal (translate.Rounds k) = refusal 6 k layer.Translation
translate_refusal (translate.Short n) = too_short n

abbrev pub schedule_refusal : ScheduleFault → Refusal
schedule_refusal (schedule.Table f) = table_refusal f
schedule_refusal (schedule.Differs at) = refusal 13 at layer.Translation
schedule_refusal (schedule.Steps f) = steps_refusal f
schedule_refusal (schedule.SectionOpen n) = refusal 14 n layer.Translation
schedule_refusal (schedule.Short n) = too_short n
