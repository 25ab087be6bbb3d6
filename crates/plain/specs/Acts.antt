-- What an action of the code means, and which way a number names.
use Rattle.std.specs.Prelude.{◌≡◌, ℕ, Some, None, Option, if◌then◌else◌, slice_set}
use Rattle.model.specs.Action.{can_go, goes, way_of, stuck, quiet, reads, writes, fences, swaps, opens, shuts}
use Rattle.model.specs.Action as model
use Rattle.model.specs.declared.code.Instruction.{Instruction}
use Rattle.model.specs.declared.state.State.{State}
use Rattle.model.specs.declared.state.Thread.{Thread}
use Rattle.model.specs.declared.state.Way.{Way}
use Rattle.plain.specs.declared.action.Action.{Action}
use Rattle.plain.specs.declared.action.Effect.{Effect}
use Rattle.plain.specs.declared.action.Effect.TheVariants.{Nothing, Take, Link, Read, Write, Fence, Swap, Open, Shut}

-- a register takes a value, and the thread goes to a place
abbrev pub takes_to : Thread → ℕ → ℕ → ℕ → Thread
takes_to th r v to = record { place = to; link = th.link; registers = slice_set th.registers r v }

-- what the model calls an effect of a thread that goes to a place
abbrev pub has_effect : Thread → Effect → ℕ → model.Action
has_effect th Nothing to = quiet (goes th to)
has_effect th (Take r v) to = quiet (takes_to th r v to)
has_effect th (Link l) to = quiet (record { place = to; link = l; registers = th.registers })
has_effect th (Read r x) to = reads x (λ v. takes_to th r v to)
has_effect th (Write x v) to = writes x v (goes th to)
has_effect th Fence to = fences (goes th to)
has_effect th (Swap x e v) to = swaps x e v (goes th to)
has_effect th (Open r v) to = opens (takes_to th r v to)
has_effect th Shut to = shuts (goes th to)

abbrev pub meaning : Thread → Option Action → model.Action
meaning th None = stuck
meaning th (Some a) = has_effect th a.effect a.to

-- nothing changed, since the run lacks what it needs
abbrev pub IsUndone : State → State → Option State → Type 0
IsUndone before after o = (o ≡ None) × (after ≡ before)

-- a way that an instruction can go
abbrev pub if_can_go : Instruction → Option Way → Option Way
if_can_go i None = None
if_can_go i (Some w) = if can_go i w then Some w else None

abbrev pub way_to : Instruction → ℕ → Option Way
way_to i n = if_can_go i (way_of n)
