-- What a step of the plain machine leaves as it was.
use Rattle.std.proofs.Common.{◌≡◌, ℕ, Bool, true, false, ltb, length, get_or, set, IfSome, IfOk, Some, None, Option, ap}
use Rattle.std.proofs.lemmas.List.{get_or-set_other}
use Rattle.std.proofs.lemmas.Result.{IfOk-at_ok}
use Rattle.std.proofs.lemmas.Bool.{cond_both}
use Rattle.std.specs.Bool.{then_some}
use Rattle.std.specs.Option.{ok_or}
use Rattle.model.specs.Action.{Action, stuck, quiet, reads, writes, fences, swaps, opens, shuts, can_go, way_of}
use Rattle.model.specs.Plain.{step_on, step_way, performed, may_step, thread_of, no_thread, run_after}
use Rattle.model.specs.Sanity.{OtherThreadsStay, RefusedStepsLeaveTheRun}
use Rattle.model.specs.Table.{Program}
use Rattle.model.specs.declared.code.Instruction.{Instruction}
use Rattle.model.specs.declared.state.State.{State}
use Rattle.model.specs.declared.state.Thread.{Thread}
use Rattle.model.specs.declared.state.Way.{Way}
use Rattle.model.specs.declared.faults.MachineFault.{MachineFault}

abbrev SameThread : ℕ → State → State → Type 0
SameThread u s s' = thread_of s'.threads u ≡ thread_of s.threads u

abbrev Granted : (State → Type 0) → Option State → Type 0
Granted P o = IfSome o P

granted_then : (P : State → Type 0) (b : Bool) (s : State) → P s → Granted P (then_some b s)
granted_then P true s h = h
granted_then P false s h = tt

granted_made : (P : State → Type 0) (o : Option State) (f : MachineFault) → Granted P o → IfOk (ok_or o f) P
granted_made P None f h = tt
granted_made P (Some s) f h = h

-- an action puts a thread in its own thread's place, and nowhere else
module _ (s : State) (t u : ℕ) (other : u ≡ t → ⊥) where
  stays : (th : Thread) → thread_of (set s.threads t th) u ≡ thread_of s.threads u
  stays th = get_or-set_other s.threads t u th no_thread other

  performed_stays : (a : Action) → Granted (SameThread u s) (performed s t a)
  performed_stays stuck = tt
  performed_stays (quiet th) = stays th
  performed_stays (reads x f) = stays (f (get_or s.words x 0))
  performed_stays (writes x v th) = stays th
  performed_stays (fences th) = stays th
  performed_stays (swaps x e v th) = granted_then (SameThread u s) _ _ (stays th)
  performed_stays (opens th) = granted_then (SameThread u s) _ _ (stays th)
  performed_stays (shuts th) = granted_then (SameThread u s) _ _ (stays th)

  way_stays : (p : Program) (i : Instruction) (w : Option Way) → IfOk (step_way p s t i w) (SameThread u s)
  way_stays p i None = tt
  way_stays p i (Some w) =
      cond_both (can_go i w) _ _ (λ r. IfOk r (SameThread u s))
      (λ _. granted_made (SameThread u s) _ _
      (cond_both (may_step s.holder t) _ _ (Granted (SameThread u s)) (λ _. performed_stays _) (λ _. tt)))
      (λ _. tt)

  on_stays : (p : Program) (w : ℕ) (i : Option Instruction) → IfOk (step_on p s t w i) (SameThread u s)
  on_stays p w None = tt
  on_stays p w (Some i) = way_stays p i (way_of w)

pub other_threads_stay_lem : OtherThreadsStay
other_threads_stay_lem p s s' t w u h other =
    IfOk-at_ok (SameThread u s) h
    (cond_both (ltb t (length p.code)) _ _ (λ r. IfOk r (SameThread u s)) (λ _. on_stays s t u other p w _) (λ _. tt))

pub refused_steps_leave_the_run_lem : RefusedStepsLeaveTheRun
refused_steps_leave_the_run_lem p s c f h = ap (run_after s) h
