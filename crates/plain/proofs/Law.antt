-- The calls that were granted suffice: alone they lead to the same end, each is granted again, and as bytes they are taken whole.
use Rattle.std.proofs.Common.{◌≡◌, ℕ, ◌+◌, ◌*◌, ◌/◌, ◌%◌, ◌<◌, ◌≤◌, eqb, leb, List, [], ◌∷◌, length, get_or, Some, None, Ok, Err, Option, Result, sym, refl, ap, ◌∙◌, ⊎_elim, arith}
use Rattle.std.proofs.lemmas.Bool.{cases_lt, lt-ltb, le-ltb, ne_eqb, cond-true, cond-false}
use Rattle.model.specs.Action.{way_of}
use Rattle.model.specs.Plain.{new_run, run_after, step, step_on, step_way, thread_of}
use Rattle.model.specs.Runs.{Call, Suffice, GrantedSuffice, GrantedTaken, NewRuns, AllSteps, as_bytes, asked, granted, kept, at_index, byte_step, ran_on, ran_from}
use Rattle.model.proofs.EncodedBack.{header_back}
use Rattle.model.proofs.Reading.{passed, passed_demand}
use Rattle.model.specs.Table.{Program, decode, fetch, table_fault, header_fault, program_of}
use Rattle.model.specs.declared.code.Instruction.{Instruction}
use Rattle.model.specs.declared.state.State.{State}
use Rattle.model.specs.declared.faults.MachineFault.{MachineFault}
use Rattle.model.specs.declared.faults.MachineFault.TheVariants.{NoThread}
use Rattle.model.specs.declared.faults.StepsFault.{StepsFault}
use Rattle.table.proofs.Fetch.{length_codes}

module _ (p : Program) (s : State) (c : Call) (cs : List Call) (ih : (t : State) → Suffice p t cs) where
  suffice_more : (r : Result State MachineFault) → step p s c.thread c.way ≡ r
      → (asked p s (kept c r (granted p (run_after s r) cs)) ≡ asked p (run_after s r) cs)
      × (granted p s (kept c r (granted p (run_after s r) cs)) ≡ kept c r (granted p (run_after s r) cs))
  suffice_more (Ok t) e = (
    ap (λ (r : Result State MachineFault). asked p (run_after s r) (granted p t cs)) e ∙ (ih t).0,
    ap (λ (r : Result State MachineFault). kept c r (granted p (run_after s r) (granted p t cs))) e ∙ ap (λ (ds : List Call). c ∷ ds) (ih t).1,
  )
  suffice_more (Err f) e = ih s

pub suffice : GrantedSuffice
suffice p s [] = (refl, refl)
suffice p s (c ∷ cs) = suffice_more p s c cs (λ t. suffice p t cs) (step p s c.thread c.way) refl

module _ (p : Program) (s u : State) (t w : ℕ) (e : step p s t w ≡ Ok u) where
  granted_thread : t < length p.code
  granted_thread =
      ⊎_elim (λ h. h)
      (λ past.
      let no : step p s t w ≡ Err (NoThread t) = cond-false _ _ _ (le-ltb t (length p.code) past) in
      let z : ◌≡◌ {A = ℕ} 0 1 = cc in absurd (omega arith))
      (cases_lt t (length p.code))

lost_way : (p : Program) (s u : State) (t w : ℕ) (o : Option Instruction) → way_of w ≡ None → step_on p s t w o ≡ Ok u → ⊥
lost_way p s u t w None n e = let z : ◌≡◌ {A = ℕ} 0 1 = cc in omega arith
lost_way p s u t w (Some i) n e =
    let no = ap (step_way p s t i) n in let z : ◌≡◌ {A = ℕ} 0 1 = cc in omega arith

module _ (p : Program) (s u : State) (t w : ℕ) (e : step p s t w ≡ Ok u) where
  no_way : 2 ≤ w → way_of w ≡ None
  no_way h =
      cond-false (eqb w 0) _ _ (ne_eqb w 0 (λ is. omega arith))
      ∙ cond-false (eqb w 1) _ _ (ne_eqb w 1 (λ is. omega arith))

  granted_way : w < 2
  granted_way =
      ⊎_elim (λ h. h)
      (λ past. absurd (lost_way p s u t w (fetch p t (thread_of s.threads t).place) (no_way past) (sym (cond-true _ _ _ (lt-ltb t (length p.code) (granted_thread p s u t w e))) ∙ e)))
      (cases_lt w 2)

byte_in : (p : Program) (s : State) (i b : ℕ) → b < 8 → byte_step p s i b ≡ at_index i (step p s (b % 4) (b / 4))
byte_in p s i b low = cond-true _ _ _ (lt-ltb b 8 low)

module _ (p : Program) (few : length p.code ≤ 4) where
  byte_granted : (s u : State) (i t w : ℕ) → step p s t w ≡ Ok u → (t + 4 * w < 8) × (byte_step p s i (t + 4 * w) ≡ Ok u)
  byte_granted s u i t w e =
      let there : t < length p.code = granted_thread p s u t w e in
      let below : w < 2 = granted_way p s u t w e in
      let low : t + 4 * w < 8 = omega arith in
      let thread : (t + 4 * w) % 4 ≡ t = omega arith in
      let way : (t + 4 * w) / 4 ≡ w = omega arith in (
        low,
        byte_in p s i (t + 4 * w) low
            ∙ ap (λ (n : ℕ). at_index i (step p s n ((t + 4 * w) / 4))) thread
            ∙ ap (λ (n : ℕ). at_index i (step p s t n)) way
            ∙ ap (at_index i) e,
      )

  abbrev TakenFrom : State → ℕ → List Call → Type 0
  TakenFrom s i cs =
      AllSteps (as_bytes (granted p s cs))
      × (ran_from p s i (as_bytes (granted p s cs)) ≡ record { answer = Ok tt; state = asked p s cs })

  module _ (s : State) (i : ℕ) (c : Call) (cs : List Call) (ih : (t : State) (j : ℕ) → TakenFrom t j cs) where
    taken_more : (r : Result State MachineFault) → step p s c.thread c.way ≡ r
        → AllSteps (as_bytes (kept c r (granted p (run_after s r) cs)))
        × (ran_from p s i (as_bytes (kept c r (granted p (run_after s r) cs))) ≡ record { answer = Ok tt; state = asked p (run_after s r) cs })
    taken_more (Ok t) e =
        let one = byte_granted s t i c.thread c.way e in (
          (one.0, (ih t (i + 1)).0),
          ap (λ (r : Result State StepsFault). ran_on s r (λ after. ran_from p after (i + 1) (as_bytes (granted p t cs)))) one.1
              ∙ (ih t (i + 1)).1,
        )
    taken_more (Err f) e = ih s i

  taken_from : (s : State) (i : ℕ) (cs : List Call) → TakenFrom s i cs
  taken_from s i [] = (tt, refl)
  taken_from s i (c ∷ cs) = taken_more s i c cs (λ t j. taken_from t j cs) (step p s c.thread c.way) refl

-- a table has at most four threads
few_threads : (bs : List ℕ) (p : Program) → decode bs ≡ Ok p → length p.code ≤ 4
few_threads bs p e =
    let whole = passed (table_fault bs) _ p e in
    let long = passed_demand (leb 6 (length bs)) _ _ _ whole.1 in
    let header = header_back bs (passed (header_fault bs) _ _ long.1).1 in
    let same : program_of bs ≡ p = cc whole.2 in
    let count : length p.code ≡ get_or bs 2 0 = sym (ap (λ (q : Program). length q.code) same) ∙ length_codes bs 0 (get_or bs 2 0) in
    omega (arith, header.threads)

pub taken : GrantedTaken
taken bs p e s cs = taken_from p (few_threads bs p e) s 0 cs

pub new_runs : NewRuns
new_runs bs p e cs = (suffice p new_run cs, taken bs p e new_run cs)
