-- One turn of going through a table: what is left to check, one step on or at its fault.
use Rattle.std.proofs.Common.{◌≡◌, ℕ, ◌+◌, ◌-◌, ◌*◌, ◌<◌, List, Ok, Err, Result, ap, ◌∙◌, arith}
use Rattle.model.specs.declared.code.Kind.{Kind}
use Rattle.model.specs.declared.code.Limits.{Limits}
use Rattle.model.specs.declared.faults.TableFault.{TableFault}
use Rattle.model.specs.Steps.{and_then}
use Rattle.model.specs.Table.{count, entry_fault, entries_end, instruction_fault, code_fault, thread_fault, codes_fault}
use Rattle.table.proofs.Entries.{left}

pub then_ok : {A B E : Type 0} (r : Result A E) (x : A) (f : A → Result B E) → r ≡ Ok x → and_then r f ≡ f x
then_ok r x f e = ap (λ (v : _). and_then v f) e

pub then_err : {A B E : Type 0} (r : Result A E) (y : E) (f : A → Result B E) → r ≡ Err y → and_then r f ≡ Err y
then_err r y f e = ap (λ (v : _). and_then v f) e

module _ (k : Kind) (bs : List ℕ) (thread at n : ℕ) (h : thread < n) where
  entries_more : entries_end k bs thread at (n - thread)
      ≡ and_then (entry_fault k bs thread at) (λ _. entries_end k bs (thread + 1) (at + 6 * count bs thread) (n - (thread + 1)))
  entries_more = ap (entries_end k bs thread at) (left n thread h)

  pub entries_step : entry_fault k bs thread at ≡ Ok tt → entries_end k bs thread at (n - thread)
      ≡ entries_end k bs (thread + 1) (at + 6 * count bs thread) (n - (thread + 1))
  entries_step e = entries_more ∙ then_ok (entry_fault k bs thread at) tt _ e

  pub entries_stop : (f : TableFault) → entry_fault k bs thread at ≡ Err f → entries_end k bs thread at (n - thread) ≡ Err f
  entries_stop f e = entries_more ∙ then_err (entry_fault k bs thread at) f _ e

module _ (l : Limits) (bs : List ℕ) (start n place : ℕ) (h : place < n) where
  code_more : code_fault l bs (start + 6 * place) (n - place)
      ≡ and_then (instruction_fault l bs (start + 6 * place)) (λ _. code_fault l bs ((start + 6 * place) + 6) (n - (place + 1)))
  code_more = ap (code_fault l bs (start + 6 * place)) (left n place h)

  next : (start + 6 * place) + 6 ≡ start + 6 * (place + 1)
  next = omega arith

  pub code_step : instruction_fault l bs (start + 6 * place) ≡ Ok tt → code_fault l bs (start + 6 * place) (n - place)
      ≡ code_fault l bs (start + 6 * (place + 1)) (n - (place + 1))
  code_step e =
      code_more ∙ then_ok (instruction_fault l bs (start + 6 * place)) tt _ e
      ∙ ap (λ (at : ℕ). code_fault l bs at (n - (place + 1))) next

  pub code_stop : (f : TableFault) → instruction_fault l bs (start + 6 * place) ≡ Err f → code_fault l bs (start + 6 * place) (n - place) ≡ Err f
  code_stop f e = code_more ∙ then_err (instruction_fault l bs (start + 6 * place)) f _ e

module _ (bs : List ℕ) (thread n : ℕ) (h : thread < n) where
  codes_more : codes_fault bs thread (n - thread) ≡ and_then (thread_fault bs thread) (λ _. codes_fault bs (thread + 1) (n - (thread + 1)))
  codes_more = ap (codes_fault bs thread) (left n thread h)

  pub codes_step : thread_fault bs thread ≡ Ok tt → codes_fault bs thread (n - thread) ≡ codes_fault bs (thread + 1) (n - (thread + 1))
  codes_step e = codes_more ∙ then_ok (thread_fault bs thread) tt _ e

  pub codes_stop : (f : TableFault) → thread_fault bs thread ≡ Err f → codes_fault bs thread (n - thread) ≡ Err f
  codes_stop f e = codes_more ∙ then_err (thread_fault bs thread) f _ e
