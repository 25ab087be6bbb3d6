-- Written, since the check does not find that three lists stay and one grows.
use Rattle.std.proofs.Common.{◌≡◌, ◌<◌, List, [], ◌∷◌, ◌++◌, get_or, set, ap, ◌∙◌, refl, rules, arith}
use Rattle.std.proofs.lemmas.Grind.{common_steps}
use Rattle.std.proofs.lemmas.List.{get_or_default}
use Rattle.model.specs.declared.state.Store.{Store}
use Rattle.memory.specs.Rings.{no_span, span_of, queue}
use Rattle.memory.proofs.Ring.{length_queue, stored}
use Rattle.memory.proofs.rings.Rings.append.Goals as goal

pub returns-clause-answer : goal.returns-clause-answer
returns-clause-answer c =
    let lt : c.args.thread < 4 = search rules in
    let e = length_queue c.self.inside.places c.self.inside.spans c.args.thread lt in
    grind (arith, common_steps, e)

pub returns-clause-stored : goal.returns-clause-stored
returns-clause-stored c =
    let ps = c.self.inside.places in
    let ss = c.self.inside.spans in
    let t = c.args.thread in
    let lt : t < 4 = search rules in
    let head : get_or ss t c.index-self-thread.result ≡ span_of ss t = get_or_default ss t _ no_span (omega arith) in
    let count : get_or ss t c.index-self-thread-2.result ≡ span_of ss t = get_or_default ss t _ no_span (omega arith) in
    let few : (span_of ss t).count < 64 = grind (arith, common_steps, count) in
    stored ps ss t lt _ (search rules) c.args.store c.place.result (c.place.ensures ∙ rw (head, count) refl) (rw head refl) (rw count refl) few (search rules)
    ∙ ap (λ (ls : List (List Store)). set ls t (queue ls t ++ c.args.store ∷ [])) c.self.view_is
