-- Written, since the check does not find what the newest of the stores that are left decides.
use Rattle.std.proofs.Common.{◌≡◌, ◌<◌, List, get_or, ap, ◌∙◌, sym, refl, rules, arith}
use Rattle.std.proofs.lemmas.Grind.{common_steps}
use Rattle.std.proofs.lemmas.List.{get_or_default}
use Rattle.model.specs.Memory.{latest}
use Rattle.model.specs.declared.state.Store.{Store}
use Rattle.memory.specs.Rings.{no_span, ring, span_of, queue}
use Rattle.memory.proofs.Ring.{queue_is, latest_more}
use Rattle.memory.proofs.rings.Rings.latest.Goals as goal

pub loop-steps-init : goal.loop-steps-init
loop-steps-init c =
    let ps = c.self.inside.places in
    let ss = c.self.inside.spans in
    let t = c.args.thread in
    let lt : t < 4 = search rules in
    let head : get_or ss t c.index-self-thread.result ≡ span_of ss t = get_or_default ss t _ no_span (omega arith) in
    let count : get_or ss t c.index-self-thread-2.result ≡ span_of ss t = get_or_default ss t _ no_span (omega arith) in
    let same : ring ps t (get_or ss t c.index-self-thread.result).head (get_or ss t c.index-self-thread-2.result).count
    ≡ ring ps t (span_of ss t).head (span_of ss t).count = rw (head, count) refl in
    ap (λ (rs : List Store). latest rs c.args.word c.args.held)
    (same ∙ sym (queue_is ps ss t lt) ∙ ap (λ (ls : List (List Store)). queue ls t) c.self.view_is)

pub returns-then-store-word : goal.returns-then-store-word
returns-then-store-word c =
    let head = (get_or c.self.inside.spans c.args.thread c.index-self-thread.result).head in
    let e = latest_more c.self.inside.places c.args.thread head c.loop-steps.steps c.args.word c.args.held (omega arith) in
    grind (arith, common_steps, e)

pub loop-steps-preserved : goal.loop-steps-preserved
loop-steps-preserved c =
    let head = (get_or c.self.inside.spans c.args.thread c.index-self-thread.result).head in
    let e = latest_more c.self.inside.places c.args.thread head c.loop-steps.steps c.args.word c.args.held (omega arith) in
    grind (arith, common_steps, e)
