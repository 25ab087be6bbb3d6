-- Written, since the check does not find that three lists stay and one loses its first store.
use Rattle.std.proofs.Common.{◌≡◌, ◌+◌, ◌-◌, ◌%◌, ◌<◌, List, ◌∷◌, drop, get_or, set, sym, ap, ◌∙◌, refl, rules, arith}
use Rattle.std.proofs.lemmas.Grind.{common_steps}
use Rattle.std.proofs.lemmas.List.{get_or_default}
use Rattle.model.specs.declared.state.Store.{Store}
use Rattle.memory.specs.Rings.{no_span, no_store, place, queue, queue_value, ring, span_of}
use Rattle.memory.proofs.Ring.{queue_is, ring_first, taken}
use Rattle.memory.proofs.rings.Rings.write_oldest.Goals as goal

pub returns-clause-after : goal.returns-clause-after
returns-clause-after c =
    let ps = c.self.inside.places in
    let ss = c.self.inside.spans in
    let t = c.args.thread in
    let lt : t < 4 = search rules in
    let head : get_or ss t c.index-self-thread.result ≡ span_of ss t = get_or_default ss t _ no_span (omega arith) in
    let count : get_or ss t c.index-self-thread-2.result ≡ span_of ss t = get_or_default ss t _ no_span (omega arith) in
    let some : 0 < (span_of ss t).count = grind (arith, common_steps, count) in
    let first = get_or ps (place t ((span_of ss t).head + 0)) no_store in
    let rest = ring ps t (((span_of ss t).head + 1) % 64) ((span_of ss t).count - 1) in
    let pending : queue c.args.self.now t ≡ first ∷ rest =
    ap (λ (ls : List (List Store)). queue ls t) (sym c.self.view_is) ∙ queue_is ps ss t lt ∙ ring_first ps t (span_of ss t).head (span_of ss t).count some in
    let written : c.set.new.self ≡ set c.args.words.now first.word first.value = grind (arith, common_steps, head) in
    ap (queue_value c.set.new.self)
    (taken ps ss t lt _ (search rules) (rw head refl) (rw count refl) some
    ∙ ap (λ (ls : List (List Store)). set ls t (drop 1 (queue ls t))) c.self.view_is)
    ∙ grind (arith, common_steps, pending, written)
