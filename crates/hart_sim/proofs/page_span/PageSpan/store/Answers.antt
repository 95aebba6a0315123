use Rattle.std.proofs.Common.{◌/◌, ◌∙◌, Some, slice_set, ap}
use Rattle.hart_sim.proofs.Groups.{on_err, put_back, same_group}
use Rattle.hart_sim.proofs.page_span.PageSpan.store.Goals as goal

pub returns-in-Some-clause-kept : goal.returns-in-Some-clause-kept
returns-in-Some-clause-kept c =
    let at = c.args.place / 64 in
    on_err c.store.result
    (λ kept. ap (λ gs. record { groups = gs })
    (ap (λ o. slice_set c.args.self.now.groups at (Some o)) (same_group c.in-Some.group c.store.new.self _ kept c.deref_mut.ensures.value)
    ∙ put_back c.args.self.now.groups at (Some c.in-Some.group) c.index-self-place.result c.in-Some.is))
    c.store.ensures.kept
