use Rattle.std.proofs.Common.{◌∙◌, sym}
use Rattle.chain_planner.specs.ChainPlans.{list_of}
use Rattle.chain_entries.proofs.Listed.{bottom_behind}
use Rattle.chain_entries.proofs.bottom_of.Goals as goal

pub returns-in-Some-last-clause-value : goal.returns-in-Some-last-clause-value
returns-in-Some-last-clause-value c =
    let last = rw c.deref.ensures.value at (sym c.in-Some-last.ensures.value) in
    c.encode.ensures.address ∙ sym (bottom_behind (list_of c.args.plan.now) c.in-Some-last.entry.now c.in_default.is last)
