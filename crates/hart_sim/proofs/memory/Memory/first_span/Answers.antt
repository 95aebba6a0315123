use Rattle.std.proofs.Common.{subst}
use Rattle.std.specs.Ordering.{nat_cmp}
use Rattle.std.specs.BTreeMap.Range.{IsRangeOf}
use Rattle.std.specs.declared.ops.Bound.TheVariants.{Included, Excluded}
use Rattle.hart_sim.proofs.Written.{first_of}
use Rattle.hart_sim.proofs.memory.Memory.first_span.Goals as goal

pub returns-in-Some-clause-found : goal.returns-in-Some-clause-found
returns-in-Some-clause-found c =
    first_of c.args.self.now.spans c.args.from c.args.end c.in-Some.span.now _ _
    (subst (λ xs. IsRangeOf nat_cmp (Included c.args.from) (Excluded c.args.end) c.args.self.now.spans xs) c.in-Some.ensures.steps
    (c.range.ensures.in_range tt))
