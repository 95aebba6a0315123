-- The costs that are kept are those of the plan.
use Rattle.std.proofs.Common.{◌∙◌, ◌<◌, ap, length, subst, sym}
use Rattle.entry_planner.specs.Plans.{PlanOf, cost_in}
use Rattle.entry_planner.proofs.planned.Plan.cost.Goals as goal

pub cost-requires : goal.cost-requires
cost-requires g c = let P : PlanOf _ → Type 0 = λ v. c.args.i < length v.costs in subst P (sym c.self.view_is) c.requires

pub returns : goal.returns
returns g c = c.cost.ensures ∙ ap (λ v. cost_in v.costs c.args.i c.args.perm) c.self.view_is
