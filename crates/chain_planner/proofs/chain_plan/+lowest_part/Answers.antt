-- The lower half of a block has the lower half of its pages.
use Rattle.std.proofs.Common.{sym}
use Rattle.chain_planner.proofs.Bounded.{uniform_is}
use Rattle.chain_planner.proofs.Planned.{uniform_part}
use Rattle.chain_planner.proofs.chain_plan.+lowest_part.Goals as goal

pub returns-in-Some-clause-means : goal.returns-in-Some-clause-means
returns-in-Some-clause-means g t c = λ view k means.
    uniform_part view c.args.levels k (g.H.Halving.shape c.args.block) c.in-Some.field-0
    (uniform_is (g.H.Halving.shape c.args.block) c.in-Some.field-0 (sym c.in-Some.ensures)) means
