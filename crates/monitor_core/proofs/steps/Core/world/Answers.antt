use Rattle.std.proofs.Common.{sym, subst}
use Rattle.sbi_decode.specs.Runners.{IsWorld}
use Rattle.monitor_core.proofs.Said.{world_has_set}
use Rattle.monitor_core.proofs.steps.Core.world.Goals as goal

pub returns-clause-is_world : goal.returns-clause-is_world
returns-clause-is_world c =
    let self = c.args.self.now in
    subst IsWorld (sym c.world.ensures) (world_has_set self.parts c.args.hart c.cite_invariant.ensures.table.places self.whole)
