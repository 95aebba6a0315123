use Rattle.enclave_table.specs.Views.{current_view}
use Rattle.enclave_table.proofs.SameViews.{needs_of}
use Rattle.monitor_core.specs.Cores.{core_kept, worlds_of}
use Rattle.monitor_core.specs.Parts.{world_in}
use Rattle.monitor_core.proofs.steps.Core.used.Goals as goal

pub returns : goal.returns
unfolding core_kept worlds_of
returns c =
    let p = c.args.self.now.parts in
    needs_of (current_view p.table.table (world_in p.worlds c.args.hart)) c.entries.result.now c.entries.ensures.list.fewest
