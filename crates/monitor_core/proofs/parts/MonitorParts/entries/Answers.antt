use Rattle.std.proofs.Common.{subst}
use Rattle.enclave_table.specs.Fewest.{IsListOf}
use Rattle.monitor_core.specs.States.{view_of}
use Rattle.monitor_core.proofs.parts.MonitorParts.entries.Goals as goal

pub returns-clause-list : goal.returns-clause-list
returns-clause-list c =
    let table = c.args.self.now.table.table in
    subst (λ w. IsListOf table.layout.limit (view_of table w) c.in-Some.entries.now) c.world.ensures c.in-Some.ensures.list
