use Rattle.std.proofs.Common.{IfSome, sym, subst}
use Rattle.enclave_table.specs.Fewest.{IsListOf}
use Rattle.monitor_core.specs.States.{view_of}
use Rattle.monitor_core.proofs.Cases.{if_some}
use Rattle.monitor_core.proofs.Moved.{live_view}
use Rattle.monitor_core.proofs.parts.MonitorParts.entries_of.Goals as goal

pub returns-in-Host-clause-list : goal.returns-in-Host-clause-list
returns-in-Host-clause-list c =
    let table = c.args.self.now.table.table in
    subst (λ w. IsListOf table.layout.limit (view_of table w) c.host_entries.result.now) (sym c.in-Host.is) c.host_entries.ensures.list

pub returns-in-Enclave-clause-list : goal.returns-in-Enclave-clause-list
returns-in-Enclave-clause-list c =
    let table = c.args.self.now.table.table in
    let found = c.enclave_entries.result in
    subst (λ w. IfSome found (λ entries. IsListOf table.layout.limit (view_of table w) entries.now)) (sym c.in-Enclave.is)
    (if_some found (λ entries l. subst (λ v. IsListOf table.layout.limit v entries.now) (sym (live_view table c.in-Enclave.id l.0 l.1)) l.2)
    c.enclave_entries.ensures.list)
