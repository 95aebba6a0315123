use Rattle.std.proofs.Common.{◌+◌, ◌/◌, None}
use Rattle.pmp_encoding.specs.declared.perm.Perm.TheVariants.{ReadWriteExecute}
use Rattle.permission_map.specs.Views.{SameView, overwritten}
use Rattle.enclave_table.specs.Enclaves.{EnclaveTable, with_enclave}
use Rattle.enclave_table.specs.Views.{host_view}
use Rattle.enclave_table.specs.declared.enclave.Enclave.{Enclave}
use Rattle.pmp_encoding.specs.declared.pages.PageRange.{PageRange}
use Rattle.enclave_table.proofs.Placed.{host_removed}
use Rattle.enclave_table.proofs.SameViews.{needs_of, needs_same}
use Rattle.enclave_table.proofs.Created.{along}
use Rattle.enclave_table.proofs.table.Table.needed_by_destroy.Goals as goal

abbrev private_range : Enclave → PageRange
private_range e = record { first = e.parts.base / 4096; count = e.parts.text_pages + e.parts.data_pages }

pub returns-clause-host : goal.returns-clause-host
returns-clause-host c =
    let old : EnclaveTable = c.args.self.now.table in
    let e : Enclave = c.in-Ok.enclave in
    let range : PageRange = c.private_pages.result in
    let same : SameView (overwritten (host_view old) range.first range.count ReadWriteExecute) (host_view (with_enclave old c.args.id None)) =
    along (host_view old) (host_view (with_enclave old c.args.id None)) range (private_range e) ReadWriteExecute c.private_pages.ensures.value
    (host_removed old c.args.id e c.cite_invariant.ensures.table c.in-Ok.ensures.live) in
    rw c.needed.ensures
    (needs_same (overwritten (host_view old) range.first range.count ReadWriteExecute) (host_view (with_enclave old c.args.id None)) _ same
    (needs_of (overwritten (host_view old) range.first range.count ReadWriteExecute) c.in_ok-host.host.plan.entries c.in_ok-host.ensures.fewest))
