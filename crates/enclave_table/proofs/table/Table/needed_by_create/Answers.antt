use Rattle.std.proofs.Common.{◌≡◌, ◌∙◌, ◌+◌, ◌/◌, sym, ap, subst, Some}
use Rattle.pmp_encoding.specs.declared.perm.Perm.TheVariants.{NoAccess}
use Rattle.pmp_match.specs.Meaning.{Needs}
use Rattle.permission_map.specs.Views.{SameView, overwritten}
use Rattle.enclave_table.specs.Enclaves.{EnclaveTable, with_enclave}
use Rattle.enclave_table.specs.Views.{host_view, enclave_view}
use Rattle.measurement.specs.declared.request.Create.{Create}
use Rattle.pmp_encoding.specs.declared.pages.PageRange.{PageRange}
use Rattle.enclave_table.proofs.Placed.{free_place, host_added}
use Rattle.enclave_table.proofs.SameViews.{needs_of, needs_same}
use Rattle.enclave_table.proofs.Created.{along}
use Rattle.enclave_table.proofs.table.Table.needed_by_create.Goals as goal

abbrev private_range : Create → PageRange
private_range parts = record { first = parts.base / 4096; count = parts.text_pages + parts.data_pages }

pub returns-clause-host : goal.returns-clause-host
returns-clause-host c = λ id e next parts_are.
    let old : EnclaveTable = c.args.self.now.table in
    let parts : Create = c.normalized-parts.result in
    let range : PageRange = c.private_pages.result in
    let same_parts : parts ≡ e.parts = c.normalized-parts.ensures ∙ sym parts_are in
    let range_is : range ≡ private_range e.parts = c.private_pages.ensures.value ∙ ap private_range same_parts in
    let same : SameView (overwritten (host_view old) range.first range.count NoAccess) (host_view (with_enclave old id (Some e))) =
    along (host_view old) (host_view (with_enclave old id (Some e))) range (private_range e.parts) NoAccess range_is
    (host_added old id e (free_place old id c.cite_invariant.ensures.table next.free.0 next.free.1) next.free.2) in
    rw c.needed.ensures
    (needs_same (overwritten (host_view old) range.first range.count NoAccess) (host_view (with_enclave old id (Some e))) _ same
    (needs_of (overwritten (host_view old) range.first range.count NoAccess) c.in_ok-host.host.plan.entries c.in_ok-host.ensures.fewest))

pub returns-clause-own : goal.returns-clause-own
returns-clause-own c =
    let P : Create → Type 0 = λ parts. Needs (enclave_view parts) c.needed-2.result in
    subst P c.normalized-parts.ensures (rw c.needed-2.ensures (needs_of (enclave_view c.normalized-parts.result) c.in_ok-own.own.entries c.in_ok-own.ensures))
