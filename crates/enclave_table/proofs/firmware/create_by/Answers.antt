use Rattle.std.proofs.Common.{ℕ, ◌≡◌, ◌∙◌, ◌+◌, ◌/◌, ap, subst, Some, List}
use Rattle.pmp_encoding.specs.declared.limit.Limit.{Limit}
use Rattle.pmp_encoding.specs.declared.perm.Perm.TheVariants.{NoAccess}
use Rattle.permission_map.specs.Views.{overwritten}
use Rattle.enclave_table.specs.Enclaves.{EnclaveTable, with_enclave}
use Rattle.enclave_table.specs.Views.{host_view, enclave_view}
use Rattle.enclave_table.specs.Tables.{Kept}
use Rattle.enclave_table.specs.Fewest.{IsListOf}
use Rattle.enclave_table.specs.Create.{fresh, OutgrowsByCreate}
use Rattle.measurement.specs.declared.request.Create.{Create}
use Rattle.enclave_table.specs.declared.enclave.Enclave.{Enclave}
use Rattle.enclave_table.specs.declared.enclave.Stage.TheVariants.{Fresh}
use Rattle.pmp_encoding.specs.declared.pages.PageRange.{PageRange}
use Rattle.enclave_table.proofs.Placed.{free_place, host_added, added_kept}
use Rattle.enclave_table.proofs.SameViews.{list_same, tree_same, fits_same}
use Rattle.enclave_table.proofs.Created.{along, fits_from, sound_from, apart_from, host_want, enclave_want, creates}
use Rattle.enclave_table.proofs.Refused.{handed_on}
use Rattle.enclave_table.proofs.firmware.create_by.Goals as goal
use Rattle.enclave_table.specs.Refusals.{RefusesBy}
use Rattle.enclave_table.specs.Checks.{create_checks}
use Rattle.measurement.specs.Requests.{parts_of}

abbrev private_range : Create → PageRange
private_range parts = record { first = parts.base / 4096; count = parts.text_pages + parts.data_pages }

pub returns-in_err-host-clause-refused : goal.returns-in_err-host-clause-refused
returns-in_err-host-clause-refused g c =
    let old : EnclaveTable = c.args.table.now.table in
    let digests : Create → List ℕ = g.D.Digests.digest_of c.args.digests.now in
    let parts : Create = c.normalized-parts.result in
    let range : PageRange = c.private_pages.result in
    let free = c.in_ok-id.ensures.next.free in
    handed_on c.from_residual-in_err-host.result c.in_err-host.field-0.0 (RefusesBy (create_checks old c.args.world (parts_of c.args.asked))
    (OutgrowsByCreate digests old c.args.asked)) c.from_residual-in_err-host.ensures.1
    (host_want digests old c.args.world c.args.asked parts c.in_ok-id.id (overwritten (host_view old) range.first range.count NoAccess) c.in_err-host.field-0.0
    c.normalized-parts.ensures c.in_ok-id.ensures.passes c.in_ok-id.ensures.next
    (along (host_view old) (host_view (with_enclave old c.in_ok-id.id (Some (fresh digests parts)))) range
    (private_range parts) NoAccess c.private_pages.ensures.value
    (host_added old c.in_ok-id.id (fresh digests parts) (free_place old c.in_ok-id.id c.cite_invariant.ensures.table free.0 free.1) free.2))
    c.in_err-host.ensures.want)

pub returns-in_err-list-clause-refused : goal.returns-in_err-list-clause-refused
returns-in_err-list-clause-refused g c =
    let old : EnclaveTable = c.args.table.now.table in
    let digests : Create → List ℕ = g.D.Digests.digest_of c.args.digests.now in
    handed_on c.from_residual-in_err-list.result c.in_err-list.field-0.0 (RefusesBy (create_checks old c.args.world (parts_of c.args.asked))
    (OutgrowsByCreate digests old c.args.asked)) c.from_residual-in_err-list.ensures.1
    (enclave_want digests old c.args.world c.args.asked c.normalized-parts.result c.limit.result c.in_err-list.field-0.0 c.normalized-parts.ensures
    c.limit.ensures
    c.in_ok-id.ensures.passes c.in_err-list.ensures.want)

pub place-requires-clause-kept : goal.place-requires-clause-kept
place-requires-clause-kept g c =
    let old : EnclaveTable = c.args.table.now.table in
    let parts : Create = c.normalized-parts.result in
    let range : PageRange = c.private_pages.result in
    let free = c.in_ok-id.ensures.next.free in
    let e : Enclave = record { parts = parts; state = Fresh; digest = c.digest_by-digest.result } in
    let L : Limit → Type 0 = λ l. IsListOf l (enclave_view parts) c.in_ok-list.list in
    rw c.digest_by-digest.ensures.kept
    (added_kept c.args.table.now c.in_ok-id.id e c.in_ok-host.host.list c.in_ok-list.list
    (free_place old c.in_ok-id.id c.cite_invariant.ensures.table free.0 free.1) c.cite_invariant.ensures.kept
    (sound_from old c.args.world parts c.in_ok-id.ensures.passes) (apart_from old c.args.world parts c.in_ok-id.ensures.passes)
    (list_same old.layout.limit (overwritten (host_view old) range.first range.count NoAccess)
    (host_view (with_enclave old c.in_ok-id.id (Some e))) c.in_ok-host.host.list
    (along (host_view old) (host_view (with_enclave old c.in_ok-id.id (Some e))) range (private_range parts) NoAccess c.private_pages.ensures.value
    (host_added old c.in_ok-id.id e (free_place old c.in_ok-id.id c.cite_invariant.ensures.table free.0 free.1) free.2))
    c.in_ok-host.ensures.list)
    (subst L c.limit.ensures c.in_ok-list.ensures.list))

pub place-requires-clause-tree : goal.place-requires-clause-tree
place-requires-clause-tree g c =
    let old : EnclaveTable = c.args.table.now.table in
    let parts : Create = c.normalized-parts.result in
    let range : PageRange = c.private_pages.result in
    let free = c.in_ok-id.ensures.next.free in
    let e : Enclave = record { parts = parts; state = Fresh; digest = c.digest_by-digest.result } in
    rw c.digest_by-digest.ensures.kept
    (record {
      means = tree_same (overwritten (host_view old) range.first range.count NoAccess)
          (host_view (with_enclave old c.in_ok-id.id (Some e))) c.in_ok-host.host.tree
          (along (host_view old) (host_view (with_enclave old c.in_ok-id.id (Some e))) range (private_range parts) NoAccess c.private_pages.ensures.value
          (host_added old c.in_ok-id.id e (free_place old c.in_ok-id.id c.cite_invariant.ensures.table free.0 free.1) free.2))
          c.in_ok-host.ensures.means;
      canonical = c.in_ok-host.ensures.canonical;
    })

pub returns-clause-done : goal.returns-clause-done
returns-clause-done g c =
    let old : EnclaveTable = c.args.table.now.table in
    let parts : Create = c.normalized-parts.result in
    let range : PageRange = c.private_pages.result in
    let free = c.in_ok-id.ensures.next.free in
    let e : Enclave = fresh (g.D.Digests.digest_of c.args.digests.now) parts in
    let L : Limit → Type 0 = λ l. IsListOf l (enclave_view parts) c.in_ok-list.list in
    let added : c.place.new.self.table ≡ with_enclave old c.in_ok-id.id (Some e) =
    ap (λ (k : Kept). k.table) (rw c.digest_by-digest.ensures.kept at c.place.ensures)
    ∙ ap (λ (d : List ℕ). with_enclave old c.in_ok-id.id (Some (record { parts = parts; state = Fresh; digest = d }))) c.digest_by-digest.ensures.value in
    creates (g.D.Digests.digest_of c.args.digests.now) old c.args.world c.args.asked parts c.in_ok-id.id c.place.new.self.table c.normalized-parts.ensures
    c.in_ok-id.ensures.passes c.in_ok-id.ensures.next added
    (fits_same old.layout.limit (overwritten (host_view old) range.first range.count NoAccess) (host_view (with_enclave old c.in_ok-id.id (Some e)))
    (along (host_view old) (host_view (with_enclave old c.in_ok-id.id (Some e))) range (private_range parts) NoAccess c.private_pages.ensures.value
    (host_added old c.in_ok-id.id e (free_place old c.in_ok-id.id c.cite_invariant.ensures.table free.0 free.1) free.2))
    (fits_from old.layout.limit (overwritten (host_view old) range.first range.count NoAccess) c.in_ok-host.host.list c.in_ok-host.ensures.list))
    (fits_from old.layout.limit (enclave_view parts) c.in_ok-list.list (subst L c.limit.ensures c.in_ok-list.ensures.list))
