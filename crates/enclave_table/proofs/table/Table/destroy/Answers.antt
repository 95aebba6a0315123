use Rattle.std.proofs.Common.{◌≡◌, ◌∙◌, ◌+◌, ◌/◌, sym, ap, subst, None}
use Rattle.std.proofs.lemmas.Option.{same_Some}
use Rattle.pmp_encoding.specs.declared.perm.Perm.TheVariants.{ReadWriteExecute}
use Rattle.permission_map.specs.Views.{overwritten}
use Rattle.enclave_table.specs.Enclaves.{EnclaveTable, with_enclave}
use Rattle.enclave_table.specs.Views.{host_view}
use Rattle.enclave_table.specs.Tables.{Kept}
use Rattle.enclave_table.specs.Fewest.{FitsIn, NeedsMore}
use Rattle.enclave_table.specs.declared.enclave.Enclave.{Enclave}
use Rattle.pmp_encoding.specs.declared.pages.PageRange.{PageRange}
use Rattle.enclave_table.proofs.Places.{live_inside}
use Rattle.enclave_table.proofs.Placed.{host_removed, removed_kept}
use Rattle.enclave_table.proofs.Refused.{destroy_want, handed_on}
use Rattle.enclave_table.proofs.SameViews.{list_same, tree_same, fits_same}
use Rattle.enclave_table.proofs.Created.{along, fits_from}
use Rattle.enclave_table.proofs.table.Table.destroy.Goals as goal
use Rattle.enclave_table.specs.Refusals.{RefusesBy}
use Rattle.enclave_table.specs.Checks.{host_checks, MayDestroy}

abbrev private_range : Enclave → PageRange
private_range e = record { first = e.parts.base / 4096; count = e.parts.text_pages + e.parts.data_pages }

pub returns-in_err-host-clause-refused : goal.returns-in_err-host-clause-refused
returns-in_err-host-clause-refused c =
    let old : EnclaveTable = c.args.self.now.table in
    let e : Enclave = c.in_ok-enclave.enclave in
    let range : PageRange = c.private_pages-range.result in
    handed_on c.from_residual-in_err-host.result c.in_err-host.field-0.0 (RefusesBy (host_checks MayDestroy old c.args.world c.args.id)
    (NeedsMore old.layout.limit (host_view (with_enclave old c.args.id None)))) c.from_residual-in_err-host.ensures.1
    (destroy_want old c.args.world c.args.id (overwritten (host_view old) range.first range.count ReadWriteExecute) c.in_err-host.field-0.0
    c.in_ok-enclave.ensures.passes
    (along (host_view old) (host_view (with_enclave old c.args.id None)) range (private_range e) ReadWriteExecute c.private_pages-range.ensures.value
    (host_removed old c.args.id e c.cite_invariant.ensures.table c.in_ok-enclave.ensures.live))
    c.in_err-host.ensures.want)

pub place-requires-clause-kept : goal.place-requires-clause-kept
place-requires-clause-kept c =
    let old : EnclaveTable = c.args.self.now.table in
    let e : Enclave = c.in_ok-enclave.enclave in
    let range : PageRange = c.private_pages-range.result in
    removed_kept c.args.self.now c.args.id c.in_ok-host.host.list c.empty-list.result
    (c.in_ok-enclave.ensures.above, live_inside old.enclaves c.args.id e c.in_ok-enclave.ensures.live) c.cite_invariant.ensures.kept
    (list_same old.layout.limit (overwritten (host_view old) range.first range.count ReadWriteExecute)
    (host_view (with_enclave old c.args.id None)) c.in_ok-host.host.list
    (along (host_view old) (host_view (with_enclave old c.args.id None)) range (private_range e) ReadWriteExecute c.private_pages-range.ensures.value
    (host_removed old c.args.id e c.cite_invariant.ensures.table c.in_ok-enclave.ensures.live))
    c.in_ok-host.ensures.list)

pub place-requires-clause-tree : goal.place-requires-clause-tree
place-requires-clause-tree c =
    let old : EnclaveTable = c.args.self.now.table in
    let e : Enclave = c.in_ok-enclave.enclave in
    let range : PageRange = c.private_pages-range.result in
    record {
      means = tree_same (overwritten (host_view old) range.first range.count ReadWriteExecute)
          (host_view (with_enclave old c.args.id None)) c.in_ok-host.host.tree
          (along (host_view old) (host_view (with_enclave old c.args.id None)) range (private_range e) ReadWriteExecute c.private_pages-range.ensures.value
          (host_removed old c.args.id e c.cite_invariant.ensures.table c.in_ok-enclave.ensures.live))
          c.in_ok-host.ensures.means;
      canonical = c.in_ok-host.ensures.canonical;
    }

pub returns-clause-done : goal.returns-clause-done
returns-clause-done c =
    let old : EnclaveTable = c.args.self.now.table in
    let e : Enclave = c.in_ok-enclave.enclave in
    let range : PageRange = c.private_pages-range.result in
    let removed : c.place.new.self.table ≡ with_enclave old c.args.id None = ap (λ (k : Kept). k.table) c.place.ensures in
    let H : EnclaveTable → Type 0 = λ t. FitsIn t.layout.limit (host_view t) in
    record {
      passes = c.in_ok-enclave.ensures.passes;
      pages = λ f live. c.private_pages-range.ensures.value ∙ ap private_range (same_Some e f (sym c.in_ok-enclave.ensures.live ∙ live));
      removed = removed;
      host_fits = subst H (sym removed)
          (fits_same old.layout.limit (overwritten (host_view old) range.first range.count ReadWriteExecute) (host_view (with_enclave old c.args.id None))
          (along (host_view old) (host_view (with_enclave old c.args.id None)) range (private_range e) ReadWriteExecute c.private_pages-range.ensures.value
          (host_removed old c.args.id e c.cite_invariant.ensures.table c.in_ok-enclave.ensures.live))
          (fits_from old.layout.limit (overwritten (host_view old) range.first range.count ReadWriteExecute) c.in_ok-host.host.list c.in_ok-host.ensures.list));
    }
