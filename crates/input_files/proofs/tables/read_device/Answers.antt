use Rattle.std.proofs.Common.{◌∷◌, [], sym, inr}
use Rattle.std.specs.Prelude.{codes}
use Rattle.std.proofs.lemmas.Result.{err_from_is_err_and}
use Rattle.toml.specs.Data.{as_table}
use Rattle.toml.specs.View.{table_view, view}
use Rattle.input_files.specs.declared.breach.Key.TheVariants as keys
use Rattle.input_files.specs.Breaches.{HasNoPerm, Lacks, bounds_checks, device_checks}
use Rattle.input_files.proofs.Checked.{clear_bounds, first_before, first_behind, in_table, none_unknown, perm_first}
use Rattle.input_files.proofs.tables.read_device.Goals as goal

pub returns-in_err-base-clause-first : goal.returns-in_err-base-clause-first
returns-in_err-base-clause-first c =
    let p = err_from_is_err_and c.from_residual.result c.from_residual.ensures.1 in
    let place = c.args.place in
    let fields = table_view c.in-Some.table.now in
    rw (p.1, p.2) (in_table device_checks place (as_table (view c.args.value.now)) fields _ (sym c.in-Some.ensures)
    (inr (
      none_unknown (codes "base" ∷ codes "size" ∷ codes "perm" ∷ []) place fields (c.unknown_key.ensures.none c.in_default-unknown_key.is),
      first_before (bounds_checks place fields) (Lacks place keys.Perm fields ∷ HasNoPerm place fields ∷ []) _ c.in_err-base.ensures.first,
    )))

pub returns-in_err-perm-clause-first : goal.returns-in_err-perm-clause-first
returns-in_err-perm-clause-first c =
    let p = err_from_is_err_and c.from_residual-in_err-perm.result c.from_residual-in_err-perm.ensures.1 in
    let place = c.args.place in
    let fields = table_view c.in-Some.table.now in
    rw (p.1, p.2) (in_table device_checks place (as_table (view c.args.value.now)) fields _ (sym c.in-Some.ensures)
    (inr (
      none_unknown (codes "base" ∷ codes "size" ∷ codes "perm" ∷ []) place fields (c.unknown_key.ensures.none c.in_default-unknown_key.is),
      first_behind (bounds_checks place fields) (Lacks place keys.Perm fields ∷ HasNoPerm place fields ∷ []) _
          (clear_bounds place fields _ c.in_ok-base.ensures.ok.0 c.in_ok-base.ensures.ok.1) (perm_first place fields _ c.in_err-perm.ensures.first),
    )))
