use Rattle.std.proofs.Common.{◌∷◌, [], sym, inr}
use Rattle.std.specs.Prelude.{codes}
use Rattle.std.proofs.lemmas.Result.{IfErr-weaker}
use Rattle.toml.specs.Data.{as_table}
use Rattle.toml.specs.View.{table_view, view}
use Rattle.input_files.specs.Breaches.{IsFirst, bounds_checks, range_checks, table_checks}
use Rattle.input_files.proofs.Checked.{in_table, none_unknown}
use Rattle.input_files.proofs.tables.read_range.Goals as goal

pub returns-clause-first : goal.returns-clause-first
returns-clause-first c =
    let place = c.args.place in
    let fields = table_view c.in-Some.table.now in
    let found = as_table (view c.args.value.now) in
    IfErr-weaker c.read_bounds.result (IsFirst (bounds_checks place fields)) (IsFirst (table_checks range_checks place found))
    (λ b first. in_table range_checks place found fields b (sym c.in-Some.ensures)
    (inr (none_unknown (codes "base" ∷ codes "size" ∷ []) place fields (c.unknown_key.ensures.none c.in_default-unknown_key.is), first)))
    c.read_bounds.ensures.first
