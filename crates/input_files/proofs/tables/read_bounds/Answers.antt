use Rattle.std.proofs.Common.{refl, inl, inr}
use Rattle.toml.specs.View.{table_view}
use Rattle.input_files.specs.declared.breach.Key.TheVariants as keys
use Rattle.input_files.proofs.Checked.{clear_lacks, clear_number, range_there}
use Rattle.input_files.proofs.tables.read_bounds.Goals as goal

pub returns-then-not-is_range-clause-first : goal.returns-then-not-is_range-clause-first
returns-then-not-is_range-clause-first c =
    let fields = table_view c.args.table.now in
    let place = c.args.place in
    let base = c.in_ok-base.ensures.ok in
    let size = c.in_ok-size.ensures.ok in
    inr (
      clear_lacks place keys.Base fields _ base,
      inr (
        clear_number place keys.Base fields _ base,
        inr (
          clear_lacks place keys.Size fields _ size,
          inr (
            clear_number place keys.Size fields _ size,
            inl (_, range_there fields _ _ base size, (λ whole. let is = c.is_range.ensures.1 whole in let none = c.if-not-is_range.true in cc), refl),
          ),
        ),
      ),
    )
