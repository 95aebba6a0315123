use Rattle.std.proofs.Common.{◌+◌, subst, sym, ◌∙◌, ap}
use Rattle.std.specs.Option.{option_and_then}
use Rattle.std.proofs.lemmas.List.Elements.{All-push}
use Rattle.std.proofs.lemmas.Result.{err_from_is_err_and}
use Rattle.toml.specs.Data.{as_table}
use Rattle.toml.specs.View.{view}
use Rattle.platforms.specs.Ranges.{IsRange}
use Rattle.input_files.specs.declared.breach.TomlPath.TheVariants.{Ram}
use Rattle.input_files.specs.Document.{range_of}
use Rattle.input_files.specs.Breaches.{IsFirst, range_checks, table_checks}
use Rattle.input_files.proofs.Checked.{clear_range, clear_table, each_more, item_here, item_later}
use Rattle.input_files.proofs.tables.read_ranges.Goals as goal

pub returns-in_err-range-clause-first : goal.returns-in_err-range-clause-first
returns-in_err-range-clause-first c =
    let p = err_from_is_err_and c.from_residual.result c.from_residual.ensures.1 in
    let i = c.loop-i.i in
    let first = subst (λ v. IsFirst (table_checks range_checks (Ram (i + 1)) (as_table (view v))) c.in_err-range.field-0.0) c.index-values-i.is
    c.in_err-range.ensures.first in
    rw (p.1, p.2) (c.loop-i.invariant.first _ (item_here range_checks Ram (i + 1) i c.args.values.now c.index-values-i.result _ c.loop-i-test.true first))

pub loop-i-preserved : goal.loop-i-preserved
loop-i-preserved c =
    let i = c.loop-i.i in
    let vs = c.args.values.now in
    let d = c.index-values-i.result in
    let said = ap (λ v. option_and_then range_of (as_table (view v))) (sym c.index-values-i.is) ∙ c.in_ok-range.ensures.ok.0 in
    record {
      made = rw c.in_ok-push.ensures.items (each_more range_of vs i d c.in_ok-range.range c.loop-i.ranges.items c.loop-i-test.true said
          c.loop-i.invariant.made);
      whole = rw c.in_ok-push.ensures.items (All-push IsRange c.loop-i.ranges.items c.in_ok-range.range
          c.loop-i.invariant.whole c.in_ok-range.ensures.ok.1);
      first = λ b later. c.loop-i.invariant.first b (item_later range_checks Ram (i + 1) i vs d b c.loop-i-test.true
          (clear_table range_of IsRange range_checks clear_range (Ram (i + 1)) (as_table (view _))
          c.in_ok-range.range said c.in_ok-range.ensures.ok.1) later);
    }
