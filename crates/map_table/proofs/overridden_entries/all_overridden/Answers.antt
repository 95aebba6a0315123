-- Each that is found comes next.
use Rattle.std.proofs.Common.{◌+◌, ◌∙◌, ◌++◌, ap, append-nil, arith, drop, sym}
use Rattle.map_table.specs.Rows.{overridden_from}
use Rattle.map_table.proofs.Behind.{next_overridden, none_overridden, one_found}
use Rattle.map_table.proofs.overridden_entries.all_overridden.Goals as goal

pub loop-from-preserved : goal.loop-from-preserved
loop-from-preserved c =
    let extents = c.args.extents.now in
    let s = c.args.stretch.now in
    let j = c.in-Some.j in
    record {
      found = rw c.in_ok-push.ensures.items (one_found c.loop-from.found.items (overridden_from (j + 1) (drop (j + 1) extents) s)
          (overridden_from c.loop-from.from (drop c.loop-from.from extents) s)
          (overridden_from (c.args.i + 1) (drop (c.args.i + 1) extents) s) j c.loop-from.invariant.found
          (next_overridden extents c.loop-from.from j s c.in-Some.ensures));
      within = omega (arith, c.in-Some.ensures.inside);
    }

pub returns-in_default : goal.returns-in_default
returns-in_default c =
    let extents = c.args.extents.now in
    let s = c.args.stretch.now in
    sym (append-nil c.loop-from.found.items)
    ∙ ap (λ x. c.loop-from.found.items ++ x) (sym (none_overridden extents c.loop-from.from s c.loop-from.invariant.within c.in_default.ensures))
    ∙ c.loop-from.invariant.found
