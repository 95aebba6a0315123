-- Each that is found comes next.
use Rattle.std.proofs.Common.{◌+◌, arith, drop}
use Rattle.map_table.specs.Rows.{overridden_from}
use Rattle.map_table.proofs.Behind.{all_found, is_three, next_overridden, none_overridden, one_found, still_few, three_found}
use Rattle.map_table.proofs.overridden.overridden.Goals as goal

pub returns-in_default : goal.returns-in_default
returns-in_default c =
    let extents = c.args.extents.now in
    let s = c.args.stretch.now in
    all_found c.loop-from.found.items (overridden_from c.loop-from.from (drop c.loop-from.from extents) s)
    (overridden_from (c.args.i + 1) (drop (c.args.i + 1) extents) s) c.loop-from.invariant.found
    (none_overridden extents c.loop-from.from s c.loop-from.invariant.within c.in_default.ensures) c.loop-from.invariant.few

pub returns-else-not-is_full : goal.returns-else-not-is_full
returns-else-not-is_full c =
    let extents = c.args.extents.now in
    let s = c.args.stretch.now in
    three_found c.loop-from.found.items (overridden_from c.loop-from.from (drop c.loop-from.from extents) s)
    (overridden_from (c.args.i + 1) (drop (c.args.i + 1) extents) s) c.loop-from.invariant.found
    (is_three c.loop-from.found.items c.if-not-is_full.ensures.value)

pub loop-from-preserved : goal.loop-from-preserved
loop-from-preserved c =
    let extents = c.args.extents.now in
    let s = c.args.stretch.now in
    let j = c.in-Some.j in
    record {
      found = rw c.push.ensures.items (one_found c.loop-from.found.items (overridden_from (j + 1) (drop (j + 1) extents) s)
          (overridden_from c.loop-from.from (drop c.loop-from.from extents) s)
          (overridden_from (c.args.i + 1) (drop (c.args.i + 1) extents) s) j c.loop-from.invariant.found
          (next_overridden extents c.loop-from.from j s c.in-Some.ensures));
      few = still_few c.loop-from.found.items c.push.new.self.items j c.push.ensures.items c.if-not-is_full.ensures.value c.loop-from.invariant.few;
      within = omega (arith, c.in-Some.ensures.inside);
    }
