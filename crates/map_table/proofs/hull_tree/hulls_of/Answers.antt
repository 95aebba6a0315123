-- The hull of a node encloses those of its two children.
use Rattle.std.proofs.Common.{◌≡◌, ◌∙◌, ◌+◌, ◌-◌, arith}
use Rattle.std.proofs.lemmas.List.{length-set}
use Rattle.map_table.proofs.Nested.{one_nested}
use Rattle.map_table.proofs.hull_tree.hulls_of.Goals as goal

pub loop-i-preserved : goal.loop-i-preserved
loop-i-preserved c =
    let hulls = c.loop-i.hulls.items in
    let leaves = c.args.leaves.now in
    let i = c.loop-i.i in
    let back : i - 1 + 1 ≡ i = omega (arith, c.loop-i-test.true) in
    let left = rw (c.as_slice.ensures.value) at c.node-left.ensures in
    let right = rw (c.as_slice-in-loop-i.ensures.value) at c.node-right.ensures in
    record {
      same = length-set hulls (i - 1) c.join.result ∙ c.loop-i.invariant.same;
      inside = omega (arith, c.loop-i.invariant.inside);
      nested =
          one_nested hulls leaves (i - 1) c.join.result c.loop-i.invariant.same (omega (arith, c.loop-i-test.true))
          (omega (arith, c.loop-i-test.true, c.loop-i.invariant.inside))
          (rw left at c.join.ensures.first) (rw right at c.join.ensures.second) (rw back c.loop-i.invariant.nested);
    }
