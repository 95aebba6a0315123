-- A node that is past is left behind with all that lies below it.
use Rattle.std.proofs.Common.{◌≡◌, ◌∙◌, ◌+◌, ◌*◌, ◌/◌, ◌%◌, ◌^◌, ◌<◌, true, ap, sym, arith}
use Rattle.map_table.specs.Hulls.{is_past, node_at}
use Rattle.map_table.proofs.Nested.{all_past, beyond, level, lower, near, wide}
use Rattle.map_table.proofs.hull_tree.HullTree.next_leaf.Goals as goal

pub overflow_shr-index : goal.overflow_shr-index
overflow_shr-index c = level c.loop-leaf.height c.loop-leaf.leaf c.loop-leaf.invariant.some (omega (arith, c.loop-leaf.auto.leaf-fits))

pub overflow_shl-leaf : goal.overflow_shl-leaf
overflow_shl-leaf c = level c.loop-leaf.height c.loop-leaf.leaf c.loop-leaf.invariant.some (omega (arith, c.loop-leaf.auto.leaf-fits))

pub overflow_add-height : goal.overflow_add-height
overflow_add-height c =
    let small : c.loop-leaf.height < 64 = level c.loop-leaf.height c.loop-leaf.leaf c.loop-leaf.invariant.some (omega (arith, c.loop-leaf.auto.leaf-fits)) in
    omega (arith, small)

pub loop-leaf-preserved-then-index-gt1 : goal.loop-leaf-preserved-then-index-gt1
loop-leaf-preserved-then-index-gt1 c =
    let leaf = c.loop-leaf.leaf in
    let height = c.loop-leaf.height in
    let leaves = c.args.self.now in
    let hulls = c.self.inside.hulls.items in
    let next = (leaf / 2 ^ height + 1) * 2 ^ height in
    let whole : next % 18446744073709551616 ≡ next = omega (
      arith,
      near leaf height c.loop-leaf.invariant.some,
      c.loop-leaf-test.true,
      c.self.inside.leaves.small,
    ) in
    let past : is_past (node_at hulls leaves (leaf / 2 ^ height)) c.args.bound c.args.first c.args.end ≡ true =
    ap (λ h. is_past h c.args.bound c.args.first c.args.end) (sym (rw (c.as_slice.ensures.value, c.as_slice-in-loop-leaf.ensures.value, c.self.view_is) at
    c.node-hull.ensures)) ∙ sym c.is_past.ensures ∙ c.if-is_past.true in
    let nested = rw (c.self.view_is) at c.self.invariant.nested in
    rw whole
    (record {
      begun = omega (arith, c.loop-leaf.invariant.begun, beyond leaf height);
      some = wide leaf height c.if-index-gt1.true;
      past = all_past hulls leaves c.args.from leaf height c.args.bound c.args.first c.args.end nested c.loop-leaf.invariant.begun c.loop-leaf.invariant.some
          past c.loop-leaf.invariant.past;
    })

pub loop-leaf-preserved-else-index-gt1 : goal.loop-leaf-preserved-else-index-gt1
loop-leaf-preserved-else-index-gt1 c =
    let leaf = c.loop-leaf.leaf in
    let height = c.loop-leaf.height in
    let leaves = c.args.self.now in
    let hulls = c.self.inside.hulls.items in
    let next = (leaf / 2 ^ height + 1) * 2 ^ height in
    let whole : next % 18446744073709551616 ≡ next = omega (
      arith,
      near leaf height c.loop-leaf.invariant.some,
      c.loop-leaf-test.true,
      c.self.inside.leaves.small,
    ) in
    let past : is_past (node_at hulls leaves (leaf / 2 ^ height)) c.args.bound c.args.first c.args.end ≡ true =
    ap (λ h. is_past h c.args.bound c.args.first c.args.end) (sym (rw (c.as_slice.ensures.value, c.as_slice-in-loop-leaf.ensures.value, c.self.view_is) at
    c.node-hull.ensures)) ∙ sym c.is_past.ensures ∙ c.if-is_past.true in
    let nested = rw (c.self.view_is) at c.self.invariant.nested in
    rw whole
    (record {
      begun = omega (arith, c.loop-leaf.invariant.begun, beyond leaf height);
      some = omega (arith, c.loop-leaf.invariant.some, beyond leaf height);
      past = all_past hulls leaves c.args.from leaf height c.args.bound c.args.first c.args.end nested c.loop-leaf.invariant.begun c.loop-leaf.invariant.some
          past c.loop-leaf.invariant.past;
    })

pub loop-leaf-preserved : goal.loop-leaf-preserved
loop-leaf-preserved c = record {
  begun = c.loop-leaf.invariant.begun;
  some = lower c.loop-leaf.height c.loop-leaf.leaf c.loop-leaf.invariant.some;
  past =
      c.loop-leaf.invariant.past;
}
