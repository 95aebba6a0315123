use Rattle.std.proofs.Common.{ap, length, arith}
use Rattle.host_tree.proofs.Pairs.{clipped_few, pairs_few}
use Rattle.host_tree.proofs.platform.left_of.Goals as goal

pub words_of-requires : goal.words_of-requires
words_of-requires c =
    let kept = clipped_few c.as_slice.result.now c.as_slice-2.result.now c.in_ok-left.left.items c.in_ok-left.ensures.ok in
    let few = pairs_few c.args.platform.now.ram_count c.args.platform.now.ram in
    omega (arith, kept, few, ap length c.as_slice-3.ensures.value, ap length c.as_slice-2.ensures.value, ap length c.in_ok-ranges.ensures.ok)
