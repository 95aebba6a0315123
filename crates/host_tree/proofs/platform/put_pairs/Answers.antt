use Rattle.std.proofs.Common.{◌-◌, arith}
use Rattle.host_tree.specs.Platforms.{pairs_in}
use Rattle.host_tree.proofs.Pairs.{pair_step}
use Rattle.host_tree.proofs.platform.put_pairs.Goals as goal

pub pairs-preserved : goal.pairs-preserved
pairs-preserved c = pair_step pairs_in c.pairs.left c.pairs.rest.now c.in-Some.later.now c.in-Some.extent c.pairs.list.items c.push.new.list.items _
    (omega arith)
    (c.in-Some.ensures (c.pairs.left - 1)) c.in_ok-push.ensures.put c.pairs.invariant
