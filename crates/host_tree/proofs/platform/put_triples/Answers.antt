use Rattle.std.proofs.Common.{◌-◌, arith}
use Rattle.host_tree.specs.Platforms.{triples_in}
use Rattle.host_tree.proofs.Pairs.{pair_step}
use Rattle.host_tree.proofs.platform.put_triples.Goals as goal

pub triples-preserved : goal.triples-preserved
triples-preserved c = pair_step triples_in c.triples.left c.triples.rest.now c.in-Some.later.now c.in-Some.extent c.triples.list.items
    c.push.new.list.items _ (omega arith)
    (c.in-Some.ensures (c.triples.left - 1)) c.in_ok-push.ensures.put c.triples.invariant
