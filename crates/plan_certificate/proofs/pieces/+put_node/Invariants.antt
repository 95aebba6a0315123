use Rattle.prefix_tree.specs.Counts.{splits}
use Rattle.plan_certificate.proofs.pieces.+put_node.Given as goal

abbrev pub decreases-put_node : goal.decreases-put_node
decreases-put_node g l = splits (g.H.Halving.shape l.block.now)
