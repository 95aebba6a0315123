-- A split block is read before its halves, which are of fewer pages.
use Rattle.std.proofs.Common.{◌+◌, ◌*◌}
use Rattle.certificate_check.proofs.nodes.+nodes.Given as goal

abbrev pub decreases-split : goal.decreases-split
decreases-split g l = 2 * l.log2

abbrev pub decreases-node : goal.decreases-node
decreases-node g l = 2 * l.log2 + 1
