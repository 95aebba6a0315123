use Rattle.std.proofs.Common.{◌≡◌, drop}
use Rattle.device_tree.specs.Windows.{path_of}
use Rattle.host_tree.specs.Shares.{are_hosts}
use Rattle.host_tree.proofs.close.are_hosts.Given as goal

abbrev pub invariant-loop-row : goal.invariant-loop-row
invariant-loop-row l = are_hosts l.share.ranges.now (path_of l.way) (drop l.row-index l.rows) ≡ are_hosts l.share.ranges.now (path_of l.way) l.rows
