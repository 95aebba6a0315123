use Rattle.std.proofs.Common.{◌≡◌, drop}
use Rattle.host_tree.specs.Shares.{is_within}
use Rattle.host_tree.proofs.share.is_within.Given as goal

abbrev pub invariant-loop-range : goal.invariant-loop-range
invariant-loop-range l = is_within (drop l.range-index l.ranges) l.extent ≡ is_within l.ranges l.extent
