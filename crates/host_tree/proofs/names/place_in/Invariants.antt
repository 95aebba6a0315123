use Rattle.std.proofs.Common.{◌≤◌, ◌-◌, drop, length}
use Rattle.host_tree.specs.Names.{HasName}
use Rattle.host_tree.proofs.names.place_in.Given as goal

abbrev pub invariant-names : goal.invariant-names
invariant-names l = record {
  within : l.at ≤ length l.names;
  left : HasName l.names l.name → HasName (drop l.at l.names) l.name;
}

abbrev pub decreases-names : goal.decreases-names
decreases-names l = length l.names - l.at
