use Rattle.std.proofs.Common.{ℕ, ◌≤◌, ◌<◌, ◌-◌}
use Rattle.host_tree.specs.Boards.{IsHart}
use Rattle.host_tree.proofs.there.harts_there.Given as goal

abbrev pub invariant-harts : goal.invariant-harts
invariant-harts l = record {
  within : l.there ≤ l.most;
  some : 0 < l.there;
  are : (hart : ℕ) → 0 < hart → hart < l.there → IsHart l.harts hart;
}

abbrev pub decreases-harts : goal.decreases-harts
decreases-harts l = l.most - l.there
