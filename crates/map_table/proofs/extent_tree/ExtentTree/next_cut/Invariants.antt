-- The leaves so far are past the cut.
use Rattle.std.proofs.Common.{◌≡◌, ◌<◌, ◌≤◌, ◌-◌, ℕ, get_or, length, true}
use Rattle.pmp_match.specs.Tor.{nowhere}
use Rattle.map_table.specs.Meetings.{meets}
use Rattle.map_table.proofs.Leaves.{ArePast}
use Rattle.map_table.proofs.extent_tree.ExtentTree.next_cut.Given as goal

abbrev pub invariant-loop-found : goal.invariant-loop-found
invariant-loop-found l = record {
  within : l.place ≤ length l.self-inside.tree;
  most : l.cut ≤ l.end;
  begun : l.cut < l.end → (k : ℕ) × (k < l.bound) × (meets (get_or l.self k nowhere) l.first l.end ≡ true) × ((get_or l.self k nowhere).base ≡ l.cut);
  past : ArePast l.self-inside.tree 0 l.place l.bound l.first l.cut;
}

abbrev pub decreases-loop-found : goal.decreases-loop-found
decreases-loop-found l = length l.self-inside.tree - l.place
