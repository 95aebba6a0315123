-- The extents of the leaves so far are before `from`, or past the best of them.
use Rattle.std.proofs.Common.{◌≡◌, ◌<◌, ◌≤◌, ◌-◌, get_or, length, true}
use Rattle.pmp_match.specs.Tor.{nowhere}
use Rattle.map_table.specs.Meetings.{meets}
use Rattle.map_table.proofs.Leaves.{ArePast}
use Rattle.map_table.proofs.extent_tree.ExtentTree.next_meeting.Given as goal

abbrev pub invariant-loop-found : goal.invariant-loop-found
invariant-loop-found l = record {
  within : l.place ≤ length l.self-inside.tree;
  most : l.best ≤ length l.self;
  met : l.best < length l.self → (l.from ≤ l.best) × (meets (get_or l.self l.best nowhere) l.first l.end ≡ true);
  past : ArePast l.self-inside.tree l.from l.place l.best l.first l.end;
}

abbrev pub decreases-loop-found : goal.decreases-loop-found
decreases-loop-found l = length l.self-inside.tree - l.place
