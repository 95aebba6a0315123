use Rattle.std.proofs.Common.{ℕ, ◌≤◌, ◌<◌, ◌+◌, ◌-◌}
use Rattle.host_tree.specs.Boards.{Has}
use Rattle.host_tree.proofs.there.memory_there.Given as goal

abbrev pub invariant-parts : goal.invariant-parts
invariant-parts l = record {
  within : l.there ≤ l.size;
  has : (address : ℕ) → l.base ≤ address → address < l.base + l.there → Has l.memory address;
}

abbrev pub decreases-parts : goal.decreases-parts
decreases-parts l = l.size - l.there
