-- The cost that is stored for each split block while entries are placed: its least number of
-- entries, the permissions that are best for both of its halves, and those best for either.
use Rattle.std.specs.Prelude.{List, [], ◌∷◌, ◌++◌, ◌&&◌, ◌||◌, ◌==◌, if◌then◌else◌}
use Rattle.entry_planner.specs.declared.costs.BlockCost.{BlockCost}
use Rattle.entry_planner.specs.declared.costs.SplitCost.{SplitCost}
use Rattle.prefix_tree.specs.Trees.{PermTree, Uniform, Split}
use Rattle.entry_planner.specs.Best.{is_best, least_cost}
use Rattle.entry_planner.specs.PermSets.{set_of}

-- the cost of a block with these halves
abbrev pub split_cost : PermTree → PermTree → SplitCost
split_cost lower upper =
    record {
      least = least_cost (Split lower upper);
      both = record { bits = set_of (λ p. is_best lower p && is_best upper p) };
      either = record { bits = set_of (λ p. is_best lower p || is_best upper p) };
    }

-- the cost as that of a block: its best permissions are those for both halves or, if there are
-- none, those for either
abbrev pub as_block : SplitCost → BlockCost
as_block c = record {
  least = c.least;
  best = record { bits = if c.both.bits == 0 then c.either.bits else c.both.bits };
}

-- the costs of the split blocks in preorder: the block, those of its lower half, those of its upper
-- half
abbrev pub splits_in : PermTree → List SplitCost
splits_in (Uniform q) = []
splits_in (Split lower upper) = split_cost lower upper ∷ (splits_in lower ++ splits_in upper)
