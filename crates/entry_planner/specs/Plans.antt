-- A plan: its entries, and the cost of each split block of the tree, which consists of the least
-- number and the permissions that attain it.
use Rattle.std.specs.Prelude.{◌≡◌, ℕ, zero, suc, ◌+◌, ◌^◌, ◌<◌, List, [], ◌∷◌, ◌++◌, length, All}
use Rattle.std.specs.Prelude.{if◌then◌else◌}
use Rattle.pmp_encoding.specs.declared.perm.Perm.{Perm}
use Rattle.pmp_encoding.specs.declared.region.Entry.{Entry}
use Rattle.pmp_match.specs.Bounds.{BoundTree, Leaf, Branch}
use Rattle.entry_planner.specs.declared.costs.BlockCost.{BlockCost}
use Rattle.prefix_tree.specs.Trees.{PermTree, Uniform, Split}
use Rattle.prefix_tree.specs.Counts.{splits}
use Rattle.entry_planner.specs.Best.{is_best, least_cost}
use Rattle.entry_planner.specs.Choice.{AreChosen}
use Rattle.entry_planner.specs.Costs.{cost}
use Rattle.entry_planner.specs.Order.{AreInOrder}
use Rattle.entry_planner.specs.PermSets.{has, set_of}

-- a list of entries in some representation, and the cost of each split block of a tree in preorder
pub record PlanOf (E : Type 0) : Type 0 where
  pub entries : List E
  pub costs : List BlockCost

-- the plan as contracts see it, in whatever form it stores its entries
abbrev pub Planned : Type 0
Planned = PlanOf Entry

-- the numbers that a plan returns fit in 32 bits
pub record AreSmall (plan : Planned) : Type 0 where
  pub entries : length plan.entries < 2 ^ 32
  pub costs : All (λ c. c.least + 1 < 2 ^ 32) plan.costs

-- the least number of a block, and its best permissions
abbrev pub block_cost : PermTree → BlockCost
block_cost tree = record { least = least_cost tree; best = record { bits = set_of (is_best tree) } }

-- the costs of the split blocks in preorder: the block, those of its lower half, those of its upper
-- half
abbrev pub costs_in : PermTree → List BlockCost
costs_in (Uniform q) = []
costs_in (Split lower upper) = block_cost (Split lower upper) ∷ (costs_in lower ++ costs_in upper)

-- the cost of a block that inherits p
abbrev pub cost_of : BlockCost → Perm → ℕ
cost_of c p = c.least + (if has c.best.bits p then 0 else 1)

-- the cost of the i-th block of the list
abbrev pub cost_in : List BlockCost → ℕ → Perm → ℕ
cost_in [] i p = 0
cost_in (c ∷ costs) zero p = cost_of c p
cost_in (c ∷ costs) (suc i) p = cost_in costs i p

-- the tree with the costs of a list that contains its split blocks in preorder from the i-th on
abbrev pub costed : List BlockCost → ℕ → PermTree → BoundTree
costed costs i (Uniform q) = Leaf q
costed costs i (Split lower upper) =
    Branch (cost_in costs i) (costed costs (i + 1) lower)
    (costed costs (i + 1 + splits lower) upper)

-- the list contains the right costs of the tree's split blocks, in preorder from the i-th on
abbrev pub CostsAre : List BlockCost → ℕ → PermTree → Type 0
CostsAre costs i (Uniform q) = Unit {0}
CostsAre costs i (Split lower upper) =
    ((p : Perm) → cost_in costs i p ≡ cost (Split lower upper) p) × CostsAre costs (i + 1) lower
    × CostsAre costs (i + 1 + splits lower) upper

-- the plan has the entries chosen for the tree, in order, and the tree's costs
pub record IsMade (tree : PermTree) (plan : Planned) : Type 0 where
  pub chosen : AreChosen tree plan.entries
  pub order : AreInOrder plan.entries
  pub costs : plan.costs ≡ costs_in tree
