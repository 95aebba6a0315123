-- The ways to fill a split block that attain its costs.
use Rattle.std.specs.Prelude.{◌≡◌, ℕ, ◌+◌, ◌/◌, ◌%◌, ◌<◌, ◌≤◌, ◌⊎◌}
use Rattle.pmp_encoding.specs.declared.perm.Perm.{Perm}
use Rattle.pmp_encoding.specs.declared.perm.Perm.TheVariants.{NoAccess}
use Rattle.prefix_tree.specs.Coding.{perm_of}
use Rattle.prefix_tree.specs.Trees.{PermTree, Uniform, Split}
use Rattle.prefix_tree.specs.Counts.{first_perm, last_perm}
use Rattle.entry_planner.specs.Costs.{cost}
use Rattle.chain_planner.specs.declared.choices.Choices.{Choices}
use Rattle.chain_planner.specs.declared.costs.Costs.{Costs}
use Rattle.chain_planner.specs.declared.costed.Costed.{Costed, Leaf, Branch'}
use Rattle.chain_planner.specs.declared.costed.Parts.{Parts}
use Rattle.chain_planner.specs.declared.costed.Parts.TheVariants.{Halves}
use Rattle.chain_planner.specs.declared.costed.Parts.TheVariants as parts
use Rattle.chain_planner.specs.ChainCosts.{change, covered, through, begins, changes_in}
use Rattle.chain_planner.specs.Sixes.{AreBelow, AreAllBelow, at}

-- the costs are those of the tree
pub record AreCosts (costs : Costs) (tree : PermTree) : Type 0 where
  pub own : (p : Perm) → at costs.own p ≡ cost tree p
  pub through : (p q : Perm) → at (at costs.through p) q ≡ through tree p q
  pub begins : (q : Perm) → at costs.begins q ≡ begins tree q
  pub changes : costs.changes ≡ changes_in tree
  pub first : costs.first ≡ first_perm tree
  pub last : costs.last ≡ last_perm tree

-- each of them is below n
pub record AreSmall (n : ℕ) (costs : Costs) : Type 0 where
  pub own : AreBelow n costs.own
  pub through : AreAllBelow n costs.through
  pub begins : AreBelow n costs.begins
  pub changes : costs.changes < n

-- a choice below 48 is the permissions just below and just above the middle, by their places
abbrev pub below_of : ℕ → Perm
below_of choice = perm_of (choice / 8)

abbrev pub above_of : ℕ → Perm
above_of choice = perm_of (choice % 8)

-- the choice attains the cost of a chain that passes: the two halves, or an entry of the block
abbrev pub AttainsThrough : PermTree → PermTree → Perm → Perm → ℕ → Type 0
AttainsThrough lower upper p q choice =
    ((choice < 48) × (through (Split lower upper) p q ≡ through lower p (below_of choice)
    + change (below_of choice) (above_of choice) + through upper (above_of choice) q))
    ⊎ ((48 ≤ choice) × (through (Split lower upper) p q ≡ covered lower upper + change p q))

-- of one that begins: in the lower half, under an entry of the block, or in the upper half
abbrev pub AttainsBegins : PermTree → PermTree → Perm → ℕ → Type 0
AttainsBegins lower upper q choice =
    ((choice < 48) × (begins (Split lower upper) q ≡ begins lower (below_of choice)
    + change (below_of choice) (above_of choice) + through upper (above_of choice) q))
    ⊎ (((choice ≡ 48) × (begins (Split lower upper) q ≡ covered lower upper))
    ⊎ ((choice ≡ 49) × (begins (Split lower upper) q ≡ cost lower NoAccess + begins upper q)))

-- of the entries alone: those of the halves, or an entry of the block under them
abbrev pub AttainsOwn : PermTree → PermTree → Perm → ℕ → Type 0
AttainsOwn lower upper p choice =
    ((choice ≡ 0) × (cost (Split lower upper) p ≡ cost lower p + cost upper p))
    ⊎ ((choice ≡ 1) × (cost (Split lower upper) p ≡ covered lower upper))

-- all choices of a block with these halves, and the best permission of an entry of the block
pub record AreChoices (choices : Choices) (lower upper : PermTree) : Type 0 where
  pub own : (p : Perm) → AttainsOwn lower upper p (at choices.own p)
  pub through : (p q : Perm) → AttainsThrough lower upper p q (at (at choices.through p) q)
  pub begins : (q : Perm) → AttainsBegins lower upper q (at choices.begins q)
  pub cover : 1 + (cost lower choices.cover + cost upper choices.cover) ≡ covered lower upper

-- the tree without its choices
abbrev pub tree_in : Costed → PermTree
tree_in (Leaf v) = Uniform v
tree_in (Branch' p lower upper choices) = Split (tree_in lower) (tree_in upper)

-- each split block has its choices
abbrev pub IsCosted : Costed → Type 0
IsCosted (Leaf v) = Unit {0}
IsCosted (Branch' p lower upper choices) = AreChoices choices (tree_in lower) (tree_in upper)
    × IsCosted lower × IsCosted upper

-- the block is split into these halves, and has these choices
pub record IsSplit (block lower upper : Costed) (choices : Choices) : Type 0 where
  pub tree : tree_in block ≡ Split (tree_in lower) (tree_in upper)
  pub attain : AreChoices choices (tree_in lower) (tree_in upper)
  pub low : IsCosted lower
  pub high : IsCosted upper

-- the block is of that permission, or split
abbrev pub IsPartsOf : Parts → Costed → Type 0
IsPartsOf (parts.Leaf v) block = tree_in block ≡ Uniform v
IsPartsOf (Halves lower upper choices) block = IsSplit block lower.now upper.now choices.now
