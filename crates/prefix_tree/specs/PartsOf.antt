-- The parts of a block and its tree.
use Rattle.std.specs.Prelude.{◌≡◌}
use Rattle.prefix_tree.specs.declared.blocks.Parts.{Parts}
use Rattle.prefix_tree.specs.declared.blocks.Parts.TheVariants.{Leaf, Halves}
use Rattle.prefix_tree.specs.Trees.{PermTree, Uniform, Split}
use Rattle.prefix_tree.specs.Shapes.{shape_of}

-- the tree is uniform with that permission, or splits into these halves
abbrev pub IsPartsOf : Parts → PermTree → Type 0
IsPartsOf (Leaf q) tree = tree ≡ Uniform q
IsPartsOf (Halves lower upper) tree = tree ≡ Split (shape_of lower.now) (shape_of upper.now)
