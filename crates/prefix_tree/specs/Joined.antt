-- Two halves joined to a block.
use Rattle.std.specs.Prelude.{Option, None, Some, if◌then◌else◌}
use Rattle.pmp_encoding.specs.declared.perm.Perm.{Perm}
use Rattle.pmp_encoding.specs.Perms.{perm_eq}
use Rattle.prefix_tree.specs.Trees.{PermTree, Uniform, Split}

-- the permission of a block that is not split
abbrev pub one_perm : PermTree → Option Perm
one_perm (Uniform q) = Some q
one_perm (Split lower upper) = None

-- the common permission of two uniform halves
abbrev pub shared_of : Option Perm → Option Perm → Option Perm
shared_of None other = None
shared_of (Some p) None = None
shared_of (Some p) (Some q) = if perm_eq p q then Some p else None

-- the permission of two halves, if both are uniform with the same one
abbrev pub shared_perm : PermTree → PermTree → Option Perm
shared_perm lower upper = shared_of (one_perm lower) (one_perm upper)

-- the block with these halves, uniform if they have a common permission
abbrev pub joined_by : Option Perm → PermTree → PermTree → PermTree
joined_by None lower upper = Split lower upper
joined_by (Some q) lower upper = Uniform q

-- the tree with these halves, which is uniform if both have one permission
abbrev pub joined : PermTree → PermTree → PermTree
joined lower upper = joined_by (shared_perm lower upper) lower upper

-- the halves of a block; a uniform block has halves of its permission
abbrev pub lower_half : PermTree → PermTree
lower_half (Uniform q) = Uniform q
lower_half (Split lower upper) = lower

abbrev pub upper_half : PermTree → PermTree
upper_half (Uniform q) = Uniform q
upper_half (Split lower upper) = upper
