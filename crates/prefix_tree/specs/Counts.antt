-- The counts of a tree of blocks.
use Rattle.std.specs.Prelude.{ℕ, ◌+◌, ◌||◌, if◌then◌else◌}
use Rattle.pmp_encoding.specs.declared.perm.Perm.{Perm}
use Rattle.pmp_encoding.specs.declared.perm.Perm.TheVariants.{NoAccess}
use Rattle.pmp_encoding.specs.Perms.{perm_eq}
use Rattle.prefix_tree.specs.Trees.{PermTree, Uniform, Split}

-- the number of split blocks
abbrev pub splits : PermTree → ℕ
splits (Uniform q) = 0
splits (Split lower upper) = 1 + (splits lower + splits upper)

-- the number of blocks that are not split
abbrev pub leaves : PermTree → ℕ
leaves (Uniform q) = 1
leaves (Split lower upper) = leaves lower + leaves upper

-- the permission of the first page of a tree
abbrev pub first_perm : PermTree → Perm
first_perm (Uniform q) = q
first_perm (Split lower upper) = first_perm lower

-- the permission of the last page of a tree
abbrev pub last_perm : PermTree → Perm
last_perm (Uniform q) = q
last_perm (Split lower upper) = last_perm upper

-- 1 if a run starts at a page of permission q after one of permission p, otherwise 0
abbrev pub starts : Perm → Perm → ℕ
starts p q = if perm_eq q NoAccess || perm_eq q p then 0 else 1

-- the number of runs that start at a page of the block other than its first
abbrev pub starts_inside : PermTree → ℕ
starts_inside (Uniform q) = 0
starts_inside (Split lower upper) =
    starts_inside lower + (starts (last_perm lower) (first_perm upper) + starts_inside upper)

-- the number of runs of the whole space
abbrev pub runs_in : PermTree → ℕ
runs_in tree = starts NoAccess (first_perm tree) + starts_inside tree
