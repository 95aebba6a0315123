-- The cost of a block under a chain: the entries inside it and the changes of the chain's
-- permission there. It depends on the chain's permissions at the block's lower and upper edges.
use Rattle.std.specs.Prelude.{ℕ, ◌+◌, ◌&&◌, ◌==◌, min, if◌then◌else◌}
use Rattle.pmp_encoding.specs.declared.perm.Perm.{Perm}
use Rattle.pmp_encoding.specs.declared.perm.Perm.TheVariants.{NoAccess}
use Rattle.pmp_encoding.specs.Perms.{perm_eq}
use Rattle.prefix_tree.specs.Trees.{PermTree, Uniform, Split}
use Rattle.prefix_tree.specs.Counts.{first_perm, last_perm}
use Rattle.entry_planner.specs.Costs.{least_of, cost}

-- a change from one permission to another
abbrev pub change : Perm → Perm → ℕ
change p q = if perm_eq p q then 0 else 1

-- the cost of a split block that has an entry of its own, which hides the chain, under the least
-- entries of its halves
abbrev pub covered : PermTree → PermTree → ℕ
covered lower upper = 1 + least_of (λ r. cost lower r + cost upper r)

-- with each permission just above the middle, by the costs of the lower half
abbrev pub past_middle : (Perm → ℕ) → Perm → ℕ
past_middle low n = least_of (λ m. low m + change m n)

-- a chain that has p at the lower edge and q at the upper: a block of one permission costs nothing
-- if the chain has that permission throughout; otherwise an entry covers it and hides at most one
-- change. A split block is the two halves and a change at the middle, or an entry covers it
abbrev pub through : PermTree → Perm → Perm → ℕ
through (Uniform v) p q = if perm_eq p v && perm_eq v q then 0 else 1 + change p q
through (Split lower upper) p q =
    min (least_of (λ n. past_middle (through lower p) n + through upper n q))
    (covered lower upper + change p q)

-- a chain that begins in the block under an entry, for nothing, and has q at the upper edge: no
-- entry of the block inherits access below where it begins
abbrev pub begins : PermTree → Perm → ℕ
begins (Uniform v) q = 1
begins (Split lower upper) q =
    min (least_of (λ n. past_middle (begins lower) n + through upper n q))
    (min (cost lower NoAccess + begins upper q) (covered lower upper))

-- the number of changes of permission in the block, and of the TOR entries of a chain that begins
-- at address 0 and is the whole list
abbrev pub changes_in : PermTree → ℕ
changes_in (Uniform v) = 0
changes_in (Split lower upper) =
    changes_in lower + (change (last_perm lower) (first_perm upper) + changes_in upper)

-- with a chain that passes the whole space, and begins with an OFF entry before its first change
abbrev pub passed : PermTree → ℕ
passed tree = least_of (λ p. change NoAccess p + through tree p NoAccess)

-- the least of the three, for a list from that entry of a hart on
abbrev pub chained_cost : ℕ → PermTree → ℕ
chained_cost place tree =
    if place == 0 && perm_eq (last_perm tree) NoAccess
    then min (changes_in tree) (min (passed tree) (begins tree NoAccess))
    else min (passed tree) (begins tree NoAccess)
