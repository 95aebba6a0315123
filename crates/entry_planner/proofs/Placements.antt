-- Which entries are placed in a tree of blocks: as many as the costs say.
use Rattle.std.specs.Prelude.{◌≡◌, ℕ, zero, suc, ◌+◌, ◌^◌, List, ◌++◌, length, if◌then◌else◌}
use Rattle.pmp_encoding.specs.declared.perm.Perm.{Perm}
use Rattle.pmp_encoding.specs.declared.perm.Perm.TheVariants.{NoAccess}
use Rattle.pmp_encoding.specs.declared.region.Entry.{Entry}
use Rattle.pmp_encoding.specs.Perms.{perm_eq}
use Rattle.prefix_tree.specs.Trees.{PermTree, Uniform, Split}
use Rattle.entry_planner.specs.Costs.{cost}
use Rattle.entry_planner.specs.Placement.{Turns}

-- the halves may inherit q where the block inherits p: with the entry for q, if q is not p, that is the cheapest
abbrev pub IsCheap : PermTree → PermTree → Perm → Perm → Type 0
IsCheap lower upper p q = (if perm_eq q p then 0 else 1) + (cost lower q + cost upper q) ≡ cost (Split lower upper) p

-- the entries of the lower half, of the upper half and of the block itself, as many as the block costs where it inherits p
abbrev pub IsPlacedAt : ℕ → ℕ → Perm → PermTree → List Entry → Type 0
IsPlacedAt k first p (Uniform q) es = Turns k first p q es × (length es ≡ cost (Uniform q) p)
IsPlacedAt zero first p (Split lower upper) es = ⊥
IsPlacedAt (suc k) first p (Split lower upper) es =
    (q : Perm) × (low : List Entry) × (high : List Entry) × (own : List Entry)
    × (es ≡ low ++ (high ++ own))
    × Turns (suc k) first p q own
    × (length own + (cost lower q + cost upper q) ≡ cost (Split lower upper) p)
    × IsPlacedAt k first q lower low
    × IsPlacedAt k (first + 2 ^ k) q upper high

abbrev pub IsPlaced : PermTree → List Entry → Type 0
IsPlaced tree es = IsPlacedAt 44 0 NoAccess tree es
