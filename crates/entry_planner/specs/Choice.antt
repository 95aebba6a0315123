-- The choice among the lists of fewest entries, from the whole space downwards.
use Rattle.std.specs.Prelude.{◌≡◌, ℕ, zero, suc, ◌+◌, ◌^◌, ◌==◌, nat_le, List, ◌++◌, if◌then◌else◌}
use Rattle.std.specs.Prelude.{IsPermutation}
use Rattle.pmp_encoding.specs.declared.perm.Perm.{Perm}
use Rattle.pmp_encoding.specs.declared.perm.Perm.TheVariants.{NoAccess, Read, ReadWrite, Execute}
use Rattle.pmp_encoding.specs.declared.perm.Perm.TheVariants.{ReadExecute, ReadWriteExecute}
use Rattle.pmp_encoding.specs.declared.region.Entry.{Entry}
use Rattle.prefix_tree.specs.Trees.{PermTree, Uniform, Split}
use Rattle.entry_planner.specs.Costs.{least_of, cost}
use Rattle.entry_planner.specs.Placement.{IsOwn}

-- the cost of both halves of a split block if they inherit q
abbrev pub halves_cost : PermTree → PermTree → Perm → ℕ
halves_cost lower upper q = cost lower q + cost upper q

-- the first permission, in the fixed order, whose number is least
abbrev pub first_least : (Perm → ℕ) → Perm
first_least f =
    if f NoAccess == least_of f then NoAccess
    else (if f Read == least_of f then Read
    else (if f ReadWrite == least_of f then ReadWrite
    else (if f Execute == least_of f then Execute
    else (if f ReadExecute == least_of f then ReadExecute else ReadWriteExecute))))

-- the permission that the halves of a split block inherit if the block inherits p: p, unless an
-- entry for the block itself saves more than it costs
abbrev pub handed_on : PermTree → PermTree → Perm → Perm
handed_on lower upper p =
    if nat_le (halves_cost lower upper p) (1 + least_of (halves_cost lower upper)) then p
    else first_least (halves_cost lower upper)

-- the entries of a block that inherits p: those of its lower half, those of its upper half, and its
-- own
abbrev pub IsChosenAt : ℕ → ℕ → Perm → PermTree → List Entry → Type 0
IsChosenAt k first p (Uniform q) es = IsOwn k first p q es
IsChosenAt zero first p (Split lower upper) es = ⊥
IsChosenAt (suc k) first p (Split lower upper) es =
    (low : List Entry) × (high : List Entry) × (own : List Entry)
    × (es ≡ low ++ (high ++ own))
    × IsChosenAt k first (handed_on lower upper p) lower low
    × IsChosenAt k (first + 2 ^ k) (handed_on lower upper p) upper high
    × IsOwn (suc k) first p (handed_on lower upper p) own

-- the entries of the whole space, which inherits no access, in some order
abbrev pub AreChosen : PermTree → List Entry → Type 0
AreChosen tree entries = (es : List Entry) × IsChosenAt 44 0 NoAccess tree es
    × IsPermutation es entries

-- the new entries are the old ones and those chosen for the 2 ^ k pages from `first` on, in some
-- order
abbrev pub AddsChosen : ℕ → ℕ → Perm → PermTree → List Entry → List Entry → Type 0
AddsChosen k first p tree old new = (es : List Entry) × IsChosenAt k first p tree es
    × IsPermutation (old ++ es) new

-- the new entries are the old ones and the one, if any, that gives these pages, which inherit p,
-- the permission q, in some order
abbrev pub AddsOwn : ℕ → ℕ → Perm → Perm → List Entry → List Entry → Type 0
AddsOwn k first p q old new = (own : List Entry) × IsOwn k first p q own
    × IsPermutation (old ++ own) new
