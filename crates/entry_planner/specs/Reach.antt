-- The end of the entries of a plan.
use Rattle.std.specs.Prelude.{◌≡◌, ℕ, ◌+◌, ◌*◌, ◌^◌, ◌<◌, ◌≤◌}
use Rattle.pmp_encoding.specs.declared.perm.Perm.TheVariants.{NoAccess}
use Rattle.pmp_encoding.specs.declared.region.Entry.{Entry}
use Rattle.pmp_match.specs.Meaning.{View}

-- the entry's region ends within the first 2 ^ k pages
abbrev pub EndsWithin : ℕ → Entry → Type 0
EndsWithin k e = e.region.base + 2 ^ e.region.log2 ≤ 2 ^ k * 4096

-- no page of the space after the first 2 ^ k has a permission
abbrev pub HasNoneBehind : ℕ → View → Type 0
HasNoneBehind k view = (page : ℕ) → 2 ^ k ≤ page → page < 2 ^ 44 → view page ≡ NoAccess
