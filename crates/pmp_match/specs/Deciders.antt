-- The entry that decides an access.
use Rattle.std.specs.Prelude.{◌≡◌, ℕ, ◌+◌, All, List, [], ◌∷◌, length, Option, Some, None}
use Rattle.std.specs.Prelude.{if◌then◌else◌}
use Rattle.pmp_encoding.specs.declared.bank.Bank.{Bank}
use Rattle.pmp_encoding.specs.declared.extent.Extent.{Extent}
use Rattle.pmp_encoding.specs.declared.region.Entry.{Entry}
use Rattle.pmp_encoding.specs.Banks.{HasList}
use Rattle.pmp_encoding.specs.Extents.{extent_of}
use Rattle.pmp_match.specs.declared.access.Access.{Access}
use Rattle.pmp_match.specs.Accesses.{Meets}
use Rattle.pmp_match.specs.Decision.{IsFirstMatch}
use Rattle.pmp_match.specs.Matching.{touches}
use Rattle.pmp_match.specs.declared.deciders.Decider.{Decider}

-- the first entry of a list that meets the access, with its position and its extent, or `None` if
-- no entry meets it
abbrev pub DecidesIn : List Entry → Access → Option Decider → Type 0
DecidesIn entries a None = All (λ e. ¬ Meets e.region a) entries
DecidesIn entries a (Some found) = (e : Entry) × (first : IsFirstMatch entries a e)
    × (found.number ≡ length first.before) × (found.extent ≡ extent_of e)

-- the entry that decides the access in the list that a bank's registers mean
abbrev pub by_first : Bank → Access → Option Decider → Type 0
by_first bank a found = (entries : List Entry) → HasList bank entries → DecidesIn entries a found

-- the first extent with a byte of the access, numbered from n on
abbrev pub found_from : ℕ → List Extent → Access → Option Decider
found_from n [] a = None
found_from n (x ∷ extents) a = if touches x a then Some (record { number = n; extent = x })
    else found_from (n + 1) extents a
