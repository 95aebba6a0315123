-- The first extent that has a byte of an access is that of the first entry that meets it.
use Rattle.std.proofs.Common.{◌≡◌, ℕ, ◌+◌, Bool, true, false, cond, All, List, [], ◌∷◌, length, map, Option, Some, None, refl, ap, arith}
use Rattle.std.proofs.lemmas.Bool.{both_ways}
use Rattle.std.proofs.lemmas.List.Elements.{All-nil, All-cons}
use Rattle.pmp_encoding.specs.declared.region.Entry.{Entry}
use Rattle.pmp_encoding.specs.Extents.{extent_of}
use Rattle.pmp_match.specs.declared.access.Access.{Access}
use Rattle.pmp_match.specs.Accesses.{Meets}
use Rattle.pmp_match.specs.Decision.{IsFirstMatch}
use Rattle.pmp_match.specs.Matching.{touches}
use Rattle.pmp_match.proofs.Decided.{Meets-from_test, test_from_Meets}
use Rattle.pmp_match.specs.declared.deciders.Decider.{Decider}
use Rattle.pmp_match.specs.Deciders.{DecidesIn, found_from}

-- of entries, the first of which has this number, the first that meets the access
abbrev DecidesFrom : ℕ → List Entry → Access → Option Decider → Type 0
DecidesFrom n entries a None = All (λ x. ¬ Meets x.region a) entries
DecidesFrom n entries a (Some found) = (e : Entry) × (first : IsFirstMatch entries a e) × (found.number ≡ n + length first.before)
    × (found.extent ≡ extent_of e)

-- one that does not meet it stands before them
later : (n : ℕ) (e : Entry) (entries : List Entry) (a : Access) → ¬ Meets e.region a → (found : Option Decider) → DecidesFrom (n + 1) entries a found
    → DecidesFrom n (e ∷ entries) a found
later n e entries a off None none = All-cons (λ x. ¬ Meets x.region a) e entries off none
later n e entries a off (Some found) at = (
  at.0,
  record {
    before = e ∷ at.1.before;
    after = at.1.after;
    split = ap (λ xs. e ∷ xs) at.1.split;
    missed = All-cons (λ x. ¬ Meets x.region a) e at.1.before off at.1.missed;
    met = at.1.met;
  },
  (let is = at.2 in omega (arith, is)),
  at.3,
)

from : (n : ℕ) (entries : List Entry) (a : Access) → DecidesFrom n entries a (found_from n (map extent_of entries) a)
from n [] a = All-nil (λ x. ¬ Meets x.region a)
from n (e ∷ entries) a = go (touches (extent_of e) a) refl (from (n + 1) entries a)
  where
    go :
        (t : Bool) → touches (extent_of e) a ≡ t → DecidesFrom (n + 1) entries a (found_from (n + 1) (map extent_of entries) a)
        → DecidesFrom n (e ∷ entries) a (cond t (Some (record { number = n; extent = extent_of e })) (found_from (n + 1) (map extent_of entries) a))
    go true is rest = (
      e,
      record {
        before = [];
        after = entries;
        split = refl;
        missed = All-nil
            (λ x. ¬ Meets x.region a);
        met = Meets-from_test e.region a is;
      },
      omega arith,
      refl,
    )
    go false is rest = later n e entries a (λ m. both_ways (touches (extent_of e) a) is (test_from_Meets e.region a m))
        (found_from (n + 1) (map extent_of entries) a) rest

whole : (entries : List Entry) (a : Access) (found : Option Decider) → DecidesFrom 0 entries a found → DecidesIn entries a found
whole entries a None none = none
whole entries a (Some found) at = (at.0, at.1, (let is = at.2 in omega (arith, is)), at.3)

pub first_found : (entries : List Entry) (a : Access) → DecidesIn entries a (found_from 0 (map extent_of entries) a)
first_found entries a = whole entries a (found_from 0 (map extent_of entries) a) (from 0 entries a)
