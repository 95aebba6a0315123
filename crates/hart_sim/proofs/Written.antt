-- The first of some pages that was written.
use Rattle.std.proofs.Common.{Less, ◌≡◌, ℕ, ◌<◌, ◌≤◌, List, ◌∷◌, false, is_some, arith}
use Rattle.std.proofs.lemmas.Bool.Decides.{nat_tests}
use Rattle.std.proofs.lemmas.Grind.{common_steps}
use Rattle.std.specs.Ordering.{nat_cmp, is_gt}
use Rattle.std.specs.BTreeMap.{BTreeMap, get}
use Rattle.std.specs.BTreeMap.Range.{IsRangeOf}
use Rattle.std.specs.declared.ops.Bound.TheVariants.{Included, Excluded}
use Rattle.std.proofs.lemmas.Bool.{false_from_ne_true}

no_more : (a b : ℕ) → is_gt (nat_cmp a b) ≡ false → a ≤ b
no_more a b h = grind (arith, nat_tests, common_steps)

from_no_more : (a b : ℕ) → a ≤ b → is_gt (nat_cmp a b) ≡ false
from_no_more a b h = grind (arith, nat_tests, common_steps)

less : (a b : ℕ) → nat_cmp a b ≡ Less → a < b
less a b h = grind (arith, nat_tests, common_steps)

from_less : (a b : ℕ) → a < b → nat_cmp a b ≡ Less
from_less a b h = grind (arith, nat_tests, common_steps)

pub first_of : {X : Type 0} (pages : BTreeMap ℕ X) (from end page : ℕ) (x : X) (rest : List (ℕ × X))
    → IsRangeOf nat_cmp (Included from) (Excluded end) pages ((page, x) ∷ rest)
    → (from ≤ page) × (page < end) × ((q : ℕ) → from ≤ q → q < page → is_some (get nat_cmp pages q) ≡ false)
first_of pages from end page x rest is =
    let inside = is.1.0 in
    let past = less page end inside.1 in (
      no_more from page inside.0,
      past,
      λ q low under. false_from_ne_true (is_some (get nat_cmp pages q))
          (λ there. let more = no_more page q (is.2 q (from_no_more from q low, from_less q end (omega (arith, under, past))) there) in omega
          (arith, more, under)),
    )
