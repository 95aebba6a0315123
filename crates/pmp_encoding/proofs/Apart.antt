-- Ranges with and without a page in common.
use Rattle.std.proofs.Common.{◌≡◌, ℕ, ◌+◌, ◌<◌, ◌≤◌, inl, inr, true, arith}
use Rattle.std.proofs.lemmas.Bool.{cases_lt}
use Rattle.std.proofs.lemmas.Bool.Decides.{nat_tests}
use Rattle.pmp_encoding.specs.Views.{in_range}

pub inside : (first count page : ℕ) → first ≤ page → page < first + count → in_range first count page ≡ true
inside first count page low high = grind (arith, nat_tests)

pub begins : (first count page : ℕ) → in_range first count page ≡ true → first ≤ page
begins first count page has = grind (arith, nat_tests, has)

pub ends : (first count page : ℕ) → in_range first count page ≡ true → page < first + count
ends first count page has = grind (arith, nat_tests, has)

-- a range that ends where another begins, or before, has no page in common with it
pub apart_from : (f n g m : ℕ) → f + n ≤ g → (page : ℕ) → in_range f n page ≡ true → in_range g m page ≡ true → ⊥
apart_from f n g m order page low high = omega (arith, ends f n page low, begins g m page high)

-- of two ranges with pages but none in common, one that begins before the other's end ends before its first page
pub behind :
    (f n g m : ℕ) → 0 < n → 0 < m → g < f + n → ((page : ℕ) → in_range f n page ≡ true → in_range g m page ≡ true → ⊥) → g + m ≤ f
behind f n g m some some_other before apart =
    elim (cases_lt f (g + m)) [
      | inr over ↦ over
      | inl after ↦ elim (cases_lt g f) [
        | inl low ↦ absurd (apart f (inside f n f (omega arith) (omega arith)) (inside g m f (omega arith) after))
        | inr high ↦ absurd (apart g (inside f n g high before) (inside g m g (omega arith) (omega arith)))
      ]
    ]
