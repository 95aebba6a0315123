-- The ranges that have a page.
use Rattle.std.proofs.Common.{◌≡◌, ℕ, zero, suc, ◌+◌, ◌/◌, ◌<◌, ◌≤◌, List, [], ◌∷◌, length, get_or, true, false, ◌||◌, Bool, arith, refl}
use Rattle.std.proofs.lemmas.Bool.Decides.{nat_tests}
use Rattle.pmp_encoding.specs.Views.{in_range}
use Rattle.platforms.proofs.Apart.{inside}
use Rattle.platforms.specs.Ranges.{has_page}
use Rattle.platforms.proofs.ShortNames.{is_among}

or_true : (a b : Bool) → b ≡ true → (a || b) ≡ true
or_true true b e = refl
or_true false b e = e

or_first : (a b : Bool) → a ≡ true → (a || b) ≡ true
or_first a b e = cc

pub among_at : (xs : List (ℕ × ℕ)) (k : ℕ) (d : ℕ × ℕ) (page : ℕ) → k < length xs → has_page (get_or xs k d) page ≡ true → is_among xs page ≡ true
among_at [] k d page low has = absurd (omega arith)
among_at (x ∷ xs) zero d page low has = or_first (has_page x page) (is_among xs page) has
among_at (x ∷ xs) (suc k) d page low has = or_true (has_page x page) (is_among xs page) (among_at xs k d page (omega arith) has)

pub among_none : (xs : List (ℕ × ℕ)) (page : ℕ) → ((k : ℕ) (d : ℕ × ℕ) → k < length xs → has_page (get_or xs k d) page ≡ false) → is_among xs page ≡ false
among_none [] page none = refl
among_none (x ∷ xs) page none =
    let here : has_page x page ≡ false = none 0 x (omega arith) in
    let rest : is_among xs page ≡ false = among_none xs page (λ k d low. none (suc k) d (omega arith)) in
    cc

begins_by : (first count page : ℕ) → in_range first count page ≡ true → first ≤ page
begins_by first count page has = grind (arith, nat_tests, has)

-- the range that has a page has those after it, up to its end
pub covered_by :
    (xs : List (ℕ × ℕ)) (k : ℕ) (d : ℕ × ℕ) (first count page q : ℕ) → k < length xs → first ≡ (get_or xs k d).0 / 4096 → count ≡ (get_or xs k d).1 / 4096
    → in_range first count page ≡ true → page ≤ q
    → q < first + count → is_among xs q ≡ true
covered_by xs k d first count page q low begins counts has before behind =
    among_at xs k d q low (inside ((get_or xs k d).0 / 4096) ((get_or xs k d).1 / 4096) q (omega (arith, begins, before, begins_by first count page has))
    (omega arith))
