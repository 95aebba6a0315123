-- The runs are determined by the view.
use Rattle.std.proofs.Common.{◌≡◌, ℕ, ◌^◌, ◌<◌, ◌≤◌, ⊎_elim, List, [], ◌∷◌, refl, sym, ap, ap₂, ◌∙◌, arith}
use Rattle.std.proofs.lemmas.Bool.{cases_lt}
use Rattle.pmp_encoding.specs.declared.perm.Perm.{Perm}
use Rattle.pmp_encoding.specs.declared.perm.Perm.TheVariants.{NoAccess}
use Rattle.permission_map.specs.declared.runs.Run.{Run}
use Rattle.permission_map.specs.Runs.{end_of, AreRunsAfter, AreRuns, view_of_runs}
use Rattle.permission_map.specs.Views.{SameView}
use Rattle.permission_map.proofs.Rising.{view_above, view_past, view_in, view_before, view_differs}

-- the same permission at each page of the space from `at` on
abbrev SameFrom : ℕ → List Run → List Run → Type 0
SameFrom at xs ys = (page : ℕ) → at ≤ page → page < 2 ^ 44 → view_of_runs xs page ≡ view_of_runs ys page

same_run : (x y : Run) → x.first ≡ y.first → x.count ≡ y.count → x.perm ≡ y.perm → x ≡ y
same_run x y first count perm =
    let begin : x ≡ record { first = y.first; count = x.count; perm = x.perm } = ap (λ n. record { first = n; count = x.count; perm = x.perm }) first in
    let long : record { first = y.first; count = x.count; perm = x.perm } ≡ record { first = y.first; count = y.count; perm = x.perm } = ap
    (λ n. record { first = y.first; count = n; perm = x.perm }) count in
    begin ∙ long ∙ ap (λ p. record { first = y.first; count = y.count; perm = p }) perm

-- the first run of a list does not begin after that of another
begins_le :
    (at : ℕ) (p q : Perm) (x y : Run) (xs ys : List Run) → AreRunsAfter at p (x ∷ xs) → AreRunsAfter at q (y ∷ ys) → SameFrom at (x ∷ xs) (y ∷ ys)
    → y.first ≤ x.first
begins_le at p q x y xs ys h k same =
    ⊎_elim
    (λ low.
    let begin : at ≤ x.first = h.0.rising in
    let some : 0 < x.count = h.0.some in
    let inside : end_of x ≤ 2 ^ 44 = h.0.inside in
    absurd (h.0.allows
    (sym (view_in x xs x.first (omega arith) (omega arith))
    ∙ same x.first begin (omega arith)
    ∙ view_above y ys x.first low
    ∙ view_before (end_of y) y.perm ys x.first k.1 (omega arith))))
    (λ high. high)
    (cases_lt x.first y.first)

-- nor does it end before that of another with the same permission
ends_le :
    (at : ℕ) (p q : Perm) (x y : Run) (xs ys : List Run) → AreRunsAfter at p (x ∷ xs) → AreRunsAfter at q (y ∷ ys) → SameFrom at (x ∷ xs) (y ∷ ys)
    → x.first ≡ y.first → x.perm ≡ y.perm → end_of y ≤ end_of x
ends_le at p q x y xs ys h k same first perm =
    ⊎_elim
    (λ low.
    let begin : at ≤ x.first = h.0.rising in
    let inside : end_of y ≤ 2 ^ 44 = k.0.inside in
    absurd (view_differs (end_of x) x.perm xs h.1 h.0.allows
    (sym (view_past x xs (end_of x) (omega arith))
    ∙ same (end_of x) (omega arith) (omega arith)
    ∙ view_in y ys (end_of x) (omega arith) low
    ∙ sym perm)))
    (λ high. high)
    (cases_lt (end_of x) (end_of y))

pub determined_from : (at : ℕ) (p : Perm) (xs ys : List Run) → AreRunsAfter at p xs → AreRunsAfter at p ys → SameFrom at xs ys → xs ≡ ys
determined_from at p [] [] h k same = refl
determined_from at p [] (y ∷ ys) h k same =
    let some : 0 < y.count = k.0.some in
    let inside : end_of y ≤ 2 ^ 44 = k.0.inside in
    absurd (k.0.allows (sym (view_in y ys y.first (omega arith) (omega arith)) ∙ sym (same y.first k.0.rising (omega arith))))
determined_from at p (x ∷ xs) [] h k same =
    let some : 0 < x.count = h.0.some in
    let inside : end_of x ≤ 2 ^ 44 = h.0.inside in
    absurd (h.0.allows (sym (view_in x xs x.first (omega arith) (omega arith)) ∙ same x.first h.0.rising (omega arith)))
determined_from at p (x ∷ xs) (y ∷ ys) h k same =
    let back : SameFrom at (y ∷ ys) (x ∷ xs) = λ page low high. sym (same page low high) in
    let one : y.first ≤ x.first = begins_le at p p x y xs ys h k same in
    let other : x.first ≤ y.first = begins_le at p p y x ys xs k h back in
    let first : x.first ≡ y.first = omega arith in
    let some : 0 < x.count = h.0.some in
    let counts : 0 < y.count = k.0.some in
    let inside : end_of x ≤ 2 ^ 44 = h.0.inside in
    let perm : x.perm ≡ y.perm =
    sym (view_in x xs x.first (omega arith) (omega arith)) ∙ same x.first h.0.rising (omega arith) ∙ view_in y ys x.first (omega arith) (omega arith) in
    let low : end_of y ≤ end_of x = ends_le at p p x y xs ys h k same first perm in
    let high : end_of x ≤ end_of y = ends_le at p p y x ys xs k h back (sym first) (sym perm) in
    let count : x.count ≡ y.count = omega arith in
    let run : x ≡ y = same_run x y first count perm in
    let ends : end_of x ≡ end_of y = ap end_of run in
    let begin : at ≤ x.first = h.0.rising in
    let tail : AreRunsAfter (end_of x) x.perm ys = rw (ends, perm) k.1 in
    let rest : xs ≡ ys =
    determined_from (end_of x) x.perm xs ys h.1 tail
    (λ page behind small.
    sym (view_past x xs page behind) ∙ same page (omega arith) small ∙ view_past y ys page (omega arith)) in
    ap₂ (λ z zs. z ∷ zs) run rest

-- two lists of maximal runs of one view are one list
pub determined : (xs ys : List Run) → AreRuns xs → AreRuns ys → SameView (view_of_runs xs) (view_of_runs ys) → xs ≡ ys
determined xs ys h k same = determined_from 0 NoAccess xs ys h k (λ page low small. same page small)
