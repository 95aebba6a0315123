-- Points and the runs between them.
use Rattle.std.proofs.Common.{◌≡◌, ◌≢◌, ℕ, zero, suc, ◌+◌, ◌-◌, ◌*◌, ◌%◌, ◌^◌, ◌<◌, ◌≤◌, ⊎_elim, List, [], ◌∷◌, ◌++◌, length, take, get_or, Bool, true, false}
use Rattle.std.proofs.Common.{not, ◌==◌, nat_lt, cond, if◌then◌else◌, count_by, refl, sym, ap, ◌∙◌, arith}
use Rattle.std.specs.List.Sorted.{IsNonDecreasingBy}
use Rattle.std.proofs.lemmas.Bool.{cases_lt, cond-true, cond-false, lt-ltb, le-ltb, eqb-true}
use Rattle.std.proofs.lemmas.List.Recursion.{is_count_by}
use Rattle.pmp_encoding.specs.declared.perm.Perm.{Perm}
use Rattle.pmp_encoding.specs.declared.perm.Perm.TheVariants.{NoAccess, Read, ReadWrite, Execute, ReadExecute, ReadWriteExecute}
use Rattle.permission_map.specs.declared.points.Point.{Point}
use Rattle.permission_map.specs.Runs.{AreRuns, AreRunsAfter, view_of_runs}
use Rattle.permission_map.specs.Points.{ArePoints, ArePointsAfter, Rise, RiseAfter, allows, next_page, page_of, perm_for, perm_of, runs_of, standing}
use Rattle.permission_map.proofs.Rising.{view_before, view_in, view_past}

-- ---- a point by its number

pub allows_none : (n : ℕ) → not (n == 0) ≡ false → perm_for n ≡ NoAccess
allows_none n h = ap perm_for (eqb-true n 0 (from_not (n == 0) h))
  where
    from_not : (b : Bool) → not b ≡ false → b ≡ true
    from_not true h = refl
    from_not false h = cc

abbrev one : Bool → Bool → Bool → Bool → Bool → Perm
one a b c d e =
    if a then NoAccess else (if b then Read else (if c then ReadWrite else (if d then Execute else (if e then ReadExecute else ReadWriteExecute))))

pub allows_some : (n : ℕ) → not (n == 0) ≡ true → perm_for n ≢ NoAccess
allows_some n h = go (n == 0) (n == 1) (n == 3) (n == 4) (n == 5) h
  where
    go : (a b c d e : Bool) → not a ≡ true → one a b c d e ≢ NoAccess
    go true b c d e h same = cc
    go false true c d e h same = cc
    go false false true d e h same = cc
    go false false false true e h same = cc
    go false false false false true h same = cc
    go false false false false false h same = cc

-- ---- the pages rise

pages_after : (at : ℕ) (ps : List Point) → RiseAfter at ps → (j : ℕ) (d : Point) → j < length ps → at ≤ page_of (get_or ps j d)
pages_after at [] rise j d inside = absurd (omega arith)
pages_after at (q ∷ ps) rise zero d inside = rise.0
pages_after at (q ∷ ps) rise (suc j) d inside =
    let begin : at ≤ page_of q = rise.0 in
    let rest : page_of q + 1 ≤ page_of (get_or ps j d) = pages_after (page_of q + 1) ps rise.2 j d (omega arith) in
    omega (arith, begin, rest)

pages_rise_at : (at : ℕ) (ps : List Point) → RiseAfter at ps → (i j : ℕ) (d : Point) → i ≤ j → j < length ps → page_of (get_or ps i d) ≤ page_of (get_or ps j d)
pages_rise_at at [] rise i j d order inside = absurd (omega arith)
pages_rise_at at (q ∷ ps) rise zero zero d order inside = omega arith
pages_rise_at at (q ∷ ps) rise zero (suc j) d order inside =
    let rest : page_of q + 1 ≤ page_of (get_or ps j d) = pages_after (page_of q + 1) ps rise.2 j d (omega arith) in
    omega (arith, rest)
pages_rise_at at (q ∷ ps) rise (suc i) zero d order inside = absurd (omega arith)
pages_rise_at at (q ∷ ps) rise (suc i) (suc j) d order inside = pages_rise_at (page_of q + 1) ps rise.2 i j d (omega arith) (omega arith)

pub pages_rise : (ps : List Point) → Rise ps → IsNonDecreasingBy page_of ps
pages_rise ps rise = λ i j d order inside. pages_rise_at 0 ps rise i j d order inside

pub standing_last : (p : Perm) (ps : List Point) (i : ℕ) (d : Point) → i < length ps → perm_of (get_or ps i d) ≡ standing p (take (suc i) ps)
standing_last p [] i d inside = absurd (omega arith)
standing_last p (q ∷ ps) zero d inside = refl
standing_last p (q ∷ ps) (suc i) d inside = standing_last (perm_of q) ps i d (omega arith)

-- ---- the runs between points

pub next_after : (at : ℕ) (p : Perm) (ps : List Point) → ArePointsAfter at p ps → at ≤ 2 ^ 44 → at ≤ next_page ps
next_after at p [] are inside = inside
next_after at p (q ∷ ps) are inside = are.0.rising

pub next_inside : (at : ℕ) (p : Perm) (ps : List Point) → ArePointsAfter at p ps → next_page ps ≤ 2 ^ 44
next_inside at p [] are = omega arith
next_inside at p (q ∷ ps) are = (let inside : page_of q < 2 ^ 44 = are.0.inside in omega (arith, inside))

pub behind_point : (at : ℕ) (p : Perm) (q : Point) (ps : List Point) → ArePointsAfter at p (q ∷ ps) → page_of q + 1 ≤ next_page ps
behind_point at p q ps are =
    let inside : page_of q < 2 ^ 44 = are.0.inside in
    next_after (page_of q + 1) (perm_of q) ps are.1 (omega (arith, inside))

runs_after :
    (at e : ℕ) (p b : Perm) (ps : List Point) → ArePointsAfter at p ps → e ≤ next_page ps → (e ≡ next_page ps → b ≡ p) → AreRunsAfter e b (runs_of ps)
runs_after at e p b [] are low same = tt
runs_after at e p b (q ∷ ps) are low same =
    go (runs_after (page_of q + 1) e (perm_of q) b ps are.1) (runs_after (page_of q + 1) (page_of q + (next_page ps - page_of q)) (perm_of q)
    (perm_of q) ps are.1) (allows q) refl
  where
    behind : page_of q + 1 ≤ next_page ps
    behind = behind_point at p q ps are

    go :
        (e ≤ next_page ps → (e ≡ next_page ps → b ≡ perm_of q) → AreRunsAfter e b (runs_of ps))
        → (page_of q + (next_page ps - page_of q) ≤ next_page ps → (page_of q + (next_page ps - page_of q) ≡ next_page ps → perm_of q ≡ perm_of q)
        → AreRunsAfter (page_of q + (next_page ps - page_of q)) (perm_of q) (runs_of ps))
        → (t : Bool) → allows q ≡ t → AreRunsAfter e b ((if t then record { first = page_of q; count = next_page ps - page_of q; perm = perm_of q } ∷ [] else
        []) ++ runs_of ps)
    go over on true is =
        let inside : next_page ps ≤ 2 ^ 44 = next_inside (page_of q + 1) (perm_of q) ps are.1 in
        let ends : page_of q + (next_page ps - page_of q) ≡ next_page ps = omega (arith, behind) in (
          record {
            rising = low;
            maximal = λ touch. λ equal. are.0.changes (equal ∙ same touch);
            some = omega (arith, behind);
            allows = allows_some (q.number % 8) is;
            inside = omega (arith, ends, inside);
          },
          on (omega (arith, ends)) (λ e. refl),
        )
    go over on false is = over (omega (arith, behind, low)) (λ touch. absurd (omega (arith, behind, low, touch)))

pub runs_are : (ps : List Point) → ArePoints ps → AreRuns (runs_of ps)
runs_are ps are = runs_after 0 0 NoAccess NoAccess ps are (next_after 0 NoAccess ps are (omega arith)) (λ e. refl)

-- ---- their view

-- the permission of a page, where p stands before the points
abbrev pub view_from : Perm → List Point → ℕ → Perm
view_from p [] page = p
view_from p (q ∷ ps) page = cond (nat_lt page (page_of q)) p (view_from (perm_of q) ps page)

none_before : (at : ℕ) (p : Perm) (ps : List Point) (page : ℕ) → ArePointsAfter at p ps → page < next_page ps → view_of_runs (runs_of ps) page ≡ NoAccess
none_before at p ps page are low =
    view_before (next_page ps) p (runs_of ps) page (runs_after at (next_page ps) p p ps are (omega arith) (λ e. refl)) low

first_stands : (p : Perm) (ps : List Point) (page : ℕ) → page < next_page ps → view_from p ps page ≡ p
first_stands p [] page low = refl
first_stands p (q ∷ ps) page low = cond-true (nat_lt page (page_of q)) p (view_from (perm_of q) ps page) (lt-ltb _ _ low)

view_behind :
    (at : ℕ) (p : Perm) (ps : List Point) (page : ℕ) → ArePointsAfter at p ps → page < 2 ^ 44 → next_page ps ≤ page
    → view_of_runs (runs_of ps) page ≡ view_from p ps page
view_behind at p [] page are small high = absurd (omega (arith, small, high))
view_behind at p (q ∷ ps) page are small high =
    go (view_behind (page_of q + 1) (perm_of q) ps page are.1 small) (allows q) refl
    ∙ sym (cond-false (nat_lt page (page_of q)) p (view_from (perm_of q) ps page) (le-ltb _ _ high))
  where
    go :
        (next_page ps ≤ page → view_of_runs (runs_of ps) page ≡ view_from (perm_of q) ps page)
        → (t : Bool) → allows q ≡ t
        → view_of_runs ((if t then record { first = page_of q; count = next_page ps - page_of q; perm = perm_of q } ∷ [] else []) ++ runs_of ps) page
        ≡ view_from (perm_of q) ps page
    go rest true is =
        let behind : page_of q + 1 ≤ next_page ps = behind_point at p q ps are in
        let ends : page_of q + (next_page ps - page_of q) ≡ next_page ps = omega (arith, behind) in
        ⊎_elim
        (λ less. view_in (record { first = page_of q; count = next_page ps - page_of q; perm = perm_of q }) (runs_of ps) page high (omega (arith, less, ends))
        ∙ sym (first_stands (perm_of q) ps page less))
        (λ more. view_past (record { first = page_of q; count = next_page ps - page_of q; perm = perm_of q }) (runs_of ps) page (omega (arith, more, ends))
        ∙ rest more)
        (cases_lt page (next_page ps))
    go rest false is =
        ⊎_elim
        (λ less. none_before (page_of q + 1) (perm_of q) ps page are.1 less ∙ sym (first_stands (perm_of q) ps page less ∙ allows_none (q.number % 8) is))
        (λ more. rest more)
        (cases_lt page (next_page ps))

pub view_is : (ps : List Point) (page : ℕ) → ArePoints ps → page < 2 ^ 44 → view_of_runs (runs_of ps) page ≡ view_from NoAccess ps page
view_is ps page are small =
    ⊎_elim (λ less. none_before 0 NoAccess ps page are less ∙ sym (first_stands NoAccess ps page less)) (λ more. view_behind 0 NoAccess ps page are small more)
    (cases_lt page (next_page ps))

-- ---- how many there are

-- how many of the points begin a run
abbrev begun : List Point → ℕ
begun [] = 0
begun (q ∷ ps) = cond (allows q) (suc (begun ps)) (begun ps)

begun_is : (ps : List Point) → begun ps ≡ count_by allows ps
begun_is ps = is_count_by begun allows refl (λ q qs. let e : suc (begun qs) ≡ 1 + begun qs = omega arith in ap (λ n. cond (allows q) n (begun qs)) e) ps

runs_begun : (ps : List Point) → length (runs_of ps) ≡ begun ps
runs_begun [] = refl
runs_begun (q ∷ ps) = go (runs_begun ps) (allows q)
  where
    go :
        length (runs_of ps) ≡ begun ps → (t : Bool)
        → length ((if t then record { first = page_of q; count = next_page ps - page_of q; perm = perm_of q } ∷ [] else []) ++ runs_of ps) ≡ cond t
        (suc (begun ps)) (begun ps)
    go rest true = ap suc rest
    go rest false = rest

pub runs_count : (ps : List Point) → length (runs_of ps) ≡ count_by allows ps
runs_count ps = runs_begun ps ∙ begun_is ps

-- at most one point without a permission beside each with one
few_points : (at : ℕ) (p : Perm) (ps : List Point) → ArePointsAfter at p ps → (length ps ≤ 2 * begun ps + 1) × (p ≡ NoAccess → length ps ≤ 2 * begun ps)
few_points at p [] are = (omega arith, (λ none. omega arith))
few_points at p (q ∷ ps) are = go (allows q) refl (few_points (page_of q + 1) (perm_of q) ps are.1)
  where
    go :
        (t : Bool) → allows q ≡ t → (length ps ≤ 2 * begun ps + 1) × (perm_of q ≡ NoAccess → length ps ≤ 2 * begun ps)
        → (suc (length ps) ≤ 2 * cond t (suc (begun ps)) (begun ps) + 1) × (p ≡ NoAccess → suc (length ps) ≤ 2 * cond t (suc (begun ps)) (begun ps))
    go true is few = (let most = few.0 in (omega (arith, most), (λ none. omega (arith, most))))
    go false is few =
        let q_none : perm_of q ≡ NoAccess = allows_none (q.number % 8) is in
        let most = few.1 q_none in
        (omega (arith, most), (λ none. absurd (are.0.changes (q_none ∙ sym none))))

pub points_few : (ps : List Point) → ArePoints ps → length ps ≤ 2 * length (runs_of ps) + 1
points_few ps are = omega (arith, (few_points 0 NoAccess ps are).0, runs_begun ps)

pub empty_is : {X : Type 0} (xs : List X) → length xs ≡ 0 → xs ≡ []
empty_is [] e = refl
empty_is (x ∷ xs) e = absurd (omega (arith, e))
