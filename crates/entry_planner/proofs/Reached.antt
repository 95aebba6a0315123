-- The entries that are chosen for a view lie where its pages with a permission do.
use Rattle.std.proofs.Common.{◌≡◌, ℕ, zero, suc, ◌+◌, ◌*◌, ◌^◌, ◌<◌, ◌≤◌, inl, ⊎_elim, List, [], ◌∷◌, ◌++◌, Bool, true, false, cond, length, All}
use Rattle.std.proofs.Common.{if◌then◌else◌, refl, sym, ap, subst, ◌∙◌, arith, pow-suc}
use Rattle.std.specs.List.{AllByRecursion}
use Rattle.std.proofs.Math.Path.{ap₂}
use Rattle.std.proofs.Math.Pow.{pow_mono}
use Rattle.std.proofs.lemmas.Bool.{cases_lt, le-leb}
use Rattle.std.proofs.lemmas.List.{append-nil}
use Rattle.std.proofs.lemmas.List.Elements.{All-from_recursion, recursion_from_All}
use Rattle.std.proofs.lemmas.List.Sorted.{All-permutation}
use Rattle.pmp_encoding.specs.declared.perm.Perm.{Perm}
use Rattle.pmp_encoding.specs.declared.perm.Perm.TheVariants.{NoAccess, Read, ReadWrite, Execute, ReadExecute, ReadWriteExecute}
use Rattle.pmp_encoding.specs.declared.region.Entry.{Entry}
use Rattle.pmp_match.specs.Bytes.{perm_at}
use Rattle.pmp_match.specs.Meaning.{View, Means}
use Rattle.pmp_match.proofs.Least.{misses_above}
use Rattle.pmp_match.proofs.Meant.{Means_at}
use Rattle.prefix_tree.specs.Trees.{PermTree, Uniform, Split}
use Rattle.prefix_tree.specs.Joined.{joined}
use Rattle.prefix_tree.specs.TreeOf.{tree_at, tree_of}
use Rattle.prefix_tree.proofs.Canonical.{tree_at-is}
use Rattle.entry_planner.specs.Best.{is_best, least_cost}
use Rattle.entry_planner.specs.Choice.{AreChosen, IsChosenAt, first_least, halves_cost, handed_on}
use Rattle.entry_planner.specs.Costs.{cost, least_of}
use Rattle.entry_planner.specs.Placement.{IsOwn}
use Rattle.entry_planner.specs.Reach.{EndsWithin, HasNoneBehind}
use Rattle.entry_planner.proofs.BestCosts.{cost_is}
use Rattle.entry_planner.proofs.Choices.{chosen_placed}
use Rattle.entry_planner.proofs.CostLemmas.{least_is}
use Rattle.entry_planner.proofs.Placed.{All_weaker, AreParts, IsPart, placed_within}

-- ---- a block whose upper half has no permission

at_most_one : (b : Bool) → (if b then 0 else 1) ≤ 1
at_most_one true = omega arith
at_most_one false = omega arith

-- an entry of its own saves no more than it costs
keeps_none : (lower : PermTree) → handed_on lower (Uniform NoAccess) NoAccess ≡ NoAccess
keeps_none lower =
    let f = halves_cost lower (Uniform NoAccess) in
    let l = least_is (halves_cost lower (Uniform NoAccess)) in
    let here : cost lower NoAccess ≤ least_cost lower + 1 = omega (arith, cost_is lower NoAccess, at_most_one (is_best lower NoAccess)) in
    let there : least_cost lower ≤ cost lower l.0 = omega (arith, cost_is lower l.0) in
    let few : halves_cost lower (Uniform NoAccess) NoAccess ≤ 1 + least_of (halves_cost lower (Uniform NoAccess)) = omega (arith, l.1) in
    ap (λ (b : Bool). if b then NoAccess else first_least f) (le-leb _ _ few)

no_own : (k first : ℕ) (own : List Entry) → IsOwn k first NoAccess NoAccess own → own ≡ []
no_own k first [] is = refl
no_own k first (e ∷ own) is = absurd (let n : length (e ∷ own) ≡ 0 = is.1 in omega (arith, n))

-- so its entries are those of its lower half
split_low : (k : ℕ) (lower : PermTree) (es : List Entry) → IsChosenAt (suc k) 0 NoAccess (Split lower (Uniform NoAccess)) es → IsChosenAt k 0 NoAccess lower es
split_low k lower es chosen =
    let keep : handed_on lower (Uniform NoAccess) NoAccess ≡ NoAccess = keeps_none lower in
    let low : IsChosenAt k 0 NoAccess lower chosen.0 = subst (λ (p : Perm). IsChosenAt k 0 p lower chosen.0) keep chosen.4 in
    let high : chosen.1 ≡ [] = no_own k (0 + 2 ^ k) chosen.1 (subst (λ (p : Perm). IsOwn k (0 + 2 ^ k) p NoAccess chosen.1) keep chosen.5) in
    let own : chosen.2 ≡ [] = no_own (suc k) 0 chosen.2 (subst (λ (p : Perm). IsOwn (suc k) 0 NoAccess p chosen.2) keep chosen.6) in
    let same : es ≡ chosen.0 = chosen.3 ∙ ap₂ (λ (a b : List Entry). chosen.0 ++ (a ++ b)) high own ∙ append-nil chosen.0 in
    subst (λ (xs : List Entry). IsChosenAt k 0 NoAccess lower xs) (sym same) low

joined_low : (k : ℕ) (lower : PermTree) (es : List Entry) → IsChosenAt (suc k) 0 NoAccess (joined lower (Uniform NoAccess)) es
    → IsChosenAt k 0 NoAccess lower es
joined_low k (Uniform NoAccess) es chosen = rw (no_own (suc k) 0 es chosen) (inl (refl, refl), refl)
joined_low k (Uniform Read) es chosen = split_low k (Uniform Read) es chosen
joined_low k (Uniform ReadWrite) es chosen = split_low k (Uniform ReadWrite) es chosen
joined_low k (Uniform Execute) es chosen = split_low k (Uniform Execute) es chosen
joined_low k (Uniform ReadExecute) es chosen = split_low k (Uniform ReadExecute) es chosen
joined_low k (Uniform ReadWriteExecute) es chosen = split_low k (Uniform ReadWriteExecute) es chosen
joined_low k (Split lower upper) es chosen = split_low k (Split lower upper) es chosen

-- ---- from the whole space down

tree_low : (view : View) (k : ℕ) → tree_at view k (0 + 2 ^ k) ≡ Uniform NoAccess → tree_at view (suc k) 0 ≡ joined (tree_at view k 0) (Uniform NoAccess)
unfolding tree_at
tree_low view k upper = ap (joined (tree_at view k 0)) upper

chosen_low :
    (view : View) (j k : ℕ) (es : List Entry) → j ≤ k → ((page : ℕ) → 2 ^ j ≤ page → page < 2 ^ k → view page ≡ NoAccess)
    → IsChosenAt k 0 NoAccess (tree_at view k 0) es → AreParts 0 j es
chosen_low view j zero es order none chosen =
    let same : 0 ≡ j = omega arith in
    subst (λ (n : ℕ). AreParts 0 n es) same (placed_within (tree_at view 0 0) 0 0 NoAccess es (chosen_placed (tree_at view 0 0) 0 0 NoAccess es chosen))
chosen_low view j (suc k) es order none chosen = ⊎_elim at (below (λ low least half. chosen_low view j k es low least half)) (cases_lt k j)
  where
    at : k < j → AreParts 0 j es
    at high =
        let same : suc k ≡ j = omega arith in
        subst (λ (n : ℕ). AreParts 0 n es) same (placed_within (tree_at view (suc k) 0) (suc k) 0 NoAccess es
        (chosen_placed (tree_at view (suc k) 0) (suc k) 0 NoAccess es chosen))

    below :
        (j ≤ k → ((page : ℕ) → 2 ^ j ≤ page → page < 2 ^ k → view page ≡ NoAccess) → IsChosenAt k 0 NoAccess (tree_at view k 0) es → AreParts 0 j es) → j ≤ k
        → AreParts 0 j es
    below again low =
        let double : 2 ^ suc k ≡ 2 ^ k * 2 = pow-suc 2 k in
        let wide : 2 ^ j ≤ 2 ^ k = pow_mono low in
        let upper : tree_at view k (0 + 2 ^ k) ≡ Uniform NoAccess = tree_at-is view k (0 + 2 ^ k) (Uniform NoAccess) tt
        (λ i inside. none (0 + 2 ^ k + i) (omega arith) (omega arith)) in
        let half : IsChosenAt k 0 NoAccess (tree_at view k 0) es = joined_low k (tree_at view k 0) es
        (subst (λ (t : PermTree). IsChosenAt (suc k) 0 NoAccess t es) (tree_low view k upper) chosen) in
        again low (λ page from to. none page from (omega arith)) half

-- ---- both ways

part_ends : (k : ℕ) (e : Entry) → IsPart 0 k e → EndsWithin k e
part_ends k e part = omega (arith, part.0.1)

pub ends_within : (view : View) (entries : List Entry) (k : ℕ) → k ≤ 44 → AreChosen (tree_of view) entries → HasNoneBehind k view → All (EndsWithin k) entries
ends_within view entries k small chosen none =
    let parts : AreParts 0 k chosen.0 = chosen_low view k 44 chosen.0 small none chosen.1 in
    All-permutation (EndsWithin k) chosen.0 entries chosen.2
    (All-from_recursion (EndsWithin k) chosen.0 (All_weaker (IsPart 0 k) (EndsWithin k) (part_ends k) chosen.0 parts))

none_above : (k : ℕ) (es : List Entry) (x : ℕ) → AllByRecursion (EndsWithin k) es → 2 ^ k * 4096 ≤ x → perm_at NoAccess es x ≡ NoAccess
none_above k [] x within far = refl
none_above k (e ∷ es) x within far =
    ap (λ (t : Bool). cond t e.perm (perm_at NoAccess es x)) (misses_above e.region x (omega (arith, within.0))) ∙ none_above k es x within.1 far

pub none_behind : (view : View) (entries : List Entry) (k : ℕ) → Means entries view → All (EndsWithin k) entries → HasNoneBehind k view
none_behind view entries k means within page from inside =
    sym (Means_at entries view means page inside) ∙ none_above k entries (page * 4096) (recursion_from_All (EndsWithin k) entries within) (omega arith)
