-- A chain whose pages before and after the smallest block have the inherited permission: no larger block of it takes an entry, nor do those pages.
use Rattle.std.proofs.Common.{◌≡◌, ℕ, zero, suc, ◌+◌, ◌-◌, ◌*◌, ◌^◌, ◌<◌, ◌≤◌, ⊎_elim, List, [], ◌∷◌, ◌++◌, length, take, Bool, ◌||◌, if◌then◌else◌, inl}
use Rattle.std.proofs.Common.{reverse, refl, sym, ap, subst, ◌∙◌, arith, append_assoc, length-append, pow-add}
use Rattle.std.proofs.Math.Bool.{or-true}
use Rattle.std.proofs.Math.Seq.{take-append_seam}
use Rattle.std.proofs.lemmas.Bool.{cases_lt}
use Rattle.std.proofs.lemmas.List.{append-nil, length-reverse, reverse-append}
use Rattle.pmp_encoding.specs.declared.perm.Perm.{Perm}
use Rattle.pmp_encoding.specs.declared.region.Entry.{Entry}
use Rattle.prefix_tree.specs.declared.chains.Chain.{Chain}
use Rattle.prefix_tree.specs.Trees.{PermTree, Uniform, Split, Fits}
use Rattle.prefix_tree.specs.Chains.{chained, nested}
use Rattle.prefix_tree.proofs.Nested.{nested_lower, nested_upper, parts_below, upper_place}
use Rattle.entry_planner.specs.declared.costs.SplitCost.{SplitCost}
use Rattle.entry_planner.specs.Best.{is_best}
use Rattle.entry_planner.specs.Choice.{AddsChosen, IsChosenAt, handed_on}
use Rattle.entry_planner.specs.Placement.{ArePages, IsOwn}
use Rattle.entry_planner.specs.SplitCosts.{split_cost, splits_in}
use Rattle.entry_planner.proofs.Choices.{kept_handed}
use Rattle.entry_planner.proofs.SamePerm.{perm_eq-same}
use Rattle.entry_planner.proofs.Sets.{has-set_of}
use Rattle.entry_planner.proofs.Walked.{EndsWith}

-- ---- the entries

-- a block of the inherited permission takes none
none_owned : (k first : ℕ) (p : Perm) → IsOwn k first p p []
none_owned k first p =
    let unless : Bool → ℕ = λ t. if t then 0 else 1 in
    (inl (refl, refl), sym (ap unless (perm_eq-same p)))

-- a half of the inherited permission keeps it for both
kept_low : (low : PermTree) (p : Perm) → p ≡ handed_on low (Uniform p) p
kept_low low p =
    kept_handed low (Uniform p) (split_cost low (Uniform p)) p refl
    (has-set_of (λ r. is_best low r || is_best (Uniform p) r) p ∙ ap (λ t. is_best low p || t) (perm_eq-same p) ∙ or-true (is_best low p))

kept_high : (high : PermTree) (p : Perm) → p ≡ handed_on (Uniform p) high p
kept_high high p =
    kept_handed (Uniform p) high (split_cost (Uniform p) high) p refl
    (has-set_of (λ r. is_best (Uniform p) r || is_best high r) p ∙ ap (λ t. t || is_best high p) (perm_eq-same p))

-- the entries of the smallest block are those of the largest
kept :
    (n j first place : ℕ) (p : Perm) (tree : PermTree) (es : List Entry) → place < 2 ^ n → IsChosenAt j (first + place * 2 ^ j) p tree es
    → IsChosenAt (n + j) first p (nested n place p p tree) es
kept zero j first place p tree es inside chosen =
    let none : place ≡ 0 = omega (arith, inside) in
    let start : first + place * 2 ^ j ≡ first = omega (arith, ap (λ x. x * 2 ^ j) none) in
    let same : j ≡ 0 + j = omega arith in
    let P : ℕ → Type 0 = λ f. IsChosenAt j f p tree es in
    let N : ℕ → Type 0 = λ m. IsChosenAt m first p tree es in
    subst N same (subst P start chosen)
kept (suc n) j first place p tree es inside chosen =
    let up : suc (n + j) ≡ suc n + j = omega arith in
    let N : ℕ → Type 0 = λ m. IsChosenAt m first p (nested (suc n) place p p tree) es in
    let T : PermTree → Type 0 = λ t. IsChosenAt (suc (n + j)) first p t es in
    subst N up
    (⊎_elim
    (λ low.
    let half : PermTree = nested n place p p tree in
    let own : (k f : ℕ) → IsOwn k f (handed_on half (Uniform p) p) p [] = λ k f.
    (let P : Perm → Type 0 = λ q. IsOwn k f q p [] in subst P (kept_low half p) (none_owned k f p)) in
    let its_own : IsOwn (suc (n + j)) first p (handed_on half (Uniform p) p) [] =
    (let P : Perm → Type 0 = λ q. IsOwn (suc (n + j)) first p q [] in subst P (kept_low half p) (none_owned (suc (n + j)) first p)) in
    let in_half : IsChosenAt (n + j) first (handed_on half (Uniform p) p) half es =
    (let P : Perm → Type 0 = λ q. IsChosenAt (n + j) first q half es in subst P (kept_low half p) (kept n j first place p tree es low chosen)) in
    let whole : T (Split half (Uniform p)) = (es, [], [], sym (append-nil es), in_half, own (n + j) (first + 2 ^ (n + j)), its_own) in
    subst T (sym (nested_lower n place p p tree low)) whole)
    (λ high.
    let half : PermTree = nested n (place - 2 ^ n) p p tree in
    let middle : ℕ = first + 2 ^ (n + j) in
    let A : ℕ → Type 0 = λ f. IsChosenAt j f p tree es in
    let own : (k f : ℕ) → IsOwn k f (handed_on (Uniform p) half p) p [] = λ k f.
    (let P : Perm → Type 0 = λ q. IsOwn k f q p [] in subst P (kept_high half p) (none_owned k f p)) in
    let its_own : IsOwn (suc (n + j)) first p (handed_on (Uniform p) half p) [] =
    (let P : Perm → Type 0 = λ q. IsOwn (suc (n + j)) first p q [] in subst P (kept_high half p) (none_owned (suc (n + j)) first p)) in
    let in_half : IsChosenAt (n + j) middle (handed_on (Uniform p) half p) half es =
    (let P : Perm → Type 0 = λ q. IsChosenAt (n + j) middle q half es in
    subst P (kept_high half p)
    (kept n j middle (place - 2 ^ n) p tree es (omega (arith, high, inside)) (subst A (sym (upper_place n j first place high)) chosen))) in
    let whole : T (Split (Uniform p) half) = ([], es, [], sym (append-nil es), own (n + j) first, in_half, its_own) in
    subst T (sym (nested_upper n place p p tree high)) whole)
    (cases_lt place (2 ^ n)))

pub kept_chosen :
    (shape tree : PermTree) (chain : Chain) (k j first start : ℕ) (p : Perm) (old new : List Entry) → shape ≡ chained chain tree → chain.before ≡ p
    → chain.behind ≡ p
    → chain.place < 2 ^ chain.levels → j + chain.levels ≡ k → start ≡ first + chain.place * 2 ^ j → AddsChosen j start p tree old new
    → AddsChosen k first p shape old new
kept_chosen shape tree chain k j first start p old new is before behind inside height at adds =
    let same : shape ≡ nested chain.levels chain.place p p tree =
    is ∙ ap (λ q. nested chain.levels chain.place q chain.behind tree) before ∙ ap (λ q. nested chain.levels chain.place p q tree) behind in
    let A : ℕ → Type 0 = λ f. IsChosenAt j f p tree adds.0 in
    let N : ℕ → Type 0 = λ m. IsChosenAt m first p (nested chain.levels chain.place p p tree) adds.0 in
    let T : PermTree → Type 0 = λ t. IsChosenAt k first p t adds.0 in
    let top : chain.levels + j ≡ k = omega (arith, height) in (
      adds.0,
      subst T (sym same) (subst N top (kept chain.levels j first chain.place p tree adds.0 inside (subst A at adds.1))),
      adds.2,
    )

-- ---- the smallest block

smallest_fits_in : (n k place : ℕ) (before behind : Perm) (tree : PermTree) → Fits k (nested n place before behind tree) → (n ≤ k) × Fits (k - n) tree
smallest_fits_in zero k place before behind tree fits =
    let same : k ≡ k - 0 = omega arith in
    let G : ℕ → Type 0 = λ m. Fits m tree in
    (omega arith, subst G same fits)
smallest_fits_in (suc n) zero place before behind tree fits =
    let F : PermTree → Type 0 = Fits zero in
    absurd
    (⊎_elim (λ low. subst F (nested_lower n place before behind tree low) fits) (λ high. subst F (nested_upper n place before behind tree high) fits)
    (cases_lt place (2 ^ n)))
smallest_fits_in (suc n) (suc k) place before behind tree fits =
    let F : PermTree → Type 0 = Fits (suc k) in
    let r : (n ≤ k) × Fits (k - n) tree =
    ⊎_elim
    (λ low. smallest_fits_in n k place before behind tree (subst F (nested_lower n place before behind tree low) fits).0)
    (λ high. smallest_fits_in n k (place - 2 ^ n) before behind tree (subst F (nested_upper n place before behind tree high) fits).1)
    (cases_lt place (2 ^ n)) in
    let same : k - n ≡ suc k - suc n = omega arith in
    let G : ℕ → Type 0 = λ m. Fits m tree in
    (omega (arith, r.0), subst G same r.1)

pub smallest_fits : (shape tree : PermTree) (chain : Chain) (k : ℕ) → shape ≡ chained chain tree → Fits k shape
    → (chain.levels ≤ k) × Fits (k - chain.levels) tree
smallest_fits shape tree chain k is fits =
    let F : PermTree → Type 0 = Fits k in smallest_fits_in chain.levels k chain.place chain.before chain.behind tree (subst F is fits)

pub inside_pages : (k n j first place : ℕ) → j + n ≡ k → place < 2 ^ n → ArePages k first → ArePages j (first + place * 2 ^ j)
inside_pages k n j first place height inside pages =
    let size : 2 ^ k ≡ 2 ^ n * 2 ^ j = (let sum : k ≡ n + j = omega (arith, height) in ap (λ m. 2 ^ m) sum ∙ pow-add 2 n j) in
    let within : place * 2 ^ j + 2 ^ j ≤ 2 ^ n * 2 ^ j = parts_below place (2 ^ n) (2 ^ j) inside in
    let start : pages.place * (2 ^ n * 2 ^ j) + place * 2 ^ j ≡ (pages.place * 2 ^ n + place) * 2 ^ j = grind arith in
    record {
      place = pages.place * 2 ^ n + place;
      aligned = omega (arith, pages.aligned, ap (λ s. pages.place * s) size, start);
      inside = omega (arith, pages.inside, size, within);
    }

-- ---- the costs

larger_costs :
    (n place : ℕ) (before behind : Perm) (tree : PermTree)
    → (larger : List SplitCost) × (splits_in (nested n place before behind tree) ≡ larger ++ splits_in tree) × (length larger ≡ n)
larger_costs zero place before behind tree = ([], refl, refl)
larger_costs (suc n) place before behind tree =
    ⊎_elim
    (λ low.
    let half : PermTree = nested n place before behind tree in
    let r = larger_costs n place before behind tree in
    let own : SplitCost = split_cost half (Uniform behind) in (
      own ∷ r.0,
      ap splits_in (nested_lower n place before behind tree low) ∙ ap (λ l. own ∷ l) (append-nil (splits_in half) ∙ r.1),
      omega (arith, r.2),
    ))
    (λ high.
    let half : PermTree = nested n (place - 2 ^ n) before behind tree in
    let r = larger_costs n (place - 2 ^ n) before behind tree in
    let own : SplitCost = split_cost (Uniform before) half in (
      own ∷ r.0,
      ap splits_in (nested_upper n place before behind tree high) ∙ ap (λ l. own ∷ l) r.1,
      omega (arith, r.2),
    ))
    (cases_lt place (2 ^ n))

-- in a list that ends with a chain's costs, those before its larger blocks' end with its smallest block's
pub record AreSmallest (costs : List SplitCost) (n : ℕ) (shape tree : PermTree) : Type 0 where
  pub levels : n ≤ length costs
  pub ends : EndsWith (take (length costs - n) costs) tree
  pub back : (rest : List SplitCost) → take (length costs - n) costs ≡ rest ++ reverse (splits_in tree) → costs ≡ rest ++ reverse (splits_in shape)

pub smallest_costs : (costs : List SplitCost) (chain : Chain) (shape tree : PermTree) → shape ≡ chained chain tree → EndsWith costs shape
    → AreSmallest costs chain.levels shape tree
smallest_costs costs chain shape tree is ends =
    let larger = larger_costs chain.levels chain.place chain.before chain.behind tree in
    let front : List SplitCost = ends.0 ++ reverse (splits_in tree) in
    let last : List SplitCost = reverse larger.0 in
    let apart : (rest : List SplitCost) → rest ++ reverse (splits_in shape) ≡ (rest ++ reverse (splits_in tree)) ++ last =
    λ rest.
    ap (λ l. rest ++ reverse l) (ap splits_in is ∙ larger.1) ∙ ap (λ l. rest ++ l) (reverse-append larger.0 (splits_in tree))
    ∙ sym (append_assoc rest (reverse (splits_in tree)) last) in
    let parts : costs ≡ front ++ last = ends.1 ∙ apart ends.0 in
    let count : length costs ≡ length front + chain.levels = ap length parts ∙ length-append front last
    ∙ ap (λ n. length front + n) (length-reverse larger.0 ∙ larger.2) in
    let cut : length costs - chain.levels ≡ length front = omega (arith, count) in
    let taken : take (length costs - chain.levels) costs ≡ front = ap (λ n. take n costs) cut ∙ ap (take (length front)) parts ∙ take-append_seam front last in
    record {
      levels = omega (arith, count);
      ends = (ends.0, taken);
      back = λ rest same. parts ∙ ap (λ l. l ++ last) (sym taken ∙ same) ∙ sym (apart rest);
    }
