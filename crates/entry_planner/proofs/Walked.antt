-- What a walk down a split block adds, from what it adds in the halves.
use Rattle.std.proofs.Common.{◌≡◌, ℕ, suc, ◌+◌, ◌-◌, ◌^◌, ◌≤◌, List, [], ◌∷◌, ◌++◌, length, take, get_or, Some, IsPermutation, reverse, refl, sym, ap, subst}
use Rattle.std.proofs.Common.{◌∙◌, arith, length-append}
use Rattle.std.proofs.lemmas.Grind.{common_steps}
use Rattle.std.proofs.lemmas.List.{append_cancel_right}
use Rattle.std.proofs.lemmas.List.Sorted.{IsPermutation-trans}
use Rattle.pmp_encoding.specs.declared.perm.Perm.{Perm}
use Rattle.pmp_encoding.specs.declared.perm.Perm.TheVariants.{NoAccess}
use Rattle.pmp_encoding.specs.declared.region.Entry.{Entry}
use Rattle.prefix_tree.specs.Trees.{PermTree, Uniform, Split, Fits}
use Rattle.prefix_tree.specs.Joined.{one_perm}
use Rattle.entry_planner.specs.declared.costs.SplitCost.{SplitCost}
use Rattle.entry_planner.specs.Choice.{AddsChosen, AddsOwn, AreChosen, IsChosenAt, handed_on}
use Rattle.entry_planner.specs.Placement.{ArePages, IsOwn}
use Rattle.entry_planner.specs.SplitCosts.{split_cost, splits_in}
use Rattle.entry_planner.proofs.Added.{both_added}
use Rattle.entry_planner.proofs.BlockCosts.{added_both}
use Rattle.entry_planner.proofs.BlockPages.{lower_pages, upper_pages}

-- ---- the halves are a size smaller

pub halves_fit_in : (tree low high : PermTree) (k j : ℕ) → tree ≡ Split low high → j + 1 ≡ k → Fits k tree → Fits j low × Fits j high
halves_fit_in tree low high k j split height fits =
    let up : k ≡ suc j = omega arith in
    let F : PermTree → Type 0 = λ t. Fits (suc j) t in
    let G : ℕ → Type 0 = λ n. Fits n tree in
    subst F split (subst G up fits)

pub lower_are_pages : (k j first : ℕ) → j + 1 ≡ k → ArePages k first → ArePages j first
lower_are_pages k j first height pages =
    let up : k ≡ suc j = omega arith in
    let P : ℕ → Type 0 = λ n. ArePages n first in
    lower_pages j first (subst P up pages)

pub upper_are_pages : (k j first : ℕ) → j + 1 ≡ k → ArePages k first → ArePages j (first + 2 ^ j)
upper_are_pages k j first height pages =
    let up : k ≡ suc j = omega arith in
    let P : ℕ → Type 0 = λ n. ArePages n first in
    upper_pages j first (subst P up pages)

-- ---- what the list of costs has

abbrev pub EndsWith : List SplitCost → PermTree → Type 0
EndsWith costs tree = (rest : List SplitCost) × (costs ≡ rest ++ reverse (splits_in tree))

-- the block's own comes last
last_apart : {X : Type 0} (xs ys : List X) (x d : X) → xs ≡ ys ++ x ∷ [] → (get_or xs (length xs - 1) d ≡ x) × (take (length xs - 1) xs ≡ ys)
last_apart xs ys x d is = rw is (last ys, before ys)
  where
    last : (l : List _) → get_or (l ++ x ∷ []) (length (l ++ x ∷ []) - 1) d ≡ x
    last l = grind (arith, common_steps)

    before : (l : List _) → take (length (l ++ x ∷ []) - 1) (l ++ x ∷ []) ≡ l
    before l = grind (arith, common_steps)

halves_apart :
    (tree low high : PermTree) (rest : List SplitCost) → tree ≡ Split low high
    → rest ++ reverse (splits_in tree) ≡ ((rest ++ reverse (splits_in high)) ++ reverse (splits_in low)) ++ split_cost low high ∷ []
halves_apart tree low high rest split =
    ap (λ t. rest ++ reverse (splits_in t)) split ∙ sym (added_both rest (splits_in low) (splits_in high) (split_cost low high))

pub some_left : (costs : List SplitCost) (tree low high : PermTree) → tree ≡ Split low high → EndsWith costs tree → 1 ≤ length costs
some_left costs tree low high split ends =
    let before = (ends.0 ++ reverse (splits_in high)) ++ reverse (splits_in low) in
    omega (arith, ap length (ends.1 ∙ halves_apart tree low high ends.0 split), length-append before (split_cost low high ∷ []))

pub last_is :
    (costs : List SplitCost) (tree low high : PermTree) (d : SplitCost) → tree ≡ Split low high → EndsWith costs tree
    → get_or costs (length costs - 1) d ≡ split_cost low high
last_is costs tree low high d split ends =
    (last_apart costs ((ends.0 ++ reverse (splits_in high)) ++ reverse (splits_in low)) (split_cost low high) d
    (ends.1 ∙ halves_apart tree low high ends.0 split)).0

others_are :
    (costs : List SplitCost) (tree low high : PermTree) → tree ≡ Split low high → (ends : EndsWith costs tree)
    → take (length costs - 1) costs ≡ (ends.0 ++ reverse (splits_in high)) ++ reverse (splits_in low)
others_are costs tree low high split ends =
    (last_apart costs ((ends.0 ++ reverse (splits_in high)) ++ reverse (splits_in low)) (split_cost low high) (split_cost low high)
    (ends.1 ∙ halves_apart tree low high ends.0 split)).1

pub lower_ends :
    (costs : List SplitCost) (tree low high : PermTree) → tree ≡ Split low high → EndsWith costs tree → EndsWith (take (length costs - 1) costs) low
lower_ends costs tree low high split ends = (ends.0 ++ reverse (splits_in high), others_are costs tree low high split ends)

-- what is left once those of the lower half are taken
left : (costs rest : List SplitCost) (tree low high : PermTree) → tree ≡ Split low high → (ends : EndsWith costs tree)
    → take (length costs - 1) costs ≡ rest ++ reverse (splits_in low) → rest ≡ ends.0 ++ reverse (splits_in high)
left costs rest tree low high split ends same =
    append_cancel_right rest (ends.0 ++ reverse (splits_in high)) (reverse (splits_in low)) (sym same ∙ others_are costs tree low high split ends)

pub upper_ends :
    (costs rest : List SplitCost) (tree low high : PermTree) → tree ≡ Split low high → EndsWith costs tree
    → take (length costs - 1) costs ≡ rest ++ reverse (splits_in low) → EndsWith rest high
upper_ends costs rest tree low high split ends same = (ends.0, left costs rest tree low high split ends same)

-- and once those of the upper half are taken, too
pub rest_is :
    (costs rest before : List SplitCost) (tree low high : PermTree) → tree ≡ Split low high → EndsWith costs tree
    → take (length costs - 1) costs ≡ rest ++ reverse (splits_in low) → rest ≡ before ++ reverse (splits_in high)
    → costs ≡ before ++ reverse (splits_in tree)
rest_is costs rest before tree low high split ends lower upper =
    let same : before ≡ ends.0 =
    append_cancel_right before ends.0 (reverse (splits_in high)) (sym upper ∙ left costs rest tree low high split ends lower) in
    ends.1 ∙ ap (λ l. l ++ reverse (splits_in tree)) (sym same)

-- ---- the entries that are added

-- the entries of a split block are those of its halves and its own
pub split_is :
    (tree low high : PermTree) (k i j first lower upper : ℕ) (p q : Perm) (l h o : List Entry) → tree ≡ Split low high → i + 1 ≡ k → j + 1 ≡ k → lower ≡ first
    → upper ≡ first + 2 ^ (k - 1) → q ≡ handed_on low high p → IsChosenAt i lower q low l → IsChosenAt j upper q high h → IsOwn k first p q o
    → IsChosenAt k first p tree (l ++ (h ++ o))
split_is tree low high k i j first lower upper p q l h o split low_height height at_lower at_upper handed in_low in_high own =
    let up : k ≡ suc j = omega arith in
    let down : k - 1 ≡ j = omega arith in
    let level : i ≡ j = omega arith in
    let low_chosen : IsChosenAt j first (handed_on low high p) low l =
    (let P : ℕ → Type 0 = λ n. IsChosenAt i n q low l in
    let Q : ℕ → Type 0 = λ n. IsChosenAt n first q low l in
    let R : Perm → Type 0 = λ r. IsChosenAt j first r low l in
    subst R handed (subst Q level (subst P at_lower in_low))) in
    let high_chosen : IsChosenAt j (first + 2 ^ j) (handed_on low high p) high h =
    (let P : ℕ → Type 0 = λ n. IsChosenAt j n q high h in
    let R : Perm → Type 0 = λ r. IsChosenAt j (first + 2 ^ j) r high h in
    subst R handed (subst P (at_upper ∙ ap (λ n. first + 2 ^ n) down) in_high)) in
    let its_own : IsOwn (suc j) first p (handed_on low high p) o =
    (let P : ℕ → Type 0 = λ n. IsOwn n first p q o in let R : Perm → Type 0 = λ r. IsOwn (suc j) first p r o in subst R handed (subst P up own)) in
    let whole : IsChosenAt (suc j) first p (Split low high) (l ++ (h ++ o)) = (l, h, o, refl, low_chosen, high_chosen, its_own) in
    let T : PermTree → Type 0 = λ t. IsChosenAt (suc j) first p t (l ++ (h ++ o)) in
    let N : ℕ → Type 0 = λ n. IsChosenAt n first p tree (l ++ (h ++ o)) in
    subst N (sym up) (subst T (sym split) whole)

pub split_chosen :
    (tree low high : PermTree) (k i j first lower upper : ℕ) (p q : Perm) (a b c d : List Entry) → tree ≡ Split low high → i + 1 ≡ k → j + 1 ≡ k → lower ≡ first
    → upper ≡ first + 2 ^ (k - 1) → q ≡ handed_on low high p → AddsChosen i lower q low a b → AddsChosen j upper q high b c → AddsOwn k first p q c d
    → AddsChosen k first p tree a d
split_chosen tree low high k i j first lower upper p q a b c d split low_height height at_lower at_upper handed l h o = (
  l.0 ++ (h.0 ++ o.0),
  split_is tree low high k i j first lower upper p q l.0 h.0 o.0 split low_height height at_lower at_upper handed l.1 h.1 o.1,
  both_added a b d l.0 (h.0 ++ o.0) l.2 (both_added b c d h.0 o.0 h.2 o.2),
)

is_uniform : (tree : PermTree) (q : Perm) → Some q ≡ one_perm tree → tree ≡ Uniform q
is_uniform (Uniform p) q e = let same : q ≡ p = cc in ap Uniform (sym same)
is_uniform (Split lower upper) q e = absurd (let no : ⊥ = cc in no)

pub uniform_chosen :
    (tree : PermTree) (k first : ℕ) (p q : Perm) (a b : List Entry) → Some q ≡ one_perm tree → AddsOwn k first p q a b → AddsChosen k first p tree a b
uniform_chosen tree k first p q a b one own =
    let T : PermTree → Type 0 = λ t. IsChosenAt k first p t own.0 in
    (own.0, subst T (sym (is_uniform tree q one)) own.1, own.2)

-- what is added to no entries, in another order, is what is chosen for the whole space
pub all_chosen :
    (tree : PermTree) (old placed entries : List Entry) → old ≡ [] → AddsChosen 44 0 NoAccess tree old placed → IsPermutation placed entries
    → AreChosen tree entries
all_chosen tree old placed entries none adds same =
    let P : List Entry → Type 0 = λ l. IsPermutation (l ++ adds.0) placed in
    (adds.0, adds.1, IsPermutation-trans adds.0 placed entries (subst P none adds.2) same)
