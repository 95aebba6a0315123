-- A walk down a chain: the blocks that are reached, and what is added before them.
use Rattle.std.proofs.Common.{◌≡◌, ℕ, suc, ◌+◌, ◌-◌, ◌*◌, ◌/◌, ◌%◌, ◌^◌, ◌<◌, ◌≤◌, List, eq-zero-or-pos, ⊎_elim, ◌++◌, refl, sym, ap, subst, ◌∙◌, arith}
use Rattle.std.proofs.Common.{pow_pos, pow-add, pow-suc, length, reverse}
use Rattle.std.proofs.Math.Nat.{div-add-mod, div-div-eq-div-mul, div-lt_iff_lt-mul, div-one, mod-eq_of_lt, mod-lt}
use Rattle.std.proofs.lemmas.Nat.{mod-pow-add}
use Rattle.pmp_encoding.specs.declared.perm.Perm.{Perm}
use Rattle.pmp_encoding.specs.declared.region.Entry.{Entry}
use Rattle.prefix_tree.specs.declared.chains.Chain.{Chain}
use Rattle.prefix_tree.specs.Trees.{PermTree, Uniform, Split, Fits}
use Rattle.prefix_tree.specs.Chains.{chained, nested}
use Rattle.prefix_tree.proofs.Nested.{nested_lower, nested_upper}
use Rattle.entry_planner.specs.declared.costs.SplitCost.{SplitCost}
use Rattle.entry_planner.specs.Choice.{AddsChosen, AddsOwn, handed_on}
use Rattle.entry_planner.specs.Placement.{place_at}
use Rattle.entry_planner.specs.SplitCosts.{splits_in}
use Rattle.entry_planner.proofs.ChainPlaced.{Completes, begun, completed, went_down, went_up}
use Rattle.entry_planner.proofs.Walked.{halves_fit_in, some_left}

-- ---- the blocks that are left

-- the blocks of a chain that are split at most so often
abbrev pub below : ℕ → Chain → Chain
below n chain = record { levels = n; place = chain.place % 2 ^ n; before = chain.before; behind = chain.behind }

-- those that are left where the largest was halved so often
abbrev pub left_at : Chain → ℕ → PermTree → PermTree
left_at chain depth tree = chained (below (chain.levels - depth) chain) tree

whole : (chain : Chain) (tree : PermTree) → chain.place < 2 ^ chain.levels → left_at chain 0 tree ≡ chained chain tree
whole chain tree small =
    let all : chain.levels - 0 ≡ chain.levels = omega arith in
    ap (λ n. nested n (chain.place % 2 ^ n) chain.before chain.behind tree) all
    ∙ ap (λ p. nested chain.levels p chain.before chain.behind tree) (mod-eq_of_lt small)

none_left : (chain : Chain) (depth : ℕ) (tree : PermTree) → chain.levels ≤ depth → left_at chain depth tree ≡ tree
none_left chain depth tree end = let none : chain.levels - depth ≡ 0 = omega arith in ap
    (λ n. nested n (chain.place % 2 ^ n) chain.before chain.behind tree) none

-- the last digit but n of a place says which half is the next
digit : (place n : ℕ) → place % 2 ^ suc n ≡ (place / 2 ^ n % 2) * 2 ^ n + place % 2 ^ n
digit place n = (let up : suc n ≡ 1 + n = omega arith in ap (λ k. place % 2 ^ k) up) ∙ mod-pow-add place 1 n

split_upper :
    (chain : Chain) (tree : PermTree) (m n : ℕ) → n + 1 ≡ m → chain.place / 2 ^ n % 2 ≡ 1
    → chained (below m chain) tree ≡ Split (Uniform chain.before) (chained (below n chain) tree)
split_upper chain tree m n next odd =
    let up : m ≡ suc n = omega (arith, next) in
    let all : chain.place % 2 ^ suc n ≡ 2 ^ n + chain.place % 2 ^ n = digit chain.place n ∙ ap (λ d. d * 2 ^ n + chain.place % 2 ^ n) odd ∙ (omega arith) in
    ap (λ k. nested k (chain.place % 2 ^ k) chain.before chain.behind tree) up
    ∙ nested_upper n (chain.place % 2 ^ suc n) chain.before chain.behind tree (omega (arith, all))
    ∙ ap (λ p. Split (Uniform chain.before) (nested n p chain.before chain.behind tree)) (omega (arith, all))

split_lower :
    (chain : Chain) (tree : PermTree) (m n : ℕ) → n + 1 ≡ m → chain.place / 2 ^ n % 2 ≡ 0
    → chained (below m chain) tree ≡ Split (chained (below n chain) tree) (Uniform chain.behind)
split_lower chain tree m n next even =
    let up : m ≡ suc n = omega (arith, next) in
    let all : chain.place % 2 ^ suc n ≡ chain.place % 2 ^ n = digit chain.place n ∙ ap (λ d. d * 2 ^ n + chain.place % 2 ^ n) even ∙ (omega arith) in
    let small : chain.place % 2 ^ n < 2 ^ n = mod-lt chain.place (pow_pos n) in
    ap (λ k. nested k (chain.place % 2 ^ k) chain.before chain.behind tree) up
    ∙ nested_lower n (chain.place % 2 ^ suc n) chain.before chain.behind tree (omega (arith, all, small))
    ∙ ap (λ p. Split (nested n p chain.before chain.behind tree) (Uniform chain.behind)) all

-- a block that is reached before the smallest is split
pub split_at_upper :
    (chain : Chain) (tree : PermTree) (depth : ℕ) → depth < chain.levels → place_at chain (depth + 1) % 2 ≡ 1
    → left_at chain depth tree ≡ Split (Uniform chain.before) (left_at chain (depth + 1) tree)
split_at_upper chain tree depth some odd = split_upper chain tree (chain.levels - depth) (chain.levels - (depth + 1)) (omega (arith, some)) odd

pub split_at_lower :
    (chain : Chain) (tree : PermTree) (depth : ℕ) → depth < chain.levels → place_at chain (depth + 1) % 2 ≡ 0
    → left_at chain depth tree ≡ Split (left_at chain (depth + 1) tree) (Uniform chain.behind)
split_at_lower chain tree depth some even = split_lower chain tree (chain.levels - depth) (chain.levels - (depth + 1)) (omega (arith, some)) even

-- and has its cost in the list
pub cost_left :
    (costs : List SplitCost) (chain : Chain) (tree : PermTree) (depth : ℕ) → depth < chain.levels
    → (rest : List SplitCost) × (costs ≡ rest ++ reverse (splits_in (left_at chain depth tree))) → 1 ≤ length costs
cost_left costs chain tree depth some ends =
    ⊎_elim (λ even. some_left costs (left_at chain depth tree) _ _ (split_at_lower chain tree depth some even) ends)
    (λ odd. some_left costs (left_at chain depth tree) _ _ (split_at_upper chain tree depth some (omega (arith, odd))) ends)
    (eq-zero-or-pos (place_at chain (depth + 1) % 2))

-- ---- their places

-- a place is twice that of the block that is halved, and one more in the upper half
halved : (place m n : ℕ) → n + 1 ≡ m → place / 2 ^ n ≡ 2 * (place / 2 ^ m) + place / 2 ^ n % 2
halved place m n next =
    let up : m ≡ suc n = omega (arith, next) in
    let twice : place / 2 ^ n / 2 ≡ place / 2 ^ m = div-div-eq-div-mul place (2 ^ n) 2 ∙ ap (λ k. place / k) (sym (ap (λ k. 2 ^ k) up ∙ pow-suc 2 n)) in
    omega (arith, twice, div-add-mod (place / 2 ^ n) 2)

pub place_halved : (chain : Chain) (depth : ℕ) → depth < chain.levels → place_at chain (depth + 1) ≡ 2 * place_at chain depth + place_at chain (depth + 1) % 2
place_halved chain depth some = halved chain.place (chain.levels - depth) (chain.levels - (depth + 1)) (omega (arith, some))

pub place_small : (chain : Chain) (depth : ℕ) → depth ≤ chain.levels → chain.place < 2 ^ chain.levels → place_at chain depth < 2 ^ depth
place_small chain depth few small =
    let n : ℕ = chain.levels - depth in
    let sum : chain.levels ≡ depth + n = omega (arith, few) in
    let fits : chain.place < 2 ^ depth * 2 ^ n = (let whole = ap (λ k. 2 ^ k) sum ∙ pow-add 2 depth n in omega (arith, small, whole)) in
    (div-lt_iff_lt-mul (pow_pos n)).1 fits

-- the other half is a part, too
pub beside_small :
    (chain : Chain) (depth beside : ℕ) → depth < chain.levels → chain.place < 2 ^ chain.levels
    → (place_at chain (depth + 1) % 2 ≡ 1 → beside + 1 ≡ place_at chain (depth + 1))
    → (place_at chain (depth + 1) % 2 ≡ 0 → beside ≡ place_at chain (depth + 1) + 1) → beside < 2 ^ (depth + 1)
beside_small chain depth beside some small upper lower =
    let own = place_small chain (depth + 1) (omega (arith, some)) small in
    let large = place_small chain depth (omega (arith, some)) small in
    let twice = place_halved chain depth some in
    let double : 2 ^ (depth + 1) ≡ 2 ^ depth * 2 = (let is : depth + 1 ≡ suc depth = omega arith in ap (λ n. 2 ^ n) is ∙ pow-suc 2 depth) in
    ⊎_elim (λ even. (let other = lower even in omega (arith, other, large, twice, even, double)))
    (λ some_left. (let odd : place_at chain (depth + 1) % 2 ≡ 1 = omega (arith, some_left) in let other = upper odd in omega (arith, other, own)))
    (eq-zero-or-pos (place_at chain (depth + 1) % 2))

-- the halves of a part begin where it begins and in its middle
middle : (root q place size half : ℕ) → size ≡ half * 2 → place ≡ 2 * q + 1 → root + place * half ≡ root + q * size + half
middle root q place size half double odd = rw (odd, double) (grind arith)

begin : (root q place size half : ℕ) → size ≡ half * 2 → place ≡ 2 * q → root + place * half ≡ root + q * size
begin root q place size half double even = rw (even, double) (grind arith)

-- ---- what is added

-- the blocks down to one of 2 ^ k pages from `first` on are walked, which inherits q, and what it adds is left
pub record WalkedTo (top root : ℕ) (p : Perm) (chain : Chain) (tree : PermTree) (depth : ℕ) (q : Perm) (old new : List Entry) : Type 0 where
  pub k : ℕ
  pub first : ℕ
  pub height : k + depth ≡ top
  pub starts : first ≡ root + place_at chain depth * 2 ^ k
  pub fits : Fits k (left_at chain depth tree)
  pub placed : Completes top root p (chained chain tree) k first q (left_at chain depth tree) old new

pub all_costs :
    (costs : List SplitCost) (chain : Chain) (tree : PermTree) → chain.place < 2 ^ chain.levels
    → ((rest : List SplitCost) → costs ≡ rest ++ reverse (splits_in (left_at chain 0 tree)) → costs ≡ rest ++ reverse (splits_in (chained chain tree)))
    × ((rest : List SplitCost) → costs ≡ rest ++ reverse (splits_in (chained chain tree)) → costs ≡ rest ++ reverse (splits_in (left_at chain 0 tree)))
all_costs costs chain tree small = (
  λ rest e. e ∙ ap (λ t. rest ++ reverse (splits_in t)) (whole chain tree small),
  λ rest e. e ∙ ap (λ t. rest ++ reverse (splits_in t)) (sym (whole chain tree small)),
)

pub begun_at :
    (top root : ℕ) (p : Perm) (chain : Chain) (tree : PermTree) (old : List Entry) → chain.place < 2 ^ chain.levels → Fits top (chained chain tree)
    → WalkedTo top root p chain tree 0 p old old
begun_at top root p chain tree old small fits =
    let F : PermTree → Type 0 = λ t. Fits top t in
    let C : PermTree → Type 0 = λ t. Completes top root p (chained chain tree) top root p t old old in
    let none : place_at chain 0 ≡ 0 = (let none = place_small chain 0 (omega arith) small in omega (arith, none)) in
    record {
      k = top;
      first = root;
      height = omega arith;
      starts = omega (arith, ap (λ n. n * 2 ^ top) none);
      fits = subst F (sym (whole chain tree small)) fits;
      placed = subst C (sym (whole chain tree small)) (begun top root p (chained chain tree) old);
    }

-- the entries of a block that was walked to, and of the half beside the next
pub record IsStep (top root : ℕ) (chain : Chain) (depth : ℕ) (p q : Perm) (side : Perm) (a b c : List Entry) : Type 0 where
  pub k : ℕ
  pub first : ℕ
  pub height : k + depth ≡ top
  pub starts : first ≡ root + place_at chain depth * 2 ^ k
  pub own : AddsOwn k first p q a b
  pub half : ℕ
  pub beside : ℕ
  pub place : ℕ
  pub below : half + (depth + 1) ≡ top
  pub stands : beside ≡ root + place * 2 ^ half
  pub leaf : AddsOwn half beside q side b c

same_own : (k j first start : ℕ) (p q : Perm) (a b : List Entry) → k ≡ j → first ≡ start → AddsOwn k first p q a b → AddsOwn j start p q a b
same_own k j first start p q a b size at own =
    let K : ℕ → Type 0 = λ n. AddsOwn n first p q a b in
    let F : ℕ → Type 0 = λ n. AddsOwn j n p q a b in
    subst F at (subst K size own)

same_start : (k j root place : ℕ) → k ≡ j → root + place * 2 ^ k ≡ root + place * 2 ^ j
same_start k j root place size = ap (λ n. root + place * 2 ^ n) size

pub stepped_upper :
    (top root : ℕ) (t : Perm) (chain : Chain) (tree : PermTree) (depth : ℕ) (p q side : Perm) (old a b c : List Entry) → depth < chain.levels
    → place_at chain (depth + 1) % 2 ≡ 1 → WalkedTo top root t chain tree depth p old a → (step : IsStep top root chain depth p q side a b c)
    → side ≡ chain.before
    → step.place + 1 ≡ place_at chain (depth + 1) → q ≡ handed_on (Uniform chain.before) (left_at chain (depth + 1) tree) p
    → WalkedTo top root t chain tree (depth + 1) q old c
stepped_upper top root t chain tree depth p q side old a b c some odd so step is other handed =
    let leaf = subst (λ s. AddsOwn step.half step.beside q s b c) is step.leaf in
    let split = split_at_upper chain tree depth some odd in
    let place : place_at chain (depth + 1) ≡ 2 * place_at chain depth + 1 = omega (arith, place_halved chain depth some, odd) in
    let k = so.k in
    let j = step.half in
    let up : j + 1 ≡ k = omega (arith, step.below, so.height) in
    let double : 2 ^ k ≡ 2 ^ j * 2 = (let is : k ≡ suc j = omega (arith, up) in ap (λ n. 2 ^ n) is ∙ pow-suc 2 j) in
    let size : step.k ≡ k = omega (arith, step.height, so.height) in
    let at : step.first ≡ so.first = step.starts ∙ same_start step.k k root (place_at chain depth) size ∙ sym so.starts in
    let low : step.beside ≡ so.first =
    step.stands ∙ begin root (place_at chain depth) step.place (2 ^ k) (2 ^ j) double (omega (arith, other, place)) ∙ sym so.starts
    in
    let down : j ≡ k - 1 = omega (arith, up) in
    let high : root + place_at chain (depth + 1) * 2 ^ j ≡ so.first + 2 ^ (k - 1) =
    middle root (place_at chain depth) (place_at chain (depth + 1)) (2 ^ k) (2 ^ j) double place ∙ ap (λ n. n + 2 ^ j) (sym so.starts)
    ∙ ap (λ n. so.first + 2 ^ n) down
    in
    record {
      k = j;
      first = root + place_at chain (depth + 1) * 2 ^ j;
      height = step.below;
      starts = refl;
      fits = (halves_fit_in _ _ _ _ _ split up so.fits).1;
      placed = went_up top root t (chained chain tree) _ _ chain.before k j j so.first step.beside _ p q old a b c split up up low high handed so.placed
          (same_own step.k k step.first so.first p q a b size at step.own) leaf;
    }

pub stepped_lower :
    (top root : ℕ) (t : Perm) (chain : Chain) (tree : PermTree) (depth : ℕ) (p q side : Perm) (old a b c : List Entry) → depth < chain.levels
    → place_at chain (depth + 1) % 2 ≡ 0 → WalkedTo top root t chain tree depth p old a → (step : IsStep top root chain depth p q side a b c)
    → side ≡ chain.behind
    → step.place ≡ place_at chain (depth + 1) + 1 → q ≡ handed_on (left_at chain (depth + 1) tree) (Uniform chain.behind) p
    → WalkedTo top root t chain tree (depth + 1) q old c
stepped_lower top root t chain tree depth p q side old a b c some even so step is other handed =
    let leaf = subst (λ s. AddsOwn step.half step.beside q s b c) is step.leaf in
    let split = split_at_lower chain tree depth some even in
    let place : place_at chain (depth + 1) ≡ 2 * place_at chain depth = omega (arith, place_halved chain depth some, even) in
    let k = so.k in
    let j = step.half in
    let up : j + 1 ≡ k = omega (arith, step.below, so.height) in
    let double : 2 ^ k ≡ 2 ^ j * 2 = (let is : k ≡ suc j = omega (arith, up) in ap (λ n. 2 ^ n) is ∙ pow-suc 2 j) in
    let size : step.k ≡ k = omega (arith, step.height, so.height) in
    let at : step.first ≡ so.first = step.starts ∙ same_start step.k k root (place_at chain depth) size ∙ sym so.starts in
    let low : root + place_at chain (depth + 1) * 2 ^ j ≡ so.first =
    begin root (place_at chain depth) (place_at chain (depth + 1)) (2 ^ k) (2 ^ j) double place ∙ sym so.starts
    in
    let down : j ≡ k - 1 = omega (arith, up) in
    let high : step.beside ≡ so.first + 2 ^ (k - 1) =
    step.stands ∙ middle root (place_at chain depth) step.place (2 ^ k) (2 ^ j) double (omega (arith, other, place)) ∙ ap (λ n. n + 2 ^ j) (sym so.starts)
    ∙ ap (λ n. so.first + 2 ^ n) down
    in
    record {
      k = j;
      first = root + place_at chain (depth + 1) * 2 ^ j;
      height = step.below;
      starts = refl;
      fits = (halves_fit_in _ _ _ _ _ split up so.fits).0;
      placed = went_down top root t (chained chain tree) _ _ chain.behind k j j so.first _ step.beside p q old a b c split up up low high handed so.placed
          (same_own step.k k step.first so.first p q a b size at step.own) leaf;
    }

-- the smallest block is reached
pub ended :
    (top root : ℕ) (t : Perm) (chain : Chain) (tree : PermTree) (depth : ℕ) (q : Perm) (old a b : List Entry) (k first : ℕ) → depth ≡ chain.levels
    → WalkedTo top root t chain tree depth q old a → k + chain.levels ≡ top → first ≡ root + chain.place * 2 ^ k → AddsChosen k first q tree a b
    → AddsChosen top root t (chained chain tree) old b
ended top root t chain tree depth q old a b k first end so height starts small =
    let size : k ≡ so.k = omega (arith, height, so.height, end) in
    let one : place_at chain depth ≡ chain.place = (let none : chain.levels - depth ≡ 0 = omega (arith, end) in ap (λ n. chain.place / 2 ^ n) none
    ∙ div-one chain.place) in
    let at : first ≡ so.first = starts ∙ same_start k so.k root chain.place size ∙ ap (λ n. root + n * 2 ^ so.k) (sym one) ∙ sym so.starts in
    let K : ℕ → Type 0 = λ n. AddsChosen n first q tree a b in
    let F : ℕ → Type 0 = λ n. AddsChosen so.k n q tree a b in
    completed _ _ _ _ _ _ _ _ _ _ _ _ (none_left chain depth tree (omega (arith, end))) so.placed (subst F at (subst K size small))
