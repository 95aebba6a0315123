-- A chain is spelled from its largest block in to its smallest, and out again.
use Rattle.std.proofs.Common.{◌≡◌, ◌∙◌, ℕ, zero, suc, ◌+◌, ◌-◌, ◌^◌, ◌<◌, ◌≤◌, ⊎_elim, List, ◌∷◌, ◌++◌, Bool, true, false, cond, append_assoc, append-nil}
use Rattle.std.proofs.Common.{arith, ap, ap₂, refl, sym, subst}
use Rattle.std.proofs.lemmas.Bool.{cases_lt, lt-ltb, le-ltb, leb-true, leb-false}
use Rattle.pmp_encoding.specs.declared.perm.Perm.{Perm}
use Rattle.pmp_match.specs.Bounds.{Leaf}
use Rattle.prefix_tree.specs.declared.chains.Chain.{Chain}
use Rattle.prefix_tree.specs.Trees.{PermTree, Uniform, Fits}
use Rattle.prefix_tree.specs.Chains.{nested, chained, goes_up, smaller}
use Rattle.prefix_tree.proofs.Nested.{nested_lower, nested_upper, smaller_lower, smaller_upper}
use Rattle.entry_planner.specs.declared.costs.BlockCost.{BlockCost}
use Rattle.entry_planner.specs.Plans.{cost_in, costed}
use Rattle.certificate_format.specs.declared.costs.SixCosts.{SixCosts}
use Rattle.certificate_format.specs.Costs.{cost_of, six_of}
use Rattle.certificate_format.specs.Spelling.{costs_bytes, node_bytes, FitsNode}
use Rattle.plan_certificate.specs.ChainBytes.{head_bytes, leaves_bytes, tail_bytes}

-- ---- one block

abbrev front_bytes : List BlockCost → ℕ → List ℕ
front_bytes costs i = 1 ∷ costs_bytes (cost_in costs i)

abbrev leaf_bytes : Perm → List ℕ
leaf_bytes perm = node_bytes (Leaf perm)

head_lower :
    (costs : List BlockCost) (i n place : ℕ) (before : Perm) → place < 2 ^ n
    → head_bytes costs i (suc n) place before ≡ front_bytes costs i ++ head_bytes costs (i + 1) n place before
head_lower costs i n place before low =
    ap (λ t. front_bytes costs i ++ cond t (head_bytes costs (i + 1) n place before) (leaf_bytes before ++ head_bytes costs (i + 1) n (place - 2 ^ n) before))
    (lt-ltb place (2 ^ n) low)

head_upper :
    (costs : List BlockCost) (i n place : ℕ) (before : Perm) → 2 ^ n ≤ place
    → head_bytes costs i (suc n) place before ≡ front_bytes costs i ++ (leaf_bytes before ++ head_bytes costs (i + 1) n (place - 2 ^ n) before)
head_upper costs i n place before high =
    ap (λ t. front_bytes costs i ++ cond t (head_bytes costs (i + 1) n place before) (leaf_bytes before ++ head_bytes costs (i + 1) n (place - 2 ^ n) before))
    (le-ltb place (2 ^ n) high)

tail_lower : (n place : ℕ) (behind : Perm) → place < 2 ^ n → tail_bytes (suc n) place behind ≡ leaf_bytes behind ++ tail_bytes n place behind
tail_lower n place behind low = ap (λ t. cond t (leaf_bytes behind ++ tail_bytes n place behind) (tail_bytes n (place - 2 ^ n) behind))
    (lt-ltb place (2 ^ n) low)

tail_upper : (n place : ℕ) (behind : Perm) → 2 ^ n ≤ place → tail_bytes (suc n) place behind ≡ tail_bytes n (place - 2 ^ n) behind
tail_upper n place behind high = ap (λ t. cond t (leaf_bytes behind ++ tail_bytes n place behind) (tail_bytes n (place - 2 ^ n) behind))
    (le-ltb place (2 ^ n) high)

-- ---- the whole chain

-- the leaves behind are all the same
tail_end : (n place : ℕ) (behind : Perm) → tail_bytes n place behind ++ leaf_bytes behind ≡ leaf_bytes behind ++ tail_bytes n place behind
tail_end zero place behind = refl
tail_end (suc n) place behind =
    ⊎_elim
    (λ low.
    ap (λ (x : List ℕ). x ++ leaf_bytes behind) (tail_lower n place behind low)
    ∙ append_assoc (leaf_bytes behind) (tail_bytes n place behind) (leaf_bytes behind)
    ∙ ap (λ (x : List ℕ). leaf_bytes behind ++ x) (tail_end n place behind)
    ∙ ap (λ (x : List ℕ). leaf_bytes behind ++ x) (sym (tail_lower n place behind low)))
    (λ high.
    ap (λ (x : List ℕ). x ++ leaf_bytes behind) (tail_upper n place behind high)
    ∙ tail_end n (place - 2 ^ n) behind
    ∙ ap (λ (x : List ℕ). leaf_bytes behind ++ x) (sym (tail_upper n place behind high)))
    (cases_lt place (2 ^ n))

pub chain_spelled :
    (costs : List BlockCost) (i n place : ℕ) (before behind : Perm) (tree : PermTree)
    → node_bytes (costed costs i (nested n place before behind tree))
    ≡ head_bytes costs i n place before ++ (node_bytes (costed costs (i + n) tree) ++ tail_bytes n place behind)
chain_spelled costs i zero place before behind tree =
    let same : i ≡ i + 0 = omega arith in
    ap (λ m. node_bytes (costed costs m tree)) same ∙ sym (append-nil (node_bytes (costed costs (i + 0) tree)))
chain_spelled costs i (suc n) place before behind tree =
    ⊎_elim
    (λ low.
    let H = head_bytes costs (i + 1) n place before in
    let T = tail_bytes n place behind in
    let N = node_bytes (costed costs (i + 1 + n) tree) in
    ap (λ t. node_bytes (costed costs i t)) (nested_lower n place before behind tree low)
    ∙ ap (λ (x : List ℕ). front_bytes costs i ++ (x ++ leaf_bytes behind)) (chain_spelled costs (i + 1) n place before behind tree)
    ∙ ap (λ (x : List ℕ). front_bytes costs i ++ x)
    (append_assoc H (N ++ T) (leaf_bytes behind) ∙ ap (λ (x : List ℕ). H ++ x)
    (append_assoc N T (leaf_bytes behind) ∙ ap (λ (x : List ℕ). N ++ x) (tail_end n place behind)))
    ∙ sym (append_assoc (front_bytes costs i) H (N ++ (leaf_bytes behind ++ T)))
    ∙ ap₂ (λ (h r : List ℕ). h ++ r) (sym (head_lower costs i n place before low))
    (ap₂ (λ (m : ℕ) (r : List ℕ). node_bytes (costed costs m tree) ++ r) deeper (sym (tail_lower n place behind low))))
    (λ high.
    let H = head_bytes costs (i + 1) n (place - 2 ^ n) before in
    let T = tail_bytes n (place - 2 ^ n) behind in
    let N = node_bytes (costed costs (i + 1 + n) tree) in
    let none : i + 1 + 0 ≡ i + 1 = omega arith in
    ap (λ t. node_bytes (costed costs i t)) (nested_upper n place before behind tree high)
    ∙ ap (λ m. front_bytes costs i ++ (leaf_bytes before ++ node_bytes (costed costs m (nested n (place - 2 ^ n) before behind tree)))) none
    ∙ ap (λ (x : List ℕ). front_bytes costs i ++ (leaf_bytes before ++ x)) (chain_spelled costs (i + 1) n (place - 2 ^ n) before behind tree)
    ∙ ap (λ (x : List ℕ). front_bytes costs i ++ x) (sym (append_assoc (leaf_bytes before) H (N ++ T)))
    ∙ sym (append_assoc (front_bytes costs i) (leaf_bytes before ++ H) (N ++ T))
    ∙ ap₂ (λ (h r : List ℕ). h ++ r) (sym (head_upper costs i n place before high))
    (ap₂ (λ (m : ℕ) (r : List ℕ). node_bytes (costed costs m tree) ++ r) deeper (sym (tail_upper n place behind high))))
    (cases_lt place (2 ^ n))
  where
    deeper : i + 1 + n ≡ i + suc n
    deeper = omega arith

-- its costs fit where those of its split blocks and of its smallest block do
pub chain_fits :
    (costs : List BlockCost) (k i n place : ℕ) (before behind : Perm) (tree : PermTree)
    → ((m : ℕ) → i ≤ m → m < i + n → (p : Perm) → cost_in costs m p < 2 ^ 32) → ((j : ℕ) → Fits j tree → FitsNode j (costed costs (i + n) tree))
    → Fits k (nested n place before behind tree) → FitsNode k (costed costs i (nested n place before behind tree))
chain_fits costs k i zero place before behind tree small inside fits =
    let same : i + 0 ≡ i = omega arith in
    let F : ℕ → Type 0 = λ m. FitsNode k (costed costs m tree) in
    subst F same (inside k fits)
chain_fits costs zero i (suc n) place before behind tree small inside fits =
    let F : PermTree → Type 0 = Fits zero in
    ⊎_elim (λ low. absurd (subst F (nested_lower n place before behind tree low) fits))
    (λ high. absurd (subst F (nested_upper n place before behind tree high) fits))
    (cases_lt place (2 ^ n))
chain_fits costs (suc k) i (suc n) place before behind tree small inside fits =
    ⊎_elim
    (λ low.
    let half = (subst F (nested_lower n place before behind tree low) fits).0 in
    subst G (sym (nested_lower n place before behind tree low))
    ((λ p. small i (omega arith) (omega arith) p), chain_fits costs k (i + 1) n place before behind tree later deeper half, tt))
    (λ high.
    let half = (subst F (nested_upper n place before behind tree high) fits).1 in
    let none : i + 1 ≡ i + 1 + 0 = omega arith in
    let U : ℕ → Type 0 = λ m. FitsNode k (costed costs m (nested n (place - 2 ^ n) before behind tree)) in
    subst G (sym (nested_upper n place before behind tree high))
    ((λ p. small i (omega arith) (omega arith) p), tt, subst U none (chain_fits costs k (i + 1) n (place - 2 ^ n) before behind tree later deeper half)))
    (cases_lt place (2 ^ n))
  where
    F : PermTree → Type 0
    F t = Fits (suc k) t

    G : PermTree → Type 0
    G t = FitsNode (suc k) (costed costs i t)

    later : (m : ℕ) → i + 1 ≤ m → m < i + 1 + n → (p : Perm) → cost_in costs m p < 2 ^ 32
    later m from to p = small m (omega arith) (omega arith) p

    deeper : (j : ℕ) → Fits j tree → FitsNode j (costed costs (i + 1 + n) tree)
    deeper j f = let same : i + suc n ≡ i + 1 + n = omega arith in let D : ℕ → Type 0 = λ m. FitsNode j (costed costs m tree) in subst D same (inside j f)

-- ---- the same, as the walk down has them

pub head_down :
    (costs : List BlockCost) (i : ℕ) (chain : Chain) (before : Perm) → 0 < chain.levels → goes_up chain ≡ false
    → head_bytes costs i chain.levels chain.place before ≡ front_bytes costs i ++ head_bytes costs (i + 1) (smaller chain).levels (smaller chain).place before
head_down costs i chain before some down =
    let n = chain.levels - 1 in
    let next : chain.levels ≡ suc n = omega arith in
    let same : cond (goes_up chain) (chain.place - 2 ^ n) chain.place ≡ chain.place = ap (λ t. cond t (chain.place - 2 ^ n) chain.place) down in
    ap (λ m. head_bytes costs i m chain.place before) next
    ∙ head_lower costs i n chain.place before (leb-false (2 ^ n) chain.place down)
    ∙ ap (λ p. front_bytes costs i ++ head_bytes costs (i + 1) n p before) (sym same)

pub head_up :
    (costs : List BlockCost) (i : ℕ) (chain : Chain) (before : Perm) → 0 < chain.levels → goes_up chain ≡ true
    → head_bytes costs i chain.levels chain.place before
    ≡ front_bytes costs i ++ (node_bytes (Leaf before) ++ head_bytes costs (i + 1) (smaller chain).levels (smaller chain).place before)
head_up costs i chain before some up =
    let n = chain.levels - 1 in
    let next : chain.levels ≡ suc n = omega arith in
    let same : cond (goes_up chain) (chain.place - 2 ^ n) chain.place ≡ chain.place - 2 ^ n = ap (λ t. cond t (chain.place - 2 ^ n) chain.place) up in
    ap (λ m. head_bytes costs i m chain.place before) next
    ∙ head_upper costs i n chain.place before (leb-true (2 ^ n) chain.place up)
    ∙ ap (λ p. front_bytes costs i ++ (leaf_bytes before ++ head_bytes costs (i + 1) n p before)) (sym same)

pub tail_down :
    (chain : Chain) (behind : Perm) → 0 < chain.levels → goes_up chain ≡ false
    → tail_bytes chain.levels chain.place behind ≡ node_bytes (Leaf behind) ++ tail_bytes (smaller chain).levels (smaller chain).place behind
tail_down chain behind some down =
    let n = chain.levels - 1 in
    let next : chain.levels ≡ suc n = omega arith in
    let same : cond (goes_up chain) (chain.place - 2 ^ n) chain.place ≡ chain.place = ap (λ t. cond t (chain.place - 2 ^ n) chain.place) down in
    ap (λ m. tail_bytes m chain.place behind) next
    ∙ tail_lower n chain.place behind (leb-false (2 ^ n) chain.place down)
    ∙ ap (λ p. leaf_bytes behind ++ tail_bytes n p behind) (sym same)

pub tail_up :
    (chain : Chain) (behind : Perm) → 0 < chain.levels → goes_up chain ≡ true
    → tail_bytes chain.levels chain.place behind ≡ tail_bytes (smaller chain).levels (smaller chain).place behind
tail_up chain behind some up =
    let n = chain.levels - 1 in
    let next : chain.levels ≡ suc n = omega arith in
    let same : cond (goes_up chain) (chain.place - 2 ^ n) chain.place ≡ chain.place - 2 ^ n = ap (λ t. cond t (chain.place - 2 ^ n) chain.place) up in
    ap (λ m. tail_bytes m chain.place behind) next ∙ tail_upper n chain.place behind (leb-true (2 ^ n) chain.place up)
    ∙ ap (λ p. tail_bytes n p behind) (sym same)

-- what is held and what is still to be put, after one block more
pub held_down :
    (costs : List BlockCost) (i : ℕ) (chain : Chain) (before : Perm) (held new all : List ℕ) → 0 < chain.levels → goes_up chain ≡ false
    → new ≡ held ++ front_bytes costs i → held ++ head_bytes costs i chain.levels chain.place before ≡ all
    → new ++ head_bytes costs (i + 1) (smaller chain).levels (smaller chain).place before ≡ all
held_down costs i chain before held new all some down is whole =
    let rest = head_bytes costs (i + 1) (smaller chain).levels (smaller chain).place before in
    ap (λ (x : List ℕ). x ++ rest) is
    ∙ append_assoc held (front_bytes costs i) rest
    ∙ ap (λ (x : List ℕ). held ++ x) (sym (head_down costs i chain before some down))
    ∙ whole

pub held_up :
    (costs : List BlockCost) (i : ℕ) (chain : Chain) (before : Perm) (held front new all : List ℕ) → 0 < chain.levels → goes_up chain ≡ true
    → front ≡ held ++ front_bytes costs i → new ≡ front ++ node_bytes (Leaf before) → held ++ head_bytes costs i chain.levels chain.place before ≡ all
    → new ++ head_bytes costs (i + 1) (smaller chain).levels (smaller chain).place before ≡ all
held_up costs i chain before held front new all some up is leaf whole =
    let rest = head_bytes costs (i + 1) (smaller chain).levels (smaller chain).place before in
    ap (λ (x : List ℕ). x ++ rest) (leaf ∙ ap (λ (x : List ℕ). x ++ leaf_bytes before) is)
    ∙ append_assoc (held ++ front_bytes costs i) (leaf_bytes before) rest
    ∙ append_assoc held (front_bytes costs i) (leaf_bytes before ++ rest)
    ∙ ap (λ (x : List ℕ). held ++ x) (sym (head_up costs i chain before some up))
    ∙ whole

-- a front's bytes, as the code makes them
pub front_is : (costs : List BlockCost) (i : ℕ) (front array : List ℕ) (six : SixCosts) → front ≡ array → array ≡ 1 ∷ costs_bytes (cost_of six)
    → six ≡ six_of (cost_in costs i) → front ≡ front_bytes costs i
front_is costs i front array six is_front is_array is_six = is_front ∙ is_array ∙ ap (λ (x : SixCosts). 1 ∷ costs_bytes (cost_of x)) is_six

-- the costs up to the next block fit
pub fits_more :
    (costs : List BlockCost) (i next : ℕ) → ((m : ℕ) → i ≤ m → m < next → (p : Perm) → cost_in costs m p < 2 ^ 32)
    → ((p : Perm) → cost_in costs next p < 2 ^ 32)
    → (m : ℕ) → i ≤ m → m < next + 1 → (p : Perm) → cost_in costs m p < 2 ^ 32
fits_more costs i next before here m from to p =
    ⊎_elim (λ less. before m from less p) (λ more. let same : m ≡ next = omega arith in let F : ℕ → Type 0 = λ n. cost_in costs n p < 2 ^ 32 in subst F
    (sym same) (here p)) (cases_lt m next)

-- the bytes of a chain's largest block are the heads, those of its smallest and the tails
pub chain_put :
    (costs : List BlockCost) (i : ℕ) (chain : Chain) (shape tree : PermTree) → shape ≡ chained chain tree
    → (head_bytes costs i chain.levels chain.place chain.before ++ node_bytes (costed costs (i + chain.levels) tree))
    ++ tail_bytes chain.levels chain.place chain.behind
    ≡ node_bytes (costed costs i shape)
chain_put costs i chain shape tree is =
    append_assoc (head_bytes costs i chain.levels chain.place chain.before) (node_bytes (costed costs (i + chain.levels) tree))
    (tail_bytes chain.levels chain.place chain.behind)
    ∙ sym (chain_spelled costs i chain.levels chain.place chain.before chain.behind tree)
    ∙ ap (λ t. node_bytes (costed costs i t)) (sym is)

-- the next block of a chain lies in it, too
pub placed_next : (chain : Chain) → 0 < chain.levels → chain.place < 2 ^ chain.levels → (smaller chain).place < 2 ^ (smaller chain).levels
placed_next chain some placed = go (goes_up chain) refl
  where
    go : (t : Bool) → goes_up chain ≡ t → (smaller chain).place < 2 ^ (smaller chain).levels
    go true up = (smaller_upper chain (Uniform chain.before) some placed up).1
    go false down = (smaller_lower chain (Uniform chain.before) some down).1

pub tails_down :
    (chain : Chain) (behind : Perm) (held new all : List ℕ) → 0 < chain.levels → goes_up chain ≡ false → new ≡ held ++ node_bytes (Leaf behind)
    → held ++ tail_bytes chain.levels chain.place behind ≡ all → new ++ tail_bytes (smaller chain).levels (smaller chain).place behind ≡ all
tails_down chain behind held new all some down is whole =
    ap (λ (x : List ℕ). x ++ tail_bytes (smaller chain).levels (smaller chain).place behind) is
    ∙ append_assoc held (leaf_bytes behind) (tail_bytes (smaller chain).levels (smaller chain).place behind)
    ∙ ap (λ (x : List ℕ). held ++ x) (sym (tail_down chain behind some down))
    ∙ whole

pub tails_up :
    (chain : Chain) (behind : Perm) (held all : List ℕ) → 0 < chain.levels → goes_up chain ≡ true → held ++ tail_bytes chain.levels chain.place behind ≡ all
    → held ++ tail_bytes (smaller chain).levels (smaller chain).place behind ≡ all
tails_up chain behind held all some up whole = ap (λ (x : List ℕ). held ++ x) (sym (tail_up chain behind some up)) ∙ whole

-- once no block is left
pub no_heads : (costs : List BlockCost) (i n place : ℕ) (before : Perm) (held all : List ℕ) → n ≤ 0 → held ++ head_bytes costs i n place before ≡ all
    → held ≡ all
no_heads costs i n place before held all none whole =
    let zero_left : 0 ≡ n = omega arith in
    sym (append-nil held) ∙ ap (λ m. held ++ head_bytes costs i m place before) zero_left ∙ whole

pub no_tails : (n place : ℕ) (behind : Perm) (held all : List ℕ) → n ≤ 0 → held ++ tail_bytes n place behind ≡ all → held ≡ all
no_tails n place behind held all none whole =
    let zero_left : 0 ≡ n = omega arith in
    sym (append-nil held) ∙ ap (λ m. held ++ tail_bytes m place behind) zero_left ∙ whole

-- one leaf more
pub leaves_more : (n : ℕ) (perm : Perm) → leaves_bytes (n + 1) perm ≡ leaves_bytes n perm ++ node_bytes (Leaf perm)
leaves_more zero perm = refl
leaves_more (suc n) perm =
    let next : suc n + 1 ≡ suc (n + 1) = omega arith in
    ap (λ m. leaves_bytes m perm) next
    ∙ ap (λ (x : List ℕ). leaf_bytes perm ++ x) (leaves_more n perm)
    ∙ sym (append_assoc (leaf_bytes perm) (leaves_bytes n perm) (leaf_bytes perm))

-- one of those that are left is held
pub leaf_held :
    (n : ℕ) (perm : Perm) (held new all : List ℕ) → 0 < n → new ≡ held ++ node_bytes (Leaf perm) → held ++ leaves_bytes n perm ≡ all
    → new ++ leaves_bytes (n - 1) perm ≡ all
leaf_held zero perm held new all some is whole = absurd (omega (arith, some))
leaf_held (suc n) perm held new all some is whole =
    let back : suc n - 1 ≡ n = omega arith in
    ap (λ m. new ++ leaves_bytes m perm) back
    ∙ ap (λ (x : List ℕ). x ++ leaves_bytes n perm) is ∙ append_assoc held (leaf_bytes perm) (leaves_bytes n perm) ∙ whole

pub no_leaves : (n : ℕ) (perm : Perm) (held all : List ℕ) → n ≤ 0 → held ++ leaves_bytes n perm ≡ all → held ≡ all
no_leaves zero perm held all none whole = sym (append-nil held) ∙ whole
no_leaves (suc n) perm held all none whole = absurd (omega (arith, none))
