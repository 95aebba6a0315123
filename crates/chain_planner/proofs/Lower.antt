-- The cost of a block is a lower bound on the entries and changes of every list over a chain.
use Rattle.std.proofs.Common.{◌≡◌, ℕ, zero, suc, ◌+◌, ◌-◌, ◌*◌, ◌/◌, ◌^◌, ◌<◌, ◌≤◌, ◌⊎◌, inl, inr, ⊎_elim, List, [], ◌∷◌, Bool, true, false, cond, not, nat_eq}
use Rattle.std.proofs.Common.{length, filter, refl, sym, ap, ◌∙◌, arith, pow_pos, pow-suc, if◌then◌else◌, ◌&&◌}
use Rattle.std.proofs.lemmas.Bool.{cases_lt, eqb-false, ltb-true, ltb-false}
use Rattle.std.proofs.lemmas.List.Filters.{length-filter_both}
use Rattle.pmp_encoding.specs.declared.perm.Perm.{Perm}
use Rattle.pmp_encoding.specs.declared.perm.Perm.TheVariants.{NoAccess}
use Rattle.pmp_encoding.specs.declared.region.Entry.{Entry}
use Rattle.pmp_encoding.specs.Perms.{perm_eq}
use Rattle.pmp_encoding.specs.Views.{View}
use Rattle.pmp_match.specs.Bytes.{perm_at}
use Rattle.pmp_match.proofs.Blocks.{in_lower_half}
use Rattle.pmp_match.proofs.Least.{AreWithin, AreParts, Serves, front, behind, front-within, front-parts, front_serves, low_half, high_half, lower-within, upper-within, lower_serves, upper_serves, bound_le}
use Rattle.prefix_tree.specs.Trees.{PermTree, Uniform, Split, TreeMeansAt}
use Rattle.entry_planner.specs.Costs.{least_of, cost, bounds_of}
use Rattle.entry_planner.proofs.CostLemmas.{least_le, costs_sound, bound_of-bounds_of}
use Rattle.entry_planner.proofs.SamePerm.{perm_eq-same}
use Rattle.chain_planner.specs.ChainCosts.{change, covered, past_middle, through, begins}
use Rattle.chain_planner.specs.Painted.{changes, Paints, Hides}
use Rattle.chain_planner.proofs.Changes.{ends_le, joined}

-- an entry of the whole block gives its permission to all that the entries before it do not match
pub record IsCovered (k : ℕ) (es : List Entry) : Type 0 where
  pub perm : Perm
  pub stands : (p : Perm) → behind k p es ≡ perm
  pub shorter : suc (length (front k es)) ≤ length es

pub covered_or_parts : (k : ℕ) (es : List Entry) → AreParts k es ⊎ IsCovered k es
covered_or_parts k [] = inl tt
covered_or_parts k (e ∷ es) = go (nat_eq e.region.log2 (k + 12)) refl (covered_or_parts k es)
  where
    go : (t : Bool) → nat_eq e.region.log2 (k + 12) ≡ t → AreParts k es ⊎ IsCovered k es → AreParts k (e ∷ es) ⊎ IsCovered k (e ∷ es)
    go true is rest = inr (record { perm = e.perm; stands = λ p. rw is refl; shorter = rw is (omega arith) })
    go false is rest =
        ⊎_elim (λ parts. inl (eqb-false e.region.log2 (k + 12) is, parts))
        (λ c. inr (record { perm = c.perm; stands = λ p. rw is (c.stands p); shorter = rw is (omega (arith, c.shorter)) }))
        rest

-- the entries that give a block what the function does not cost what the block costs, where the function is constant
constant_le :
    (view : View) (tree : PermTree) (k first c : ℕ) (p : Perm) (es : List Entry) → first ≡ c * 2 ^ k → TreeMeansAt view k first tree → AreWithin first k es
    → Serves view p es first k
    → cost tree p ≤ length es
constant_le view tree k first c p es aligned means within serves =
    omega (arith, bound_of-bounds_of tree p, bound_le view (bounds_of tree) k first c p es aligned (costs_sound view tree k first means) within serves)

-- what paints a page gives its first byte
at_page : (view : View) (f : ℕ → Perm) (es : List Entry) (first k page : ℕ) → Paints view f es first k → first ≤ page → page < first + 2 ^ k
    → perm_at (f (page * 4096)) es (page * 4096) ≡ view page
at_page view f es first k page paints low high =
    let same : page * 4096 / 4096 ≡ page = omega arith in
    paints (page * 4096) (omega (arith, low)) (omega (arith, high)) ∙ ap view same

-- where an entry covers the block, it and those before it are at least as many as the block costs so
covered_le :
    (view : View) (lower upper : PermTree) (k first c : ℕ) (f : ℕ → Perm) (es : List Entry) → first ≡ c * 2 ^ suc k
    → TreeMeansAt view (suc k) first (Split lower upper) → AreWithin first (suc k) es → Paints view f es first (suc k) → IsCovered (suc k) es
    → covered lower upper ≤ length es
covered_le view lower upper k first c f es aligned means within paints whole =
    let double : 2 ^ suc k ≡ 2 ^ k * 2 = pow-suc 2 k in
    let r : Perm = whole.perm in
    let g : List Entry = front (suc k) es in
    let g_within : AreWithin first (suc k) g = front-within first (suc k) (suc k) es within in
    let lo : cost lower r ≤ length (filter (low_half first k) g) =
    constant_le view lower k first (2 * c) r (filter (low_half first k) g) (omega (arith, aligned, ap (λ x. c * x) double)) means.0
    (lower-within first k c g aligned g_within (front-parts (suc k) es)) (low_serves double) in
    let hi : cost upper r ≤ length (filter (high_half first k) g) =
    constant_le view upper k (first + 2 ^ k) (2 * c + 1) r (filter (high_half first k) g) (omega (arith, aligned, ap (λ x. c * x) double)) means.1
    (upper-within first k g g_within) (high_serves double) in
    let both : length (filter (low_half first k) g) + length (filter (high_half first k) g) ≡ length g =
    length-filter_both (low_half first k) (high_half first k) (λ e. refl) g in
    omega (arith, lo, hi, both, whole.shorter, least_le (λ q. cost lower q + cost upper q) r)
  where
    given : (page : ℕ) → first ≤ page → page < first + 2 ^ suc k → perm_at whole.perm (front (suc k) es) (page * 4096) ≡ view page
    given page low high =
        ap (λ p. perm_at p (front (suc k) es) (page * 4096)) (sym (whole.stands (f (page * 4096))))
        ∙ sym (front_serves first (suc k) (f (page * 4096)) es (page * 4096) within (omega (arith, low)) (omega (arith, high)))
        ∙ at_page view f es first (suc k) page paints low high

    low_serves : 2 ^ suc k ≡ 2 ^ k * 2 → Serves view whole.perm (filter (low_half first k) (front (suc k) es)) first k
    low_serves double i h =
        sym (lower_serves first k c whole.perm (front (suc k) es) ((first + i) * 4096) (omega (arith, h))) ∙ given (first + i) (omega arith) (omega (arith, h))

    high_serves : 2 ^ suc k ≡ 2 ^ k * 2 → Serves view whole.perm (filter (high_half first k) (front (suc k) es)) (first + 2 ^ k) k
    high_serves double i h =
        sym
        (upper_serves first k c whole.perm (front (suc k) es) ((first + 2 ^ k + i) * 4096) aligned (front-within first (suc k) (suc k) es within)
        (front-parts (suc k) es)
        (omega arith))
        ∙ given (first + 2 ^ k + i) (omega arith) (omega (arith, h, double))

-- the halves are painted by the entries of each
lower_paints : (view : View) (f : ℕ → Perm) (es : List Entry) (first k : ℕ) → Paints view f es first (suc k)
    → Paints view f (filter (low_half first k) es) first k
lower_paints view f es first k paints x low high =
    let double : 2 ^ suc k ≡ 2 ^ k * 2 = pow-suc 2 k in
    sym (lower_serves first k 0 (f x) es x high) ∙ paints x low (omega (arith, high, double))

upper_paints :
    (view : View) (f : ℕ → Perm) (es : List Entry) (first k c : ℕ) → first ≡ c * 2 ^ suc k → AreWithin first (suc k) es → AreParts (suc k) es
    → Paints view f es first (suc k) → Paints view f (filter (high_half first k) es) (first + 2 ^ k) k
upper_paints view f es first k c aligned within parts paints x low high =
    let double : 2 ^ suc k ≡ 2 ^ k * 2 = pow-suc 2 k in
    sym (upper_serves first k c (f x) es x aligned within parts low) ∙ paints x (omega (arith, low)) (omega (arith, high, double))

-- the changes in a block, and its last byte
abbrev pub inner : ℕ → ℕ
inner k = 2 ^ k * 4096 - 1

abbrev pub last_of : ℕ → ℕ → ℕ
last_of first k = first * 4096 + inner k

pub next_half : (first k : ℕ) → first * 4096 + suc (inner k) ≡ (first + 2 ^ k) * 4096
next_half first k = let some : 0 < 2 ^ k = pow_pos k in omega arith

pub last_same : (first k : ℕ) → last_of (first + 2 ^ k) k ≡ last_of first (suc k)
last_same first k = let some : 0 < 2 ^ k = pow_pos k in let double : 2 ^ suc k ≡ 2 ^ k * 2 = pow-suc 2 k in omega arith

-- the changes from an address of the lower half on, over the middle
pub over_middle :
    (f : ℕ → Perm) (first k start m n : ℕ) → start + m ≡ last_of first k → start + n ≡ last_of first (suc k)
    → changes f start n ≡ changes f start m + (change (f (last_of first k)) (f ((first + 2 ^ k) * 4096)) + changes f ((first + 2 ^ k) * 4096) (inner k))
over_middle f first k start m n here there =
    let some : 0 < 2 ^ k = pow_pos k in
    let double : 2 ^ suc k ≡ 2 ^ k * 2 = pow-suc 2 k in
    let middle : start + suc m ≡ (first + 2 ^ k) * 4096 = omega arith in
    let count : n ≡ m + suc (inner k) = omega arith in
    let parts : changes f start (m + suc (inner k)) ≡ changes f start m + (change (f (start + m)) (f (start + suc m)) + changes f (start + suc m) (inner k)) =
    joined f start m (inner k) in
    ap (changes f start) count ∙ rw (middle, here) at parts

-- a block of one permission that is not painted by a constant function alone needs an entry
leaf_le :
    (view : View) (v : Perm) (k first : ℕ) (f : ℕ → Perm) (es : List Entry) → TreeMeansAt view k first (Uniform v) → Paints view f es first k
    → through (Uniform v) (f (first * 4096)) (f (last_of first k)) ≤ length es + changes f (first * 4096) (inner k)
leaf_le view v k first f [] means paints = rw (at_low, at_high, perm_eq-same v) (omega arith)
  where
    at : (x : ℕ) → first * 4096 ≤ x → x < (first + 2 ^ k) * 4096 → f x ≡ v
    at x low high =
        let page : first + (x / 4096 - first) ≡ x / 4096 = omega (arith, low) in
        let inside : x / 4096 - first < 2 ^ k = omega (arith, low, high) in
        paints x low high ∙ ap view (sym page) ∙ means (x / 4096 - first) inside

    at_low : f (first * 4096) ≡ v
    at_low = let some : 0 < 2 ^ k = pow_pos k in at (first * 4096) (omega arith) (omega arith)

    at_high : f (last_of first k) ≡ v
    at_high = let some : 0 < 2 ^ k = pow_pos k in at (last_of first k) (omega arith) (omega arith)
leaf_le view v k first f (e ∷ es) means paints = go (perm_eq (f (first * 4096)) v && perm_eq v (f (last_of first k)))
  where
    go : (t : Bool) → (if t then 0 else 1 + change (f (first * 4096)) (f (last_of first k))) ≤ suc (length es) + changes f (first * 4096) (inner k)
    go true = omega arith
    go false = omega (arith, ends_le f (first * 4096) (inner k))

-- a chain that passes the block
pub through_le :
    (view : View) (tree : PermTree) (k first c : ℕ) (f : ℕ → Perm) (es : List Entry) → first ≡ c * 2 ^ k → TreeMeansAt view k first tree
    → AreWithin first k es → Paints view f es first k
    → through tree (f (first * 4096)) (f (last_of first k)) ≤ length es + changes f (first * 4096) (inner k)
through_le view (Uniform v) k first c f es aligned means within paints = leaf_le view v k first f es means paints
through_le view (Split lower upper) zero first c f es aligned means within paints = absurd means
through_le view (Split lower upper) (suc k) first c f es aligned means within paints =
    ⊎_elim
    (λ parts.
    let double : 2 ^ suc k ≡ 2 ^ k * 2 = pow-suc 2 k in
    let p : Perm = f (first * 4096) in
    let m : Perm = f (last_of first k) in
    let n : Perm = f ((first + 2 ^ k) * 4096) in
    let q : Perm = f (last_of first (suc k)) in
    let lo : through lower p m ≤ length (filter (low_half first k) es) + changes f (first * 4096) (inner k) =
    through_le view lower k first (2 * c) f (filter (low_half first k) es) (omega (arith, aligned, ap (λ x. c * x) double)) means.0
    (lower-within first k c es aligned within parts) (lower_paints view f es first k paints) in
    let hi : through upper n (f (last_of (first + 2 ^ k) k)) ≤ length (filter (high_half first k) es) + changes f ((first + 2 ^ k) * 4096) (inner k) =
    through_le view upper k (first + 2 ^ k) (2 * c + 1) f (filter (high_half first k) es) (omega (arith, aligned, ap (λ x. c * x) double)) means.1
    (upper-within first k es within) (upper_paints view f es first k c aligned within parts paints) in
    let top : through upper n (f (last_of (first + 2 ^ k) k)) ≡ through upper n q = ap (λ x. through upper n (f x)) (last_same first k) in
    let all : changes f (first * 4096) (inner (suc k)) ≡ changes f (first * 4096) (inner k) + (change m n + changes f ((first + 2 ^ k) * 4096) (inner k)) =
    over_middle f first k (first * 4096) (inner k) (inner (suc k)) refl refl in
    let both : length (filter (low_half first k) es) + length (filter (high_half first k) es) ≡ length es =
    length-filter_both (low_half first k) (high_half first k) (λ e. refl) es in
    let at_middle : past_middle (through lower p) n ≤ through lower p m + change m n = least_le (λ m. through lower p m + change m n) m in
    let at_all : least_of (λ n. past_middle (through lower p) n + through upper n q) ≤ past_middle (through lower p) n + through upper n q =
    least_le (λ n. past_middle (through lower p) n + through upper n q) n in
    omega (arith, lo, hi, top, all, both, at_middle, at_all))
    (λ whole.
    let cover : covered lower upper ≤ length es = covered_le view lower upper k first c f es aligned means within paints whole in
    omega (arith, cover, ends_le f (first * 4096) (inner (suc k))))
    (covered_or_parts (suc k) es)

-- ---- a chain that begins under an entry of the block

hides_some : (edge : ℕ) (es : List Entry) → Hides edge es → 1 ≤ length es
hides_some edge [] h = absurd h
hides_some edge (e ∷ es) h = omega arith

hides_lower : (first k edge : ℕ) (es : List Entry) → Hides edge es → edge < (first + 2 ^ k) * 4096 → Hides edge (filter (low_half first k) es)
hides_lower first k edge [] h low = absurd h
hides_lower first k edge (e ∷ es) h low = go (low_half first k e) refl h (λ there. hides_lower first k edge es there low)
  where
    go :
        (t : Bool) → low_half first k e ≡ t → ((e.region.base < edge) × (edge < e.region.base + 2 ^ e.region.log2)) ⊎ Hides edge es
        → (Hides edge es → Hides edge (filter (low_half first k) es))
        → Hides edge (cond t (e ∷ filter (low_half first k) es) (filter (low_half first k) es))
    go true is h rest = ⊎_elim (λ here. inl here) (λ there. inr (rest there)) h
    go false is h rest = ⊎_elim (λ here. absurd (omega (arith, here.0, ltb-false _ _ is, low))) (λ there. rest there) h

hides_upper :
    (first k c edge : ℕ) (es : List Entry) → first ≡ c * 2 ^ suc k → AreWithin first (suc k) es → AreParts (suc k) es → Hides edge es
    → (first + 2 ^ k) * 4096 ≤ edge
    → Hides edge (filter (high_half first k) es)
hides_upper first k c edge [] aligned within parts h high = absurd h
hides_upper first k c edge (e ∷ es) aligned within parts h high =
    go (low_half first k e) refl h (λ there. hides_upper first k c edge es aligned within.1 parts.1 there high)
  where
    go :
        (t : Bool) → low_half first k e ≡ t → ((e.region.base < edge) × (edge < e.region.base + 2 ^ e.region.log2)) ⊎ Hides edge es
        → (Hides edge es → Hides edge (filter (high_half first k) es))
        → Hides edge (cond (not t) (e ∷ filter (high_half first k) es) (filter (high_half first k) es))
    go true is h rest =
        let below : e.region.base + 2 ^ e.region.log2 ≤ (first + 2 ^ k) * 4096 =
        in_lower_half e.region.base e.region.log2 k first c e.region.block aligned within.0.1 within.0.0 parts.0 (ltb-true _ _ is) in
        ⊎_elim (λ here. absurd (omega (arith, here.1, below, high))) (λ there. rest there) h
    go false is h rest = ⊎_elim (λ here. inl here) (λ there. inr (rest there)) h

pub begins_le :
    (view : View) (tree : PermTree) (k first c : ℕ) (f : ℕ → Perm) (es : List Entry) (edge n : ℕ) → first ≡ c * 2 ^ k → TreeMeansAt view k first tree
    → AreWithin first k es → Paints view f es first k → Hides edge es → ((x : ℕ) → x < edge → f x ≡ NoAccess) → edge + n ≡ last_of first k
    → begins tree (f (last_of first k)) ≤ length es + changes f edge n
begins_le view (Uniform v) k first c f es edge n aligned means within paints hidden none count = omega (arith, hides_some edge es hidden)
begins_le view (Split lower upper) zero first c f es edge n aligned means within paints hidden none count = absurd means
begins_le view (Split lower upper) (suc k) first c f es edge n aligned means within paints hidden none count =
    let double : 2 ^ suc k ≡ 2 ^ k * 2 = pow-suc 2 k in
    let some : 0 < 2 ^ k = pow_pos k in
    let q : Perm = f (last_of first (suc k)) in
    ⊎_elim
    (λ parts.
    let both : length (filter (low_half first k) es) + length (filter (high_half first k) es) ≡ length es =
    length-filter_both (low_half first k) (high_half first k) (λ e. refl) es in
    let lower_aligned : first ≡ 2 * c * 2 ^ k = omega (arith, aligned, ap (λ x. c * x) double) in
    let upper_aligned : first + 2 ^ k ≡ (2 * c + 1) * 2 ^ k = omega (arith, aligned, ap (λ x. c * x) double) in
    let low_within : AreWithin first k (filter (low_half first k) es) = lower-within first k c es aligned within parts in
    let low_paints : Paints view f (filter (low_half first k) es) first k = lower_paints view f es first k paints in
    let high_within : AreWithin (first + 2 ^ k) k (filter (high_half first k) es) = upper-within first k es within in
    let high_paints : Paints view f (filter (high_half first k) es) (first + 2 ^ k) k = upper_paints view f es first k c aligned within parts paints in
    ⊎_elim
    (λ low.
    let m : Perm = f (last_of first k) in
    let n' : Perm = f ((first + 2 ^ k) * 4096) in
    let here : edge + (last_of first k - edge) ≡ last_of first k = omega (arith, low, some) in
    let lo : begins lower m ≤ length (filter (low_half first k) es) + changes f edge (last_of first k - edge) =
    begins_le view lower k first (2 * c) f (filter (low_half first k) es) edge (last_of first k - edge) lower_aligned means.0 low_within low_paints
    (hides_lower first k edge es hidden low) none here in
    let hi : through upper n' (f (last_of (first + 2 ^ k) k)) ≤ length (filter (high_half first k) es) + changes f ((first + 2 ^ k) * 4096) (inner k) =
    through_le view upper k (first + 2 ^ k) (2 * c + 1) f (filter (high_half first k) es) upper_aligned means.1 high_within high_paints in
    let top : through upper n' (f (last_of (first + 2 ^ k) k)) ≡ through upper n' q = ap (λ x. through upper n' (f x)) (last_same first k) in
    let all : changes f edge n ≡ changes f edge (last_of first k - edge) + (change m n' + changes f ((first + 2 ^ k) * 4096) (inner k)) =
    over_middle f first k edge (last_of first k - edge) n here count in
    let at_middle : past_middle (begins lower) n' ≤ begins lower m + change m n' = least_le (λ m. begins lower m + change m n') m in
    let at_all : least_of (λ n. past_middle (begins lower) n + through upper n q) ≤ past_middle (begins lower) n' + through upper n' q =
    least_le (λ n. past_middle (begins lower) n + through upper n q) n' in
    omega (arith, lo, hi, top, all, both, at_middle, at_all))
    (λ high.
    let lo : cost lower NoAccess ≤ length (filter (low_half first k) es) =
    constant_le view lower k first (2 * c) NoAccess (filter (low_half first k) es) lower_aligned means.0 low_within (bare low_paints high) in
    let hi : begins upper (f (last_of (first + 2 ^ k) k)) ≤ length (filter (high_half first k) es) + changes f edge n =
    begins_le view upper k (first + 2 ^ k) (2 * c + 1) f (filter (high_half first k) es) edge n upper_aligned means.1 high_within high_paints
    (hides_upper first k c edge es aligned within parts hidden high) none (count ∙ sym (last_same first k)) in
    let top : begins upper (f (last_of (first + 2 ^ k) k)) ≡ begins upper q = ap (λ x. begins upper (f x)) (last_same first k) in
    omega (arith, lo, hi, top, both))
    (cases_lt edge ((first + 2 ^ k) * 4096)))
    (λ whole.
    let cover : covered lower upper ≤ length es = covered_le view lower upper k first c f es aligned means within paints whole in
    omega (arith, cover))
    (covered_or_parts (suc k) es)
  where
    bare : Paints view f (filter (low_half first k) es) first k → (first + 2 ^ k) * 4096 ≤ edge → Serves view NoAccess (filter (low_half first k) es) first k
    bare paints high i inside =
        ap (λ p. perm_at p (filter (low_half first k) es) ((first + i) * 4096)) (sym (none ((first + i) * 4096) (omega (arith, high, inside))))
        ∙ at_page view f (filter (low_half first k) es) first k (first + i) paints (omega arith) (omega (arith, inside))
