-- The permission that is passed on to the halves of a split block, and that it is the cheapest.
use Rattle.std.proofs.Common.{◌≡◌, ℕ, zero, suc, ◌+◌, ◌^◌, ◌<◌, ◌≤◌, min, List, Bool, true, false, ◌==◌, nat_le, ◌&&◌, ◌||◌, if◌then◌else◌, refl, sym, ap, ◌∙◌}
use Rattle.std.proofs.Common.{arith}
use Rattle.std.proofs.lemmas.Bool.{le-leb, lt-leb, leb-true, leb-false, eq-eqb, ne_eqb, eqb-true, eqb-false}
use Rattle.pmp_encoding.specs.declared.perm.Perm.{Perm}
use Rattle.pmp_encoding.specs.declared.perm.Perm.TheVariants.{NoAccess, Read, ReadWrite, Execute, ReadExecute, ReadWriteExecute}
use Rattle.pmp_encoding.specs.Perms.{index_of, perm_eq}
use Rattle.pmp_encoding.specs.declared.region.Entry.{Entry}
use Rattle.prefix_tree.specs.Trees.{PermTree, Uniform, Split}
use Rattle.entry_planner.specs.declared.costs.SplitCost.{SplitCost}
use Rattle.entry_planner.specs.Best.{is_best, least_cost}
use Rattle.entry_planner.specs.Choice.{first_least, halves_cost, handed_on, IsChosenAt}
use Rattle.entry_planner.specs.Costs.{least_of, cost}
use Rattle.entry_planner.specs.PermSets.{has}
use Rattle.entry_planner.proofs.Placements.{IsCheap, IsPlacedAt}
use Rattle.entry_planner.specs.SplitCosts.{split_cost}
use Rattle.entry_planner.proofs.BestCosts.{cost_is, sum_at, sum_apart}
use Rattle.entry_planner.proofs.CostLemmas.{least_le, least_is}
use Rattle.entry_planner.proofs.SamePerm.{perm_eq-same, perm_eq-false}
use Rattle.entry_planner.proofs.Sets.{has-set_of}

-- ---- the first of the least

abbrev pick : Bool → Bool → Bool → Bool → Bool → Perm
pick a b c d e = if a then NoAccess else (if b then Read else (if c then ReadWrite else (if d then Execute else (if e then ReadExecute else ReadWriteExecute))))

first_least_is : (f : Perm → ℕ) → f (first_least f) ≡ least_of f
first_least_is f = go (f NoAccess == least_of f) (f Read == least_of f) (f ReadWrite == least_of f) (f Execute == least_of f)
    (f ReadExecute == least_of f) refl refl refl refl refl
  where
    go :
        (a b c d e : Bool) → (f NoAccess == least_of f) ≡ a → (f Read == least_of f) ≡ b → (f ReadWrite == least_of f) ≡ c → (f Execute == least_of f) ≡ d
        → (f ReadExecute == least_of f) ≡ e → f (pick a b c d e) ≡ least_of f
    go true b c d e is0 is1 is2 is3 is4 = eqb-true _ _ is0
    go false true c d e is0 is1 is2 is3 is4 = eqb-true _ _ is1
    go false false true d e is0 is1 is2 is3 is4 = eqb-true _ _ is2
    go false false false true e is0 is1 is2 is3 is4 = eqb-true _ _ is3
    go false false false false true is0 is1 is2 is3 is4 = eqb-true _ _ is4
    go false false false false false is0 is1 is2 is3 is4 = (let r = least_is f in last r.0 r.1)
      where
        last : (q : Perm) → f q ≡ least_of f → f ReadWriteExecute ≡ least_of f
        last NoAccess h = absurd (eqb-false _ _ is0 h)
        last Read h = absurd (eqb-false _ _ is1 h)
        last ReadWrite h = absurd (eqb-false _ _ is2 h)
        last Execute h = absurd (eqb-false _ _ is3 h)
        last ReadExecute h = absurd (eqb-false _ _ is4 h)
        last ReadWriteExecute h = h

picked :
    (q : Perm) (t : Perm → Bool) → t q ≡ true → ((r : Perm) → index_of r < index_of q → t r ≡ false)
    → pick (t NoAccess) (t Read) (t ReadWrite) (t Execute) (t ReadExecute) ≡ q
picked NoAccess t is before = ap (λ x. pick x (t Read) (t ReadWrite) (t Execute) (t ReadExecute)) is
picked Read t is before =
    ap (λ x. pick x (t Read) (t ReadWrite) (t Execute) (t ReadExecute)) (before NoAccess (omega arith))
    ∙ ap (λ x. pick false x (t ReadWrite) (t Execute) (t ReadExecute)) is
picked ReadWrite t is before =
    ap (λ x. pick x (t Read) (t ReadWrite) (t Execute) (t ReadExecute)) (before NoAccess (omega arith))
    ∙ ap (λ x. pick false x (t ReadWrite) (t Execute) (t ReadExecute)) (before Read (omega arith))
    ∙ ap (λ x. pick false false x (t Execute) (t ReadExecute)) is
picked Execute t is before =
    ap (λ x. pick x (t Read) (t ReadWrite) (t Execute) (t ReadExecute)) (before NoAccess (omega arith))
    ∙ ap (λ x. pick false x (t ReadWrite) (t Execute) (t ReadExecute)) (before Read (omega arith))
    ∙ ap (λ x. pick false false x (t Execute) (t ReadExecute)) (before ReadWrite (omega arith))
    ∙ ap (λ x. pick false false false x (t ReadExecute)) is
picked ReadExecute t is before =
    ap (λ x. pick x (t Read) (t ReadWrite) (t Execute) (t ReadExecute)) (before NoAccess (omega arith))
    ∙ ap (λ x. pick false x (t ReadWrite) (t Execute) (t ReadExecute)) (before Read (omega arith))
    ∙ ap (λ x. pick false false x (t Execute) (t ReadExecute)) (before ReadWrite (omega arith))
    ∙ ap (λ x. pick false false false x (t ReadExecute)) (before Execute (omega arith))
    ∙ ap (λ x. pick false false false false x) is
picked ReadWriteExecute t is before =
    ap (λ x. pick x (t Read) (t ReadWrite) (t Execute) (t ReadExecute)) (before NoAccess (omega arith))
    ∙ ap (λ x. pick false x (t ReadWrite) (t Execute) (t ReadExecute)) (before Read (omega arith))
    ∙ ap (λ x. pick false false x (t Execute) (t ReadExecute)) (before ReadWrite (omega arith))
    ∙ ap (λ x. pick false false false x (t ReadExecute)) (before Execute (omega arith))
    ∙ ap (λ x. pick false false false false x) (before ReadExecute (omega arith))

first_least-first : (f : Perm → ℕ) (q : Perm) → f q ≡ least_of f → ((r : Perm) → index_of r < index_of q → f r ≡ least_of f → ⊥) → first_least f ≡ q
first_least-first f q is before = picked q (λ r. f r == least_of f) (eq-eqb _ _ is) (λ r h. ne_eqb _ _ (before r h))

-- ---- what is passed on is the cheapest

cheapest :
    (f : Perm → ℕ) (p : Perm) (t : Bool) → nat_le (f p) (1 + least_of f) ≡ t
    → (if perm_eq (if t then p else first_least f) p then 0 else 1) + f (if t then p else first_least f) ≡ min (f p) (1 + least_of f)
cheapest f p true is = kept (if perm_eq p p then 0 else 1) (f p) (least_of f) (ap unless (perm_eq-same p)) (leb-true _ _ is)
  where
    unless : Bool → ℕ
    unless t = if t then 0 else 1

    kept : (i c l : ℕ) → i ≡ 0 → c ≤ 1 + l → i + c ≡ min c (1 + l)
    kept i c l e h = omega arith
cheapest f p false is =
    let dear : 1 + least_of f < f p = leb-false _ _ is in
    let differ : first_least f ≡ p → ⊥ = λ same. below (ap f (sym same) ∙ first_least_is f) dear in
    paid (if perm_eq (first_least f) p then 0 else 1) (f p) (f (first_least f)) (least_of f) (ap unless (perm_eq-false (first_least f) p differ))
    (first_least_is f) dear
  where
    unless : Bool → ℕ
    unless t = if t then 0 else 1

    below : f p ≡ least_of f → 1 + least_of f < f p → ⊥
    below e h = omega arith

    paid : (i c d l : ℕ) → i ≡ 1 → d ≡ l → 1 + l < c → i + d ≡ min c (1 + l)
    paid i c d l e g h = omega arith

pub handed_cheap : (low high : PermTree) (p : Perm) → IsCheap low high p (handed_on low high p)
handed_cheap low high p = cheapest (halves_cost low high) p (nat_le (halves_cost low high p) (1 + least_of (halves_cost low high))) refl

-- so the entries that are chosen are as many as the block costs
pub chosen_placed : (tree : PermTree) (k first : ℕ) (p : Perm) (es : List Entry) → IsChosenAt k first p tree es → IsPlacedAt k first p tree es
chosen_placed (Uniform q) k first p es chosen = chosen
chosen_placed (Split lower upper) zero first p es chosen = absurd chosen
chosen_placed (Split lower upper) (suc k) first p es chosen =
    let q = handed_on lower upper p in (
      q,
      chosen.0,
      chosen.1,
      chosen.2,
      chosen.3,
      chosen.6.0,
      ap (λ n. n + (cost lower q + cost upper q)) chosen.6.1 ∙ handed_cheap lower upper p,
      chosen_placed lower k first q chosen.0 chosen.4,
      chosen_placed upper k (first + 2 ^ k) q chosen.1 chosen.5,
    )

-- ---- as the sets say it

sum_two : (m n c d : ℕ) (x y : Bool) → c ≡ m + (if x then 0 else 1) → d ≡ n + (if y then 0 else 1) → c + d ≤ m + n + 2
sum_two m n c d true true e f = omega arith
sum_two m n c d true false e f = omega arith
sum_two m n c d false true e f = omega arith
sum_two m n c d false false e f = omega arith

sum_some : (m n c d : ℕ) (x y : Bool) → c ≡ m + (if x then 0 else 1) → d ≡ n + (if y then 0 else 1) → (x || y) ≡ true → c + d ≤ m + n + 1
sum_some m n c d true true e f h = omega arith
sum_some m n c d true false e f h = omega arith
sum_some m n c d false true e f h = omega arith
sum_some m n c d false false e f h = cc

sum_none : (m n c d : ℕ) (x y : Bool) → c ≡ m + (if x then 0 else 1) → d ≡ n + (if y then 0 else 1) → (x || y) ≡ false → m + n + 2 ≤ c + d
sum_none m n c d true y e f h = cc
sum_none m n c d false true e f h = cc
sum_none m n c d false false e f h = omega arith

-- the least that the halves cost together: no less than each costs at its best, and more where no permission is best for both
least_together : (low high : PermTree) → least_cost low + least_cost high ≤ least_of (halves_cost low high)
least_together low high =
    let r = least_is (halves_cost low high) in
    omega (arith, r.1, cost_is low r.0, cost_is high r.0)

least_apart : (low high : PermTree) → ((q : Perm) → (is_best low q && is_best high q) ≡ false)
    → least_cost low + least_cost high + 1 ≤ least_of (halves_cost low high)
least_apart low high apart =
    let r = least_is (halves_cost low high) in
    omega (arith, r.1, sum_apart _ _ _ _ _ _ (cost_is low r.0) (cost_is high r.0) (apart r.0))

stays : (low high : PermTree) (p : Perm) → halves_cost low high p ≤ 1 + least_of (halves_cost low high) → handed_on low high p ≡ p
stays low high p h = ap (λ t. if t then p else first_least (halves_cost low high)) (le-leb _ _ h)

both_is : (low high : PermTree) (c : SplitCost) (q : Perm) (t : Bool) → c ≡ split_cost low high → has c.both.bits q ≡ t → (is_best low q && is_best high q) ≡ t
both_is low high c q t are is = sym (has-set_of (λ r. is_best low r && is_best high r) q) ∙ ap (λ h. has h.both.bits q) (sym are) ∙ is

either_is : (low high : PermTree) (c : SplitCost) (q : Perm) (t : Bool) → c ≡ split_cost low high → has c.either.bits q ≡ t
    → (is_best low q || is_best high q) ≡ t
either_is low high c q t are is = sym (has-set_of (λ r. is_best low r || is_best high r) q) ∙ ap (λ h. has h.either.bits q) (sym are) ∙ is

-- the inherited permission is best for a half
pub kept_handed : (low high : PermTree) (c : SplitCost) (p : Perm) → c ≡ split_cost low high → has c.either.bits p ≡ true → p ≡ handed_on low high p
kept_handed low high c p are inside =
    let some : cost low p + cost high p ≤ least_cost low + least_cost high + 1 =
    sum_some _ _ _ _ _ _ (cost_is low p) (cost_is high p) (either_is low high c p true are inside) in
    sym (stays low high p (omega (arith, least_together low high)))

-- no permission is best for both
pub none_handed : (low high : PermTree) (c : SplitCost) (p : Perm) → c ≡ split_cost low high → ((q : Perm) → has c.both.bits q ≡ false)
    → p ≡ handed_on low high p
none_handed low high c p are none =
    let two : cost low p + cost high p ≤ least_cost low + least_cost high + 2 = sum_two _ _ _ _ _ _ (cost_is low p) (cost_is high p) in
    sym (stays low high p (omega (arith, least_apart low high (λ q. both_is low high c q false are (none q)))))

-- the first that is best for both, where the inherited one is best for neither
pub first_handed :
    (low high : PermTree) (c : SplitCost) (p q : Perm) → c ≡ split_cost low high → has c.either.bits p ≡ false → has c.both.bits q ≡ true
    → ((r : Perm) → index_of r < index_of q → has c.both.bits r ≡ false) → q ≡ handed_on low high p
first_handed low high c p q are out inside before =
    let both = both_is low high c q true are inside in
    let sum : cost low q + cost high q ≡ least_cost low + least_cost high = sum_at _ _ _ _ _ _ (cost_is low q) (cost_is high q) both in
    let least : least_of (halves_cost low high) ≡ least_cost low + least_cost high = omega
    (arith, least_together low high, least_le (halves_cost low high) q) in
    let dear : least_cost low + least_cost high + 2 ≤ cost low p + cost high p =
    sum_none _ _ _ _ _ _ (cost_is low p) (cost_is high p) (either_is low high c p false are out) in
    let not_before : (r : Perm) → index_of r < index_of q → halves_cost low high r ≡ least_of (halves_cost low high) → ⊥ =
    λ r h is. (let more = sum_apart _ _ _ _ _ _ (cost_is low r) (cost_is high r) (both_is low high c r false are (before r h)) in omega arith) in
    sym
    (ap (λ t. if t then p else first_least (halves_cost low high)) (lt-leb (halves_cost low high p) (1 + least_of (halves_cost low high)) (omega arith))
    ∙ first_least-first (halves_cost low high) q (sum ∙ sym least) not_before)
