-- The least key has the least cost, and a choice that attains it.
use Rattle.std.proofs.Common.{◌≡◌, ℕ, ◌+◌, ◌*◌, ◌/◌, ◌%◌, ◌<◌, ◌≤◌, inl, inr, ⊎_elim, min, Bool, true, false, refl, sym, ap, ◌∙◌, arith}
use Rattle.std.proofs.lemmas.Bool.{cases_lt}
use Rattle.pmp_encoding.specs.declared.perm.Perm.{Perm}
use Rattle.pmp_encoding.specs.declared.perm.Perm.TheVariants.{NoAccess, Read, ReadWrite, Execute, ReadExecute, ReadWriteExecute}
use Rattle.pmp_encoding.specs.Perms.{index_of, perm_eq}
use Rattle.prefix_tree.specs.Coding.{perm_of}
use Rattle.prefix_tree.specs.Trees.{PermTree, Split}
use Rattle.entry_planner.specs.Costs.{least_of, cost}
use Rattle.entry_planner.proofs.CostLemmas.{least_le, least_is}
use Rattle.entry_planner.proofs.SamePerm.{perm_eq-true}
use Rattle.chain_planner.specs.ChainCosts.{change, covered, past_middle, through, begins}
use Rattle.chain_planner.specs.Choices.{below_of, above_of, AttainsThrough, AttainsBegins, AttainsOwn}
use Rattle.chain_planner.specs.Keys.{middle_key, pass_key, through_key, begins_key, own_key, cover_key}
use Rattle.chain_planner.proofs.Changes.{change_same}

pub index_small : (p : Perm) → index_of p < 6
index_small NoAccess = omega arith
index_small Read = omega arith
index_small ReadWrite = omega arith
index_small Execute = omega arith
index_small ReadExecute = omega arith
index_small ReadWriteExecute = omega arith

pub perm_of_index : (p : Perm) → perm_of (index_of p) ≡ p
perm_of_index NoAccess = refl
perm_of_index Read = refl
perm_of_index ReadWrite = refl
perm_of_index Execute = refl
perm_of_index ReadExecute = refl
perm_of_index ReadWriteExecute = refl

pub least_same : (f g : Perm → ℕ) → ((p : Perm) → f p ≡ g p) → least_of f ≡ least_of g
least_same f g same =
    let a = least_is f in
    let b = least_is g in
    omega (arith, a.1, b.1, same a.0, same b.0, least_le f b.0, least_le g a.0)

-- ---- a change at the middle

pub record Middle (low : Perm → ℕ) (n : Perm) : Type 0 where
  pub below : Perm
  pub key : middle_key low n ≡ 8 * (low below + change below n) + index_of below
  pub least : low below + change below n ≡ past_middle low n

pub middle_is : (low : Perm → ℕ) (n : Perm) → Middle low n
middle_is low n =
    ⊎_elim (λ other. made r.0 (other_key other)) (λ same. made n (omega (arith, same, change_same n)))
    (cases_lt (least_of (λ m. 8 * low m + (8 + index_of m))) (8 * low n + index_of n))
  where
    r : (m : Perm) × (8 * low m + (8 + index_of m) ≡ least_of (λ m. 8 * low m + (8 + index_of m)))
    r = least_is (λ m. 8 * low m + (8 + index_of m))

    s : (m : Perm) × (low m + change m n ≡ past_middle low n)
    s = least_is (λ m. low m + change m n)

    other_key : least_of (λ m. 8 * low m + (8 + index_of m)) < 8 * low n + index_of n → middle_key low n ≡ 8 * (low r.0 + change r.0 n) + index_of r.0
    other_key less = go (perm_eq r.0 n) refl
      where
        go : (t : Bool) → perm_eq r.0 n ≡ t → middle_key low n ≡ 8 * (low r.0 + change r.0 n) + index_of r.0
        go true is =
            let same : r.0 ≡ n = perm_eq-true r.0 n is in
            let numbers : 8 * low r.0 + index_of r.0 ≡ 8 * low n + index_of n = ap (λ m. 8 * low m + index_of m) same in
            absurd (omega (arith, numbers, r.1, less))
        go false is = let one : change r.0 n ≡ 1 = rw is refl in omega (arith, one, less, r.1)

    most : middle_key low n ≤ 8 * (low s.0 + change s.0 n) + index_of s.0
    most = go (perm_eq s.0 n) refl
      where
        go : (t : Bool) → perm_eq s.0 n ≡ t → middle_key low n ≤ 8 * (low s.0 + change s.0 n) + index_of s.0
        go true is =
            let same : s.0 ≡ n = perm_eq-true s.0 n is in
            let numbers : 8 * low s.0 + index_of s.0 ≡ 8 * low n + index_of n = ap (λ m. 8 * low m + index_of m) same in
            omega (arith, numbers)
        go false is =
            let one : change s.0 n ≡ 1 = rw is refl in
            omega (arith, one, least_le (λ m. 8 * low m + (8 + index_of m)) s.0)

    made : (m : Perm) → middle_key low n ≡ 8 * (low m + change m n) + index_of m → Middle low n
    made m key = record {
      below = m;
      key = key;
      least = omega (arith, key, most, s.1, index_small m, index_small s.0, least_le (λ m. low m + change m n) m);
    }

-- ---- the two halves

pub record Pass (low : Perm → ℕ) (upper : Perm → Perm → ℕ) (q : Perm) : Type 0 where
  pub below : Perm
  pub above : Perm
  pub value : ℕ
  pub key : pass_key (middle_key low) upper q ≡ 64 * value + (8 * index_of below + index_of above)
  pub attains : low below + change below above + upper above q ≡ value
  pub least : value ≡ least_of (λ n. past_middle low n + upper n q)

pub pass_is : (low : Perm → ℕ) (upper : Perm → Perm → ℕ) (q : Perm) → Pass low upper q
pass_is low upper q =
    let r = least_is (λ n. 8 * middle_key low n + (64 * upper n q + index_of n)) in
    let t = least_is (λ n. past_middle low n + upper n q) in
    let here : Middle low r.0 = middle_is low r.0 in
    let there : Middle low t.0 = middle_is low t.0 in
    let most : pass_key (middle_key low) upper q ≤ 8 * middle_key low t.0 + (64 * upper t.0 q + index_of t.0) =
    least_le (λ n. 8 * middle_key low n + (64 * upper n q + index_of n)) t.0 in
    let key : pass_key (middle_key low) upper q ≡ 64 * (past_middle low r.0 + upper r.0 q) + (8 * index_of here.below + index_of r.0) =
    omega (arith, r.1, here.key, here.least) in
    record {
      below = here.below;
      above = r.0;
      value = past_middle low r.0 + upper r.0 q;
      key = key;
      attains = omega (arith, here.least);
      least =
          omega (
            arith,
            key,
            most,
            there.key,
            there.least,
            t.1,
            index_small there.below,
            index_small t.0,
            least_le (λ n. past_middle low n + upper n q) r.0,
          );
    }

-- the two permissions of a choice below 48
places : (m n : Perm) (key value : ℕ) → key ≡ 64 * value + (8 * index_of m + index_of n)
    → (key / 64 ≡ value) × ((key % 64 < 48) × ((below_of (key % 64) ≡ m) × (above_of (key % 64) ≡ n)))
places m n key value is =
    let below : key % 64 / 8 ≡ index_of m = omega (arith, is, index_small m, index_small n) in
    let above : key % 64 % 8 ≡ index_of n = omega (arith, is, index_small m, index_small n) in (
      omega (arith, is, index_small m, index_small n),
      (
        omega (arith, is, index_small m, index_small n),
        (ap perm_of below ∙ perm_of_index m, ap perm_of above ∙ perm_of_index n),
      ),
    )

-- ---- a chain that passes

pub through_attains :
    (low : Perm → ℕ) (high : Perm → Perm → ℕ) (lower upper : PermTree) (cover : ℕ) (p q : Perm) → ((m : Perm) → low m ≡ through lower p m)
    → ((n : Perm) → high n q ≡ through upper n q) → cover ≡ covered lower upper
    → (through_key low high cover p q / 64 ≡ through (Split lower upper) p q) × AttainsThrough lower upper p q (through_key low high cover p q % 64)
through_attains low high lower upper cover p q lows highs covers =
    let key : ℕ = through_key low high cover p q in
    ⊎_elim
    (λ pass.
    let is : through_key low high cover p q ≡ 64 * parts.value + (8 * index_of parts.below + index_of parts.above) = omega (arith, pass, parts.key) in
    let found = places parts.below parts.above (through_key low high cover p q) parts.value is in
    let total : through (Split lower upper) p q ≡ parts.value =
    omega (arith, same, parts.least, covers, pass, parts.key, index_small parts.below, index_small parts.above) in
    let sum : through lower p parts.below + change parts.below parts.above + through upper parts.above q ≡ parts.value =
    omega (arith, parts.attains, lows parts.below, highs parts.above) in
    (found.0 ∙ sym total, inl (found.1.0, rw (found.1.1.0, found.1.1.1) (total ∙ sym sum))))
    (λ over.
    let is : through_key low high cover p q ≡ 64 * (cover + change p q) + 48 = omega (arith, over) in
    let total : through (Split lower upper) p q ≡ cover + change p q =
    omega (arith, same, parts.least, covers, over, parts.key, index_small parts.below, index_small parts.above) in
    (omega (arith, is, total), inr (omega (arith, is), omega (arith, total, covers))))
    (cases_lt (pass_key (middle_key low) high q) (64 * (cover + change p q) + 48))
  where
    parts : Pass low high q
    parts = pass_is low high q

    same : least_of (λ n. past_middle low n + high n q) ≡ least_of (λ n. past_middle (through lower p) n + through upper n q)
    same =
        least_same (λ n. past_middle low n + high n q) (λ n. past_middle (through lower p) n + through upper n q)
        (λ n.
        (let a : past_middle low n ≡ past_middle (through lower p) n =
        least_same (λ m. low m + change m n) (λ m. through lower p m + change m n) (λ m. omega (arith, lows m)) in
        omega (arith, a, highs n)))

-- ---- a chain that begins

pub begins_attains :
    (low : Perm → ℕ) (high : Perm → Perm → ℕ) (lower upper : PermTree) (cover later : ℕ) (q : Perm) → ((m : Perm) → low m ≡ begins lower m)
    → ((n : Perm) → high n q ≡ through upper n q) → cover ≡ covered lower upper → later ≡ cost lower NoAccess + begins upper q
    → (begins_key low high cover later q / 64 ≡ begins (Split lower upper) q) × AttainsBegins lower upper q (begins_key low high cover later q % 64)
begins_attains low high lower upper cover later q lows highs covers latest =
    ⊎_elim
    (λ pass.
    let is : begins_key low high cover later q ≡ 64 * parts.value + (8 * index_of parts.below + index_of parts.above) = omega (arith, pass, parts.key) in
    let found = places parts.below parts.above (begins_key low high cover later q) parts.value is in
    let total : begins (Split lower upper) q ≡ parts.value =
    omega (arith, same, parts.least, covers, latest, pass, parts.key, index_small parts.below, index_small parts.above) in
    let sum : begins lower parts.below + change parts.below parts.above + through upper parts.above q ≡ parts.value =
    omega (arith, parts.attains, lows parts.below, highs parts.above) in
    (found.0 ∙ sym total, inl (found.1.0, rw (found.1.1.0, found.1.1.1) (total ∙ sym sum))))
    (λ rest.
    ⊎_elim
    (λ late.
    let is : begins_key low high cover later q ≡ 64 * later + 49 = omega (arith, rest, late) in
    let total : begins (Split lower upper) q ≡ later =
    omega (arith, same, parts.least, covers, latest, rest, late, parts.key, index_small parts.below, index_small parts.above) in
    (omega (arith, is, total), inr (inr (omega (arith, is), omega (arith, total, latest)))))
    (λ over.
    let is : begins_key low high cover later q ≡ 64 * cover + 48 = omega (arith, rest, over) in
    let total : begins (Split lower upper) q ≡ cover =
    omega (arith, same, parts.least, covers, latest, rest, over, parts.key, index_small parts.below, index_small parts.above) in
    (omega (arith, is, total), inr (inl (omega (arith, is), omega (arith, total, covers)))))
    (cases_lt (64 * later + 49) (64 * cover + 48)))
    (cases_lt (pass_key (middle_key low) high q) (min (64 * later + 49) (64 * cover + 48)))
  where
    parts : Pass low high q
    parts = pass_is low high q

    same : least_of (λ n. past_middle low n + high n q) ≡ least_of (λ n. past_middle (begins lower) n + through upper n q)
    same =
        least_same (λ n. past_middle low n + high n q) (λ n. past_middle (begins lower) n + through upper n q)
        (λ n.
        (let a : past_middle low n ≡ past_middle (begins lower) n =
        least_same (λ m. low m + change m n) (λ m. begins lower m + change m n) (λ m. omega (arith, lows m)) in
        omega (arith, a, highs n)))

-- ---- keys of the same numbers

pub pass_same : (f g : Perm → ℕ) (upper : Perm → Perm → ℕ) (q : Perm) → ((n : Perm) → f n ≡ g n) → pass_key f upper q ≡ pass_key g upper q
pass_same f g upper q same =
    least_same (λ n. 8 * f n + (64 * upper n q + index_of n)) (λ n. 8 * g n + (64 * upper n q + index_of n)) (λ n. omega (arith, same n))

-- ---- an entry of the block, and no chain

pub cover_attains :
    (base : Perm → ℕ) (best : ℕ) (lower upper : PermTree) → ((p : Perm) → base p ≡ cost lower p + cost upper p) → best ≡ cover_key base
    → (1 + best / 8 ≡ covered lower upper) × (1 + (cost lower (perm_of (best % 8)) + cost upper (perm_of (best % 8))) ≡ covered lower upper)
cover_attains base best lower upper sums is =
    let r = least_is (λ r. 8 * base r + index_of r) in
    let t = least_is (λ r. cost lower r + cost upper r) in
    let most : cover_key base ≤ 8 * base t.0 + index_of t.0 = least_le (λ r. 8 * base r + index_of r) t.0 in
    let number : best / 8 ≡ base r.0 = omega (arith, is, r.1, index_small r.0) in
    let place : best % 8 ≡ index_of r.0 = omega (arith, is, r.1, index_small r.0) in
    let perm : perm_of (best % 8) ≡ r.0 = ap perm_of place ∙ perm_of_index r.0 in
    let least : 1 + (cost lower r.0 + cost upper r.0) ≡ covered lower upper =
    omega (
      arith,
      is,
      r.1,
      t.1,
      most,
      sums r.0,
      sums t.0,
      index_small r.0,
      index_small t.0,
      least_le (λ r. cost lower r + cost upper r) r.0,
    ) in
    (omega (arith, number, least, sums r.0), rw perm least)

pub own_attains :
    (base : Perm → ℕ) (cover : ℕ) (lower upper : PermTree) (p : Perm) → base p ≡ cost lower p + cost upper p → cover ≡ covered lower upper
    → (own_key base cover p / 64 ≡ cost (Split lower upper) p) × AttainsOwn lower upper p (own_key base cover p % 64)
own_attains base cover lower upper p sum covers =
    ⊎_elim
    (λ pass.
    let is : own_key base cover p ≡ 64 * base p = omega (arith, pass) in
    let total : cost (Split lower upper) p ≡ cost lower p + cost upper p = omega (arith, pass, sum, covers) in
    (omega (arith, is, total, sum), inl (omega (arith, is), total)))
    (λ over.
    let is : own_key base cover p ≡ 64 * cover + 1 = omega (arith, over) in
    let total : cost (Split lower upper) p ≡ covered lower upper = omega (arith, over, sum, covers) in
    (omega (arith, is, total, covers), inr (omega (arith, is), total)))
    (cases_lt (64 * base p) (64 * cover + 1))
