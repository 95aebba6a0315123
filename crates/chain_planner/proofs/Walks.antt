-- The entries and changes that a walk adds in a block, from those that it adds in the halves.
use Rattle.std.proofs.Common.{◌≡◌, ℕ, zero, suc, ◌+◌, ◌-◌, ◌/◌, ◌%◌, ◌^◌, ◌<◌, ◌≤◌, ◌&&◌, true, false, inl, inr, ⊎_elim, List, [], ◌∷◌, ◌++◌, refl, sym, ap, ap₂, subst, ◌∙◌, arith}
use Rattle.std.proofs.lemmas.Bool.{and_parts}
use Rattle.std.proofs.lemmas.List.{append_assoc, append-nil}
use Rattle.pmp_encoding.specs.declared.perm.Perm.{Perm}
use Rattle.pmp_encoding.specs.declared.perm.Perm.TheVariants.{NoAccess}
use Rattle.pmp_encoding.specs.declared.region.Entry.{Entry}
use Rattle.pmp_encoding.specs.Perms.{perm_eq}
use Rattle.prefix_tree.specs.Trees.{PermTree, Uniform, Split, Fits}
use Rattle.prefix_tree.specs.Coding.{perm_of}
use Rattle.prefix_tree.specs.Counts.{last_perm}
use Rattle.entry_planner.specs.Costs.{cost}
use Rattle.entry_planner.specs.Placement.{IsBlockOf}
use Rattle.entry_planner.proofs.Placements.{IsPlacedAt}
use Rattle.entry_planner.proofs.SamePerm.{perm_eq-true}
use Rattle.chain_planner.specs.declared.turns.Turn.{Turn}
use Rattle.chain_planner.specs.ChainCosts.{change, covered, through, begins}
use Rattle.chain_planner.specs.Placed.{IsPassed, follows, covers, halves, covers_halves, under, under_halves, in_lower, in_upper}
use Rattle.chain_planner.specs.Choices.{AttainsOwn, AttainsThrough, AttainsBegins, below_of, above_of}
use Rattle.chain_planner.specs.Placed.{AddsPlaced, AddsHalves, AddsBlock, AddsPassed, AddsBegun}
use Rattle.chain_planner.specs.Turns.{turn_to, turns_in}

-- the halves of the block of k and `first`
pub record AreHalves (k first j low i high : ℕ) : Type 0 where
  pub lower : j + 1 ≡ k
  pub lower_first : low ≡ first
  pub upper : i + 1 ≡ k
  pub upper_first : high ≡ first + 2 ^ (k - 1)

at_halves : (P : ℕ → ℕ → ℕ → ℕ → ℕ → Type 0) (k first j low i high : ℕ) → AreHalves k first j low i high
    → P (suc j) j first j (first + 2 ^ j)
    → P k j low i high
at_halves P k first j low i high h p =
    let up : suc j ≡ k = omega (arith, h.lower) in
    let same : j ≡ i = omega (arith, h.lower, h.upper) in
    let less : k - 1 ≡ j = omega (arith, h.lower) in
    let above : first + 2 ^ j ≡ high = sym (h.upper_first ∙ ap (λ n. first + 2 ^ n) less) in
    subst (λ n. P k j low i n) above
    (subst (λ n. P k j low n (first + 2 ^ j)) same
    (subst (λ n. P k j n j (first + 2 ^ j)) (sym h.lower_first) (subst (λ n. P n j first j (first + 2 ^ j)) up p)))

-- ---- without a chain

pub own_leaf : (k first : ℕ) (p v : Perm) (old : List Entry) → perm_eq v p ≡ true → AddsPlaced k first p (Uniform v) old old
own_leaf k first p v old same = ([], (inl (perm_eq-true v p same, refl), rw same refl), sym (append-nil old))

pub own_entry : (k first : ℕ) (p v : Perm) (e : Entry) (old new : List Entry) → perm_eq v p ≡ false → IsBlockOf k first v e → new ≡ old ++ e ∷ []
    → AddsPlaced k first p (Uniform v) old new
own_entry k first p v e old new other block is = (e ∷ [], (inr (e, block, refl), rw other refl), is)

pub own_pass :
    (tree lower upper : PermTree) (k first j low i high : ℕ) (p : Perm) (old middle new : List Entry) → tree ≡ Split lower upper
    → AreHalves k first j low i high
    → cost (Split lower upper) p ≡ cost lower p + cost upper p
    → AddsPlaced j low p lower old middle → AddsPlaced i high p upper middle new
    → AddsPlaced k first p tree old new
own_pass tree lower upper k first j low i high p old middle new is at least =
    at_halves (λ k j low i high. AddsPlaced j low p lower old middle → AddsPlaced i high p upper middle new → AddsPlaced k first p tree old new) k first j low i
    high at
    (λ a b.
    let all : new ≡ old ++ (a.0 ++ (b.0 ++ [])) =
    b.2 ∙ ap (λ es. es ++ b.0) a.2 ∙ append_assoc old a.0 b.0 ∙ ap (λ es. old ++ (a.0 ++ es)) (sym (append-nil b.0)) in
    subst (λ t. AddsPlaced (suc j) first p t old new) (sym is)
    (a.0 ++ (b.0 ++ []), (p, a.0, b.0, [], refl, inl (refl, refl), omega (arith, least), a.1, b.1), all))

pub own_cover :
    (tree lower upper : PermTree) (k first j low i high : ℕ) (p r : Perm) (e : Entry) (old middle last new : List Entry) → tree ≡ Split lower upper
    → AreHalves k first j low i high
    → cost (Split lower upper) p ≡ covered lower upper → 1 + (cost lower r + cost upper r) ≡ covered lower upper → IsBlockOf k first r e
    → new ≡ last ++ e ∷ []
    → AddsPlaced j low r lower old middle → AddsPlaced i high r upper middle last
    → AddsPlaced k first p tree old new
own_cover tree lower upper k first j low i high p r e old middle last new is at least best block added =
    let go = at_halves
    (λ k j low i high.
    IsBlockOf k first r e → AddsPlaced j low r lower old middle → AddsPlaced i high r upper middle last
    → AddsPlaced k first p tree old new) k first j low i high
    at
    (λ block a b.
    let all : new ≡ old ++ (a.0 ++ (b.0 ++ e ∷ [])) =
    added
    ∙ ap (λ es. es ++ e ∷ []) (b.2 ∙ ap (λ es. es ++ b.0) a.2)
    ∙ append_assoc (old ++ a.0) b.0 (e ∷ [])
    ∙ append_assoc old a.0 (b.0 ++ e ∷ []) in
    subst (λ t. AddsPlaced (suc j) first p t old new) (sym is)
    (a.0 ++ (b.0 ++ e ∷ []), (r, a.0, b.0, e ∷ [], refl, inr (e, block, refl), omega (arith, least, best), a.1, b.1), all)) in
    go block

pub both_halves :
    (lower upper : PermTree) (k first j low i high : ℕ) (p : Perm) (old middle new : List Entry) → AreHalves k first j low i high
    → AddsPlaced j low p lower old middle → AddsPlaced i high p upper middle new
    → AddsHalves k first p lower upper old new
both_halves lower upper k first j low i high p old middle new at =
    at_halves
    (λ k j low i high. AddsPlaced j low p lower old middle → AddsPlaced i high p upper middle new → AddsHalves k first p lower upper old new) k first j
    low i high at
    (λ a b.
    let all : new ≡ old ++ (a.0 ++ b.0) = b.2 ∙ ap (λ es. es ++ b.0) a.2 ∙ append_assoc old a.0 b.0 in
    let size : j ≡ suc j - 1 = omega arith in
    (a.0, b.0, subst (λ n. IsPlacedAt n first p lower a.0) size a.1, subst (λ n. IsPlacedAt n (first + 2 ^ n) p upper b.0) size b.1, all))

-- ---- with a chain that passes

pub passed_leaf : (k first : ℕ) (p q v : Perm) (old : List Entry) (turns : List Turn) → (perm_eq p v && perm_eq v q) ≡ true
    → AddsPassed k first p q (Uniform v) old old turns turns
passed_leaf k first p q v old turns same =
    let both = and_parts _ _ same in
    let from : v ≡ p = sym (perm_eq-true p v both.0) in
    let to : v ≡ q = perm_eq-true v q both.1 in (
      [],
      [],
      subst (λ x. IsPassed k first p x (Uniform v) [] []) to (subst (λ x. IsPassed k first x v (Uniform v) [] []) from follows),
      sym (append-nil old),
      sym (append-nil turns),
    )

pub passed_cover_leaf :
    (k first : ℕ) (p q v : Perm) (old new : List Entry) (turns more : List Turn) → (perm_eq p v && perm_eq v q) ≡ false
    → AddsBlock k first v old new → more ≡ turns ++ turn_to first p q
    → AddsPassed k first p q (Uniform v) old new turns more
passed_cover_leaf k first p q v old new turns more other block added =
    (block.0 ∷ [], turn_to first p q, covers block.1 (rw other refl), block.2, added)

pub passed_halves :
    (tree lower upper : PermTree) (k first j low i high : ℕ) (p m n q : Perm) (old middle new : List Entry) (turns more turned last : List Turn)
    → tree ≡ Split lower upper → AreHalves k first j low i high
    → through (Split lower upper) p q ≡ through lower p m + change m n + through upper n q
    → AddsPassed j low p m lower old middle turns more → turned ≡ more ++ turn_to high m n → AddsPassed i high n q upper middle new turned last
    → AddsPassed k first p q tree old new turns last
passed_halves tree lower upper k first j low i high p m n q old middle new turns more turned last is at least x change y =
    at_halves
    (λ k j low i high.
    AddsPassed j low p m lower old middle turns more → turned ≡ more ++ turn_to high m n → AddsPassed i high n q upper middle new turned last
    → AddsPassed k first p q tree old new turns last)
    k first j low i high at
    (λ a turn b.
    let all : new ≡ old ++ (a.0 ++ b.0) = b.3 ∙ ap (λ es. es ++ b.0) a.3 ∙ append_assoc old a.0 b.0 in
    let t : List Turn = turn_to (first + 2 ^ j) m n in
    let every : last ≡ turns ++ (a.1 ++ (turn_to (first + 2 ^ j) m n ++ b.1)) =
    b.4
    ∙ ap (λ ts. ts ++ b.1) (turn ∙ ap (λ ts. ts ++ turn_to (first + 2 ^ j) m n) a.4)
    ∙ append_assoc (turns ++ a.1) (turn_to (first + 2 ^ j) m n) b.1
    ∙ append_assoc turns a.1 (turn_to (first + 2 ^ j) m n ++ b.1) in
    subst (λ t. AddsPassed (suc j) first p q t old new turns last) (sym is)
    (a.0 ++ b.0, a.1 ++ (turn_to (first + 2 ^ j) m n ++ b.1), halves a.2 b.2 least, all, every))
    x change y

pub passed_cover :
    (tree lower upper : PermTree) (k first : ℕ) (p q r : Perm) (old middle new : List Entry) (turns more : List Turn) → tree ≡ Split lower upper → 0 < k
    → through (Split lower upper) p q ≡ covered lower upper + change p q → 1 + (cost lower r + cost upper r) ≡ covered lower upper
    → AddsHalves k first r lower upper old middle → AddsBlock k first r middle new → more ≡ turns ++ turn_to first p q
    → AddsPassed k first p q tree old new turns more
passed_cover tree lower upper zero first p q r old middle new turns more is some least best a b turn = absurd (omega (arith, some))
passed_cover tree lower upper (suc j) first p q r old middle new turns more is some least best a b turn =
    let size : suc j - 1 ≡ j = omega arith in
    let lows : IsPlacedAt j first r lower a.0 = subst (λ n. IsPlacedAt n first r lower a.0) size a.2 in
    let highs : IsPlacedAt j (first + 2 ^ j) r upper a.1 = subst (λ n. IsPlacedAt n (first + 2 ^ n) r upper a.1) size a.3 in
    let all : new ≡ old ++ (a.0 ++ (a.1 ++ b.0 ∷ [])) =
    b.2 ∙ ap (λ es. es ++ b.0 ∷ []) a.4 ∙ append_assoc old (a.0 ++ a.1) (b.0 ∷ []) ∙ ap (λ es. old ++ es) (append_assoc a.0 a.1 (b.0 ∷ [])) in
    subst (λ t. AddsPassed (suc j) first p q t old new turns more) (sym is) (
      a.0 ++ (a.1 ++ b.0 ∷ []),
      turn_to first p q,
      covers_halves a.0 a.1 b.0 (record { perm = r; block = b.1; lows = lows; highs = highs; least = best }) least,
      all,
      turn,
    )

-- ---- with a chain that begins

pub begun_leaf : (k first : ℕ) (q v : Perm) (e : Entry) (old : List Entry) (turns : List Turn) → IsBlockOf k first v e
    → AddsBegun k first q (Uniform v) e q old old turns turns
begun_leaf k first q v e old turns block = ([], [], under block, sym (append-nil old), sym (append-nil turns))

pub begun_lower :
    (tree lower upper : PermTree) (k first j low i high : ℕ) (b m n q : Perm) (e : Entry) (old middle new : List Entry) (turns more turned last : List Turn)
    → tree ≡ Split lower upper → AreHalves k first j low i high
    → begins (Split lower upper) q ≡ begins lower m + change m n + through upper n q
    → AddsBegun j low m lower e b old middle turns more → turned ≡ more ++ turn_to high m n → AddsPassed i high n q upper middle new turned last
    → AddsBegun k first q tree e b old new turns last
begun_lower tree lower upper k first j low i high b m n q e old middle new turns more turned last is at least x change y =
    at_halves
    (λ k j low i high.
    AddsBegun j low m lower e b old middle turns more → turned ≡ more ++ turn_to high m n → AddsPassed i high n q upper middle new turned last
    → AddsBegun k first q tree e b old new turns last)
    k first j low i high at
    (λ a turn c.
    let all : new ≡ old ++ (a.0 ++ c.0) = c.3 ∙ ap (λ es. es ++ c.0) a.3 ∙ append_assoc old a.0 c.0 in
    let every : last ≡ turns ++ (a.1 ++ (turn_to (first + 2 ^ j) m n ++ c.1)) =
    c.4
    ∙ ap (λ ts. ts ++ c.1) (turn ∙ ap (λ ts. ts ++ turn_to (first + 2 ^ j) m n) a.4)
    ∙ append_assoc (turns ++ a.1) (turn_to (first + 2 ^ j) m n) c.1
    ∙ append_assoc turns a.1 (turn_to (first + 2 ^ j) m n ++ c.1) in
    subst (λ t. AddsBegun (suc j) first q t e b old new turns last) (sym is)
    (a.0 ++ c.0, a.1 ++ (turn_to (first + 2 ^ j) m n ++ c.1), in_lower a.2 c.2 least, all, every))
    x change y

pub begun_cover :
    (tree lower upper : PermTree) (k first : ℕ) (q r : Perm) (e : Entry) (old new : List Entry) (turns : List Turn) → tree ≡ Split lower upper → 0 < k
    → begins (Split lower upper) q ≡ covered lower upper → 1 + (cost lower r + cost upper r) ≡ covered lower upper
    → AddsHalves k first r lower upper old new → IsBlockOf k first r e
    → AddsBegun k first q tree e q old new turns turns
begun_cover tree lower upper zero first q r e old new turns is some least best a block = absurd (omega (arith, some))
begun_cover tree lower upper (suc j) first q r e old new turns is some least best a block =
    let size : suc j - 1 ≡ j = omega arith in
    let lows : IsPlacedAt j first r lower a.0 = subst (λ n. IsPlacedAt n first r lower a.0) size a.2 in
    let highs : IsPlacedAt j (first + 2 ^ j) r upper a.1 = subst (λ n. IsPlacedAt n (first + 2 ^ n) r upper a.1) size a.3 in
    subst (λ t. AddsBegun (suc j) first q t e q old new turns turns) (sym is) (
      a.0 ++ a.1,
      [],
      under_halves a.0 a.1 (record { perm = r; block = block; lows = lows; highs = highs; least = best }) least,
      a.4,
      sym (append-nil turns),
    )

pub begun_upper :
    (tree lower upper : PermTree) (k first j low i high : ℕ) (b q : Perm) (e : Entry) (old middle new : List Entry) (turns last : List Turn)
    → tree ≡ Split lower upper → AreHalves k first j low i high
    → begins (Split lower upper) q ≡ cost lower NoAccess + begins upper q
    → AddsPlaced j low NoAccess lower old middle → AddsBegun i high q upper e b middle new turns last
    → AddsBegun k first q tree e b old new turns last
begun_upper tree lower upper k first j low i high b q e old middle new turns last is at least x y =
    at_halves
    (λ k j low i high.
    AddsPlaced j low NoAccess lower old middle → AddsBegun i high q upper e b middle new turns last → AddsBegun k first q tree e b old new turns last) k first j
    low i high at
    (λ a c.
    let all : new ≡ old ++ (a.0 ++ c.0) = c.3 ∙ ap (λ es. es ++ c.0) a.2 ∙ append_assoc old a.0 c.0 in
    subst (λ t. AddsBegun (suc j) first q t e b old new turns last) (sym is) (a.0 ++ c.0, c.1, in_upper a.0 a.1 c.2 least, all, c.4))
    x y

-- ---- a chain alone

pub alone_halves :
    (tree lower upper : PermTree) (k first j low i high : ℕ) (p middle : Perm) (old more new : List Turn) → tree ≡ Split lower upper
    → AreHalves k first j low i high → middle ≡ last_perm lower
    → more ≡ old ++ turns_in j low p lower → new ≡ more ++ turns_in i high middle upper
    → new ≡ old ++ turns_in k first p tree
alone_halves tree lower upper k first j low i high p middle old more new is at last x y =
    at_halves
    (λ k j low i high. more ≡ old ++ turns_in j low p lower → new ≡ more ++ turns_in i high middle upper → new ≡ old ++ turns_in k first p tree) k first j
    low i high at
    (λ a b.
    b
    ∙ ap₂ (λ ts r. ts ++ turns_in j (first + 2 ^ j) r upper) a last
    ∙ append_assoc old (turns_in j first p lower) (turns_in j (first + 2 ^ j) (last_perm lower) upper)
    ∙ ap (λ t. old ++ turns_in (suc j) first p t) (sym is))
    x y

-- ---- what a choice is

pub own_is_pass : (lower upper : PermTree) (p : Perm) (n m : ℕ) → AttainsOwn lower upper p n → m ≡ n → m ≡ 0
    → cost (Split lower upper) p ≡ cost lower p + cost upper p
own_is_pass lower upper p n m attains same none = ⊎_elim (λ a. a.1) (λ b. absurd (omega (arith, b.0, same, none))) attains

pub own_is_cover : (lower upper : PermTree) (p : Perm) (n m : ℕ) → AttainsOwn lower upper p n → m ≡ n → ¬ (m ≡ 0)
    → cost (Split lower upper) p ≡ covered lower upper
own_is_cover lower upper p n m attains same some = ⊎_elim (λ a. absurd (some (omega (arith, a.0, same)))) (λ b. b.1) attains

abbrev pub PassesBy : PermTree → PermTree → Perm → Perm → Perm → Perm → Type 0
PassesBy lower upper p q m n = through (Split lower upper) p q ≡ through lower p m + change m n + through upper n q

pub through_is_pass : (lower upper : PermTree) (p q m n : Perm) (choice c : ℕ) → AttainsThrough lower upper p q choice → c ≡ choice → c < 48
    → m ≡ perm_of (c / 8) → n ≡ perm_of (c % 8)
    → PassesBy lower upper p q m n
through_is_pass lower upper p q m n choice c attains same low below above =
    ⊎_elim
    (λ a.
    let m_is : below_of choice ≡ m = ap (λ x. perm_of (x / 8)) (sym same) ∙ sym below in
    let n_is : above_of choice ≡ n = ap (λ x. perm_of (x % 8)) (sym same) ∙ sym above in
    subst (λ y. PassesBy lower upper p q m y) n_is (subst (λ x. PassesBy lower upper p q x (above_of choice)) m_is a.1))
    (λ b. absurd (omega (arith, b.0, same, low))) attains

pub through_is_cover : (lower upper : PermTree) (p q : Perm) (choice c : ℕ) → AttainsThrough lower upper p q choice → c ≡ choice → 48 ≤ c
    → through (Split lower upper) p q ≡ covered lower upper + change p q
through_is_cover lower upper p q choice c attains same high = ⊎_elim (λ a. absurd (omega (arith, a.0, same, high))) (λ b. b.1) attains

abbrev pub BeginsBy : PermTree → PermTree → Perm → Perm → Perm → Type 0
BeginsBy lower upper q m n = begins (Split lower upper) q ≡ begins lower m + change m n + through upper n q

pub begins_is_lower : (lower upper : PermTree) (q m n : Perm) (choice c : ℕ) → AttainsBegins lower upper q choice → c ≡ choice → c < 48
    → m ≡ perm_of (c / 8) → n ≡ perm_of (c % 8)
    → BeginsBy lower upper q m n
begins_is_lower lower upper q m n choice c attains same low below above =
    ⊎_elim
    (λ a.
    let m_is : below_of choice ≡ m = ap (λ x. perm_of (x / 8)) (sym same) ∙ sym below in
    let n_is : above_of choice ≡ n = ap (λ x. perm_of (x % 8)) (sym same) ∙ sym above in
    subst (λ y. BeginsBy lower upper q m y) n_is (subst (λ x. BeginsBy lower upper q x (above_of choice)) m_is a.1))
    (λ b. absurd (⊎_elim (λ x. omega (arith, x.0, same, low)) (λ y. omega (arith, y.0, same, low)) b)) attains

pub begins_is_cover : (lower upper : PermTree) (q : Perm) (choice c : ℕ) → AttainsBegins lower upper q choice → c ≡ choice → c ≡ 48
    → begins (Split lower upper) q ≡ covered lower upper
begins_is_cover lower upper q choice c attains same at =
    ⊎_elim (λ a. absurd (omega (arith, a.0, same, at))) (λ b. ⊎_elim (λ x. x.1) (λ y. absurd (omega (arith, y.0, same, at))) b) attains

pub begins_is_upper : (lower upper : PermTree) (q : Perm) (choice c : ℕ) → AttainsBegins lower upper q choice → c ≡ choice → 48 ≤ c → ¬ (c ≡ 48)
    → begins (Split lower upper) q ≡ cost lower NoAccess + begins upper q
begins_is_upper lower upper q choice c attains same high other =
    ⊎_elim (λ a. absurd (omega (arith, a.0, same, high))) (λ b. ⊎_elim (λ x. absurd (other (omega (arith, x.0, same)))) (λ y. y.1) b) attains

-- a split block is larger than a page
pub split_some : (k : ℕ) (tree lower upper : PermTree) → tree ≡ Split lower upper → Fits k tree → 0 < k
split_some zero tree lower upper is fits = absurd (subst (λ t. Fits zero t) is fits)
split_some (suc k) tree lower upper is fits = omega arith
