-- The changes of a chain: one stretch after another.
use Rattle.std.proofs.Common.{◌≡◌, ℕ, zero, suc, ◌+◌, ◌-◌, ◌*◌, ◌^◌, ◌<◌, ◌≤◌, ⊎_elim, List, [], ◌∷◌, ◌++◌, Bool, true, false, cond, refl, sym, ap, ◌∙◌, arith, length, nat_lt, pow_pos, pow-suc, if◌then◌else◌}
use Rattle.std.proofs.lemmas.Bool.{cases_lt, lt-ltb, le-ltb}
use Rattle.std.proofs.lemmas.List.{length-append}
use Rattle.pmp_encoding.specs.declared.perm.Perm.{Perm}
use Rattle.pmp_encoding.specs.Perms.{perm_eq}
use Rattle.pmp_encoding.specs.Views.{View}
use Rattle.prefix_tree.specs.Trees.{PermTree, Uniform, Split, TreeMeansAt}
use Rattle.prefix_tree.specs.Counts.{first_perm, last_perm}
use Rattle.entry_planner.proofs.SamePerm.{perm_eq-true}
use Rattle.chain_planner.specs.declared.turns.Turn.{Turn}
use Rattle.chain_planner.specs.ChainCosts.{change, changes_in}
use Rattle.chain_planner.specs.Turns.{turn_at, last_turn, TurnsWithin, turn_to, turns_in}

-- ---- one stretch after another

pub last-append : (p : Perm) (before behind : List Turn) → last_turn p (before ++ behind) ≡ last_turn (last_turn p before) behind
last-append p [] behind = refl
last-append p (t ∷ before) behind = last-append t.perm before behind

-- before the second stretch the first counts
pub before_stretch : (p : Perm) (before behind : List Turn) (first end page : ℕ) → TurnsWithin first end behind → page < first
    → turn_at p (before ++ behind) page ≡ turn_at p before page
before_stretch p [] [] first end page within low = refl
before_stretch p [] (t ∷ behind) first end page within low =
    rw (lt-ltb page t.page (omega (arith, within.0, low))) refl
before_stretch p (t ∷ before) behind first end page within low =
    ap (λ q. cond (nat_lt page t.page) p q) (before_stretch t.perm before behind first end page within low)

-- and from there on the second
pub behind_stretch : (p : Perm) (before behind : List Turn) (first end page : ℕ) → TurnsWithin first end before → end ≤ page
    → turn_at p (before ++ behind) page ≡ turn_at (last_turn p before) behind page
behind_stretch p [] behind first end page within high = refl
behind_stretch p (t ∷ before) behind first end page within high =
    ap (λ b. cond b p (turn_at t.perm (before ++ behind) page)) (le-ltb page t.page (omega (arith, within.1, high)))
    ∙ behind_stretch t.perm before behind t.page end page within.2 high

pub from_end : (p : Perm) (turns : List Turn) (first end page : ℕ) → TurnsWithin first end turns → end ≤ page → turn_at p turns page ≡ last_turn p turns
from_end p [] first end page within high = refl
from_end p (t ∷ turns) first end page within high =
    ap (λ b. cond b p (turn_at t.perm turns page)) (le-ltb page t.page (omega (arith, within.1, high)))
    ∙ from_end t.perm turns t.page end page within.2 high

pub wider : (first end low high : ℕ) (turns : List Turn) → TurnsWithin first end turns → low ≤ first → end ≤ high → TurnsWithin low high turns
wider first end low high [] within down up = tt
wider first end low high (t ∷ turns) within down up =
    (omega (arith, within.0, down), omega (arith, within.1, up), wider t.page end t.page high turns within.2 (omega arith) up)

pub within-append : (first middle end : ℕ) (before behind : List Turn) → first ≤ middle → TurnsWithin first middle before → TurnsWithin middle end behind
    → middle ≤ end
    → TurnsWithin first end (before ++ behind)
within-append first middle end [] behind down a b up = wider middle end first end behind b down (omega arith)
within-append first middle end (t ∷ before) behind down a b up =
    (a.0, omega (arith, a.1, up), within-append t.page middle end before behind (omega (arith, a.1)) a.2 b up)

-- ---- one change

pub to_last : (page : ℕ) (m n : Perm) → last_turn m (turn_to page m n) ≡ n
to_last page m n = go (perm_eq m n) refl
  where
    go : (t : Bool) → perm_eq m n ≡ t → last_turn m (if t then [] else record { page = page; perm = n } ∷ []) ≡ n
    go true is = perm_eq-true m n is
    go false is = refl

pub to_length : (page : ℕ) (m n : Perm) → length (turn_to page m n) ≡ change m n
to_length page m n = go (perm_eq m n)
  where
    go : (t : Bool) → length {A = Turn} (if t then [] else record { page = page; perm = n } ∷ []) ≡ (if t then 0 else 1)
    go true = refl
    go false = refl

pub to_within : (page first end : ℕ) (m n : Perm) → first ≤ page → page < end → TurnsWithin first end (turn_to page m n)
to_within page first end m n low high = go (perm_eq m n)
  where
    go : (t : Bool) → TurnsWithin first end (if t then [] else record { page = page; perm = n } ∷ [])
    go true = tt
    go false = (low, high, tt)

-- from its page on the chain has what comes after it
pub to_behind : (at page : ℕ) (m n : Perm) (turns : List Turn) → at ≤ page → turn_at m (turn_to at m n ++ turns) page ≡ turn_at n turns page
to_behind at page m n turns high = go (perm_eq m n) refl
  where
    go : (t : Bool) → perm_eq m n ≡ t → turn_at m ((if t then [] else record { page = at; perm = n } ∷ []) ++ turns) page ≡ turn_at n turns page
    go true is = ap (λ p. turn_at p turns page) (perm_eq-true m n is)
    go false is = ap (λ b. cond b m (turn_at n turns page)) (le-ltb page at high)

pub to_then_last : (page : ℕ) (m n : Perm) (turns : List Turn) → last_turn m (turn_to page m n ++ turns) ≡ last_turn n turns
to_then_last page m n turns = last-append m (turn_to page m n) turns ∙ ap (λ p. last_turn p turns) (to_last page m n)

-- ---- two halves and a change at the middle

record IsJoined (k first : ℕ) (p m n : Perm) (before behind : List Turn) : Type 0 where
  lows : TurnsWithin first (first + 2 ^ k) before
  last : last_turn p before ≡ m
  highs : TurnsWithin (first + 2 ^ k) (first + 2 ^ k + 2 ^ k) behind

abbrev pub both : ℕ → ℕ → Perm → Perm → List Turn → List Turn → List Turn
both k first m n before behind = before ++ (turn_to (first + 2 ^ k) m n ++ behind)

pub middle_within : (k first : ℕ) (m n : Perm) (behind : List Turn) → TurnsWithin (first + 2 ^ k) (first + 2 ^ k + 2 ^ k) behind
    → TurnsWithin (first + 2 ^ k) (first + 2 ^ k + 2 ^ k) (turn_to (first + 2 ^ k) m n ++ behind)
middle_within k first m n behind highs = go (perm_eq m n)
  where
    go : (t : Bool) → TurnsWithin (first + 2 ^ k) (first + 2 ^ k + 2 ^ k) ((if t then [] else record { page = first + 2 ^ k; perm = n } ∷ []) ++ behind)
    go true = highs
    go false = (omega arith, (let some : 0 < 2 ^ k = pow_pos k in omega arith), highs)

pub both_within : (k first start : ℕ) (m n : Perm) (before behind : List Turn) → start ≤ first + 2 ^ k → TurnsWithin start (first + 2 ^ k) before
    → TurnsWithin (first + 2 ^ k) (first + 2 ^ k + 2 ^ k) behind
    → TurnsWithin start (first + 2 ^ suc k) (both k first m n before behind)
both_within k first start m n before behind low lows highs =
    let double : 2 ^ suc k ≡ 2 ^ k * 2 = pow-suc 2 k in
    wider start (first + 2 ^ k + 2 ^ k) start (first + 2 ^ suc k) (both k first m n before behind)
    (within-append start (first + 2 ^ k) (first + 2 ^ k + 2 ^ k) before (turn_to (first + 2 ^ k) m n ++ behind) low lows
    (middle_within k first m n behind highs)
    (omega arith))
    (omega arith) (omega (arith, double))

pub both_last : (k first : ℕ) (p m n : Perm) (before behind : List Turn) → last_turn p before ≡ m
    → last_turn p (both k first m n before behind) ≡ last_turn n behind
both_last k first p m n before behind last =
    last-append p before (turn_to (first + 2 ^ k) m n ++ behind)
    ∙ ap (λ r. last_turn r (turn_to (first + 2 ^ k) m n ++ behind)) last
    ∙ to_then_last (first + 2 ^ k) m n behind

pub both_low : (k first page : ℕ) (p m n : Perm) (before behind : List Turn) → TurnsWithin (first + 2 ^ k) (first + 2 ^ k + 2 ^ k) behind
    → page < first + 2 ^ k
    → turn_at p (both k first m n before behind) page ≡ turn_at p before page
both_low k first page p m n before behind highs low =
    before_stretch p before (turn_to (first + 2 ^ k) m n ++ behind) (first + 2 ^ k) (first + 2 ^ k + 2 ^ k) page (middle_within k first m n behind highs) low

pub both_high : (k first start page : ℕ) (p m n : Perm) (before behind : List Turn) → TurnsWithin start (first + 2 ^ k) before → last_turn p before ≡ m
    → first + 2 ^ k ≤ page
    → turn_at p (both k first m n before behind) page ≡ turn_at n behind page
both_high k first start page p m n before behind lows last high =
    behind_stretch p before (turn_to (first + 2 ^ k) m n ++ behind) start (first + 2 ^ k) page lows high
    ∙ ap (λ r. turn_at r (turn_to (first + 2 ^ k) m n ++ behind) page) last
    ∙ to_behind (first + 2 ^ k) page m n behind high

pub both_length : (k first : ℕ) (m n : Perm) (before behind : List Turn)
    → length (both k first m n before behind) ≡ length before + (change m n + length behind)
both_length k first m n before behind =
    length-append before (turn_to (first + 2 ^ k) m n ++ behind)
    ∙ ap (λ x. length before + x) (length-append (turn_to (first + 2 ^ k) m n) behind ∙ ap (λ x. x + length behind) (to_length (first + 2 ^ k) m n))

-- ---- a chain that follows the tree

pub record Follows (view : View) (k first : ℕ) (p : Perm) (tree : PermTree) : Type 0 where
  pub within : TurnsWithin first (first + 2 ^ k) (turns_in k first p tree)
  pub last : last_turn p (turns_in k first p tree) ≡ last_perm tree
  pub gives : (page : ℕ) → first ≤ page → page < first + 2 ^ k → turn_at p (turns_in k first p tree) page ≡ view page
  pub count : length (turns_in k first p tree) ≡ change p (first_perm tree) + changes_in tree

pub follows_tree : (view : View) (tree : PermTree) (k first : ℕ) (p : Perm) → TreeMeansAt view k first tree → Follows view k first p tree
follows_tree view (Uniform v) k first p means = record {
  within = to_within first first (first + 2 ^ k) p v (omega arith) (let some : 0 < 2 ^ k = pow_pos k in omega arith);
  last = to_last first p v;
  gives = λ page low high. gives page low high;
  count = (let one : length (turn_to first p v) ≡ change p v = to_length first p v in omega (arith, one));
}
  where
    gives : (page : ℕ) → first ≤ page → page < first + 2 ^ k → turn_at p (turn_to first p v) page ≡ view page
    gives page low high =
        let here : first + (page - first) ≡ page = omega (arith, low) in
        let at : view (first + (page - first)) ≡ v = means (page - first) (omega (arith, low, high)) in
        let last : turn_at p (turn_to first p v) page ≡ v =
        ap (λ ts. turn_at p ts page) (sym (append_nil (turn_to first p v))) ∙ to_behind first page p v [] low in
        last ∙ sym at ∙ ap view here
      where
        append_nil : (ts : List Turn) → ts ++ [] ≡ ts
        append_nil [] = refl
        append_nil (t ∷ ts) = ap (λ us. t ∷ us) (append_nil ts)
follows_tree view (Split lower upper) zero first p means = absurd means
follows_tree view (Split lower upper) (suc k) first p means =
    let double : 2 ^ suc k ≡ 2 ^ k * 2 = pow-suc 2 k in
    let m : Perm = last_perm lower in
    let lo : Follows view k first p lower = follows_tree view lower k first p means.0 in
    let hi : Follows view k (first + 2 ^ k) m upper = follows_tree view upper k (first + 2 ^ k) m means.1 in
    let before : List Turn = turns_in k first p lower in
    let behind : List Turn = turns_in k (first + 2 ^ k) (last_perm lower) upper in
    record {
      within =
          wider first (first + 2 ^ k + 2 ^ k) first (first + 2 ^ suc k) (turns_in k first p lower ++ turns_in k (first + 2 ^ k) (last_perm lower) upper)
          (within-append first (first + 2 ^ k) (first + 2 ^ k + 2 ^ k) before behind (omega arith) lo.within hi.within (omega arith)) (omega arith)
          (omega (arith, double));
      last = last-append p before behind ∙ ap (λ r. last_turn r (turns_in k (first + 2 ^ k) (last_perm lower) upper)) lo.last ∙ hi.last;
      gives = λ page low high.
          ⊎_elim
          (λ left. before_stretch p before behind (first + 2 ^ k) (first + 2 ^ k + 2 ^ k) page hi.within left ∙ lo.gives page low left)
          (λ right.
          behind_stretch p before behind first (first + 2 ^ k) page lo.within right
          ∙ ap (λ r. turn_at r (turns_in k (first + 2 ^ k) (last_perm lower) upper) page) lo.last
          ∙ hi.gives page right (omega (arith, high, double)))
          (cases_lt page (first + 2 ^ k));
      count = (let sum = length-append before behind in omega (arith, sum, lo.count, hi.count));
    }
