-- The recursion is a lower bound on every chained list that means the view.
use Rattle.std.proofs.Common.{◌≡◌, ◌≢◌, ℕ, zero, suc, ◌+◌, ◌-◌, ◌*◌, ◌/◌, ◌%◌, ◌^◌, ◌<◌, ◌≤◌, ◌⊎◌, inl, inr, ⊎_elim, min, List, [], ◌∷◌, ◌++◌, Bool, true, false, cond}
use Rattle.std.proofs.Common.{Option, None, Some, IsSome, nat_lt, nat_eq, length, refl, sym, ap, subst, ◌∙◌, ◌&&◌, ◌==◌, arith, pow_pos, pow-suc, pow-add, zero-mul, zero-add, if◌then◌else◌}
use Rattle.std.proofs.lemmas.Bool.{cases_lt, eqb-true, eqb-false, lt-ltb, le-ltb, and_right}
use Rattle.pmp_encoding.specs.declared.extent.Extent.{Extent}
use Rattle.pmp_encoding.specs.declared.perm.Perm.{Perm}
use Rattle.pmp_encoding.specs.declared.perm.Perm.TheVariants.{NoAccess}
use Rattle.pmp_encoding.specs.declared.region.Entry.{Entry}
use Rattle.pmp_encoding.specs.Encoding.{address_of}
use Rattle.pmp_encoding.specs.Perms.{perm_eq}
use Rattle.pmp_encoding.specs.Views.{View}
use Rattle.pmp_match.specs.Bytes.{holds_byte}
use Rattle.pmp_match.specs.Bytes as bytes
use Rattle.pmp_match.specs.RegisterBytes.{perm_at}
use Rattle.pmp_match.specs.Lists.{matched_by}
use Rattle.pmp_match.proofs.Least.{AreWithin, holds_from}
use Rattle.pmp_match.proofs.Matched.{entry_words}
use Rattle.prefix_tree.specs.Trees.{PermTree, Uniform, Split, TreeMeansAt}
use Rattle.prefix_tree.specs.Counts.{first_perm, last_perm}
use Rattle.entry_planner.proofs.CostLemmas.{least_le}
use Rattle.chain_planner.specs.declared.tops.Top.{Top}
use Rattle.chain_planner.specs.ChainCosts.{change, through, begins, changes_in, passed, chained_cost}
use Rattle.chain_planner.specs.Chained.{Chained, offs, length_of, address_behind, bottom_by, bottom_of, matched_from, off_extents, extents_of, AreRising}
use Rattle.chain_planner.specs.Painted.{changes, Paints, Hides}
use Rattle.chain_planner.proofs.Changes.{change_same}
use Rattle.chain_planner.proofs.ChainGiven.{same_changes, tor_outside, before_chain, behind_chain, chain_changes, whole_changes, constant_changes}
use Rattle.chain_planner.proofs.Lower.{inner, last_of, last_same, over_middle, through_le, begins_le}

-- ---- what the extents of a list give a byte: its blocks over its chain

pub matched_perm : (es : List Entry) (rest : List Extent) (x : ℕ) → perm_at (matched_by es ++ rest) x ≡ bytes.perm_at (perm_at rest x) es x
matched_perm [] rest x = refl
matched_perm (e ∷ es) rest x = ap (λ p. cond (holds_byte e.region x) e.perm p) (matched_perm es rest x)

pub off_misses : (off : Option ℕ) (rest : List Extent) (x : ℕ) → perm_at (off_extents off ++ rest) x ≡ perm_at rest x
off_misses None rest x = refl
off_misses (Some address) rest x = ap (λ t. cond t NoAccess (perm_at rest x)) (and_right _ _ (le-ltb x 0 (omega arith)))

pub list_perm : (list : Chained) (x : ℕ)
    → perm_at (extents_of list) x ≡ bytes.perm_at (perm_at (matched_from (bottom_of list) list.tops) x) list.blocks x
list_perm list x =
    matched_perm list.blocks (off_extents list.off ++ matched_from (bottom_of list) list.tops) x
    ∙ ap (λ p. bytes.perm_at p list.blocks x) (off_misses list.off (matched_from (bottom_of list) list.tops) x)

-- ---- a chain alone changes as often as the view

pub bare_is : (view : View) (f : ℕ → Perm) (first k page : ℕ) → Paints view f [] first k → first ≤ page → page < first + 2 ^ k → f (page * 4096) ≡ view page
bare_is view f first k page paints low high =
    let same : page * 4096 / 4096 ≡ page = omega arith in
    paints (page * 4096) (omega (arith, low)) (omega (arith, high)) ∙ ap view same

record IsFollowed (tree : PermTree) (f : ℕ → Perm) (first k : ℕ) : Type 0 where
  low : f (first * 4096) ≡ first_perm tree
  high : f (last_of first k) ≡ last_perm tree
  count : changes_in tree ≤ changes f (first * 4096) (inner k)

alone_le : (view : View) (tree : PermTree) (k first : ℕ) (f : ℕ → Perm) → TreeMeansAt view k first tree → Paints view f [] first k → IsFollowed tree f first k
alone_le view (Uniform v) k first f means paints =
    record { low = at (first * 4096) low_is low_end; high = at (last_of first k) high_is high_end; count = omega arith }
  where
    some : 0 < 2 ^ k
    some = pow_pos k

    low_is : first * 4096 ≤ first * 4096
    low_is = omega arith

    low_end : first * 4096 < (first + 2 ^ k) * 4096
    low_end = omega (arith, some)

    high_is : first * 4096 ≤ last_of first k
    high_is = omega arith

    high_end : last_of first k < (first + 2 ^ k) * 4096
    high_end = omega (arith, some)

    at : (x : ℕ) → first * 4096 ≤ x → x < (first + 2 ^ k) * 4096 → f x ≡ v
    at x low high =
        let page : first + (x / 4096 - first) ≡ x / 4096 = omega (arith, low) in
        let inside : x / 4096 - first < 2 ^ k = omega (arith, low, high) in
        paints x low high ∙ ap view (sym page) ∙ means (x / 4096 - first) inside
alone_le view (Split lower upper) zero first f means paints = absurd means
alone_le view (Split lower upper) (suc k) first f means paints =
    let double : 2 ^ suc k ≡ 2 ^ k * 2 = pow-suc 2 k in
    let lo : IsFollowed lower f first k = alone_le view lower k first f means.0 (λ x low high. paints x low (omega (arith, high, double))) in
    let hi : IsFollowed upper f (first + 2 ^ k) k =
    alone_le view upper k (first + 2 ^ k) f means.1 (λ x low high. paints x (omega (arith, low)) (omega (arith, high, double))) in
    let all : changes f (first * 4096) (inner (suc k))
    ≡ changes f (first * 4096) (inner k) + (change (f (last_of first k)) (f ((first + 2 ^ k) * 4096)) + changes f ((first + 2 ^ k) * 4096) (inner k)) =
    over_middle f first k (first * 4096) (inner k) (inner (suc k)) refl refl in
    let middle : change (f (last_of first k)) (f ((first + 2 ^ k) * 4096)) ≡ change (last_perm lower) (first_perm upper) = rw (lo.high, hi.low) refl in
    record { low = lo.low; high = ap f (sym (last_same first k)) ∙ hi.high; count = omega (arith, lo.count, hi.count, all, middle) }

-- ---- a chain that no entry hides where it begins

pub any_bottom : (bits bottom : ℕ) (tops : List Top) (n : ℕ) → AreRising bits 0 tops
    → change NoAccess (perm_at (matched_from bottom tops) 0) + changes (perm_at (matched_from bottom tops)) 0 n ≤ 1 + length tops
any_bottom bits bottom [] n rising =
    omega (arith, change_same NoAccess, constant_changes (λ x. NoAccess) NoAccess 0 n (λ i h. refl))
any_bottom bits bottom (top ∷ tops) n rising =
    ⊎_elim
    (λ falls.
    let f : ℕ → Perm = perm_at (matched_from bottom (top ∷ tops)) in
    let g : ℕ → Perm = perm_at (matched_from top.address tops) in
    let here : perm_at (matched_from bottom (top ∷ tops)) 0 ≡ perm_at (matched_from top.address tops) 0 =
    tor_outside bottom top tops 0 (inr (inr (omega (arith, falls)))) in
    let first : change NoAccess (perm_at (matched_from bottom (top ∷ tops)) 0) ≡ change NoAccess (perm_at (matched_from top.address tops) 0) =
    ap (change NoAccess) here in
    let rest : changes (perm_at (matched_from bottom (top ∷ tops))) 0 n ≡ changes (perm_at (matched_from top.address tops)) 0 n =
    same_changes (perm_at (matched_from bottom (top ∷ tops))) (perm_at (matched_from top.address tops)) 0 n
    (λ i h. tor_outside bottom top tops (0 + i) (inr (inr (omega (arith, falls))))) in
    omega (arith, first, rest, whole_changes bits top.address tops n rising.2))
    (λ rises. whole_changes bits bottom (top ∷ tops) n (rises, rising.1, rising.2))
    (cases_lt top.address bottom)

-- ---- the address register of an entry is an address in its block

address_inside : (e : Entry) → (e.region.base < 4 * address_of e + 1) × (4 * address_of e + 1 < e.region.base + 2 ^ e.region.log2)
address_inside e = go (nat_eq e.region.log2 2) refl
  where
    words : e.region.base % 4 ≡ 0
    words = (entry_words e).base

    go : (t : Bool) → nat_eq e.region.log2 2 ≡ t → (e.region.base < 4 * address_of e + 1) × (4 * address_of e + 1 < e.region.base + 2 ^ e.region.log2)
    go true is =
        let two : e.region.log2 ≡ 2 = eqb-true _ _ is in
        let size : 2 ^ e.region.log2 ≡ 4 = ap (λ j. 2 ^ j) two in
        let at : address_of e ≡ e.region.base / 4 = rw is refl in
        (omega (arith, at, words), omega (arith, at, words, size))
    go false is =
        let long : 2 ≤ e.region.log2 = e.region.block.long in
        let more : e.region.log2 ≡ e.region.log2 - 3 + 3 = omega (arith, eqb-false _ _ is, long) in
        let size : 2 ^ e.region.log2 ≡ 2 ^ (e.region.log2 - 3) * 8 = ap (λ j. 2 ^ j) more ∙ pow-add 2 (e.region.log2 - 3) 3 in
        let some : 0 < 2 ^ (e.region.log2 - 3) = pow_pos (e.region.log2 - 3) in
        let at : address_of e ≡ e.region.base / 4 + 2 ^ (e.region.log2 - 3) - 1 = rw is refl in
        (omega (arith, at, words, some), omega (arith, at, words, size, some))

-- the last entry hides a beginning at its address register
pub last_hides : (before : ℕ) (e : Entry) (es : List Entry) → Hides (4 * address_behind before (e ∷ es) + 1) (e ∷ es)
last_hides before e [] = inl (address_inside e)
last_hides before e (f ∷ es) = inr (last_hides (address_of e) f es)

held_same : (p q : Perm) (es : List Entry) (x : ℕ) → Hides (x + 1) es → bytes.perm_at p es x ≡ bytes.perm_at q es x
held_same p q [] x hidden = absurd hidden
held_same p q (e ∷ es) x hidden =
    ⊎_elim
    (λ here.
    let held : holds_byte e.region x ≡ true = holds_from e.region x (omega (arith, here.0)) (omega (arith, here.1)) in
    ap (λ t. cond t e.perm (bytes.perm_at p es x)) held ∙ sym (ap (λ t. cond t e.perm (bytes.perm_at q es x)) held))
    (λ there. ap (λ r. cond (holds_byte e.region x) e.perm r) (held_same p q es x there))
    hidden

-- ---- the list is one of three

-- by the recursion's number for a chain that passes
passes :
    (view : View) (tree : PermTree) (k bits n : ℕ) (f : ℕ → Perm) (es : List Entry) → TreeMeansAt view k 0 tree → AreWithin 0 k es → Paints view f es 0 k
    → f (last_of 0 k) ≡ NoAccess → change NoAccess (f 0) + changes f 0 (inner k) ≤ n
    → passed tree ≤ length es + n
passes view tree k bits n f es means within paints top few =
    let start : 0 * 4096 ≡ 0 = zero-mul 4096 in
    let pass : through tree (f (0 * 4096)) (f (last_of 0 k)) ≤ length es + changes f (0 * 4096) (inner k) =
    through_le view tree k 0 0 f es (omega arith) means within paints in
    let here : through tree (f 0) NoAccess ≤ length es + changes f 0 (inner k) = rw (start, top) at pass in
    omega (arith, here, few, least_le (λ p. change NoAccess p + through tree p NoAccess) (f 0))

either_le : (place : ℕ) (tree : PermTree) (n : ℕ) → (passed tree ≤ n) ⊎ (begins tree NoAccess ≤ n) → chained_cost place tree ≤ n
either_le place tree n h = go (place == 0 && perm_eq (last_perm tree) NoAccess)
  where
    least : min (passed tree) (begins tree NoAccess) ≤ n
    least = ⊎_elim (λ a. omega (arith, a)) (λ b. omega (arith, b)) h

    go :
        (t : Bool)
        → (if t then min (changes_in tree) (min (passed tree) (begins tree NoAccess)) else min (passed tree) (begins tree NoAccess)) ≤ n
    go true = omega (arith, least)
    go false = least

alone_cost : (tree : PermTree) (n : ℕ) → last_perm tree ≡ NoAccess → changes_in tree ≤ n → chained_cost 0 tree ≤ n
alone_cost tree n last few = rw last (omega (arith, few))

-- the view is given by the list's blocks over its chain
abbrev pub GivesWithin : View → Chained → ℕ → Type 0
GivesWithin view list k = (x : ℕ) → x < 2 ^ k * 4096 → perm_at (extents_of list) x ≡ view (x / 4096)

list_paints : (view : View) (list : Chained) (k : ℕ) → GivesWithin view list k → Paints view (perm_at (matched_from (bottom_of list) list.tops)) list.blocks 0 k
list_paints view list k gives x low high =
    let all : 0 + 2 ^ k ≡ 2 ^ k = zero-add (2 ^ k) in
    sym (list_perm list x) ∙ gives x (omega (arith, high, all))

chain_top : (k bits bottom : ℕ) (tops : List Top) → bits ≡ k + 10 → AreRising bits 0 tops → perm_at (matched_from bottom tops) (last_of 0 k) ≡ NoAccess
chain_top k bits bottom tops width rising =
    let size : 2 ^ bits ≡ 2 ^ k * 1024 = ap (λ j. 2 ^ j) width ∙ pow-add 2 k 10 in
    let some : 0 < 2 ^ k = pow_pos k in
    behind_chain bits 0 bottom tops (last_of 0 k) rising (omega (arith, size, some))

-- a chain that begins under the last entry: moved by a byte it begins between two bytes of it
abbrev moved : ℕ → List Top → ℕ → Perm
moved bottom tops x = cond (nat_lt x (4 * bottom + 1)) NoAccess (perm_at (matched_from bottom tops) x)

hidden_le :
    (view : View) (tree : PermTree) (k bits : ℕ) (e : Entry) (es : List Entry) (tops : List Top) → bits ≡ k + 10 → TreeMeansAt view k 0 tree
    → AreWithin 0 k (e ∷ es)
    → AreRising bits (address_behind 0 (e ∷ es)) tops → AreRising bits 0 tops
    → Paints view (perm_at (matched_from (address_behind 0 (e ∷ es)) tops)) (e ∷ es) 0 k
    → 4 * address_behind 0 (e ∷ es) + 1 ≤ last_of 0 k
    → begins tree NoAccess ≤ length (e ∷ es) + length tops
hidden_le view tree k bits e es tops width means within rising from_zero paints inside =
    let low : begins tree (moved bottom tops (last_of 0 k)) ≤ length (e ∷ es) + changes (moved bottom tops) edge count =
    begins_le view tree k 0 0 (moved bottom tops) (e ∷ es) edge count (omega arith) means within moved_paints (last_hides 0 e es) none counted in
    let end : moved bottom tops (last_of 0 k) ≡ NoAccess = behind (last_of 0 k) inside ∙ chain_top k bits bottom tops width from_zero in
    let top : begins tree (moved bottom tops (last_of 0 k)) ≡ begins tree NoAccess = ap (begins tree) end in
    let same : changes (moved bottom tops) edge count ≡ changes (perm_at (matched_from bottom tops)) edge count =
    same_changes (moved bottom tops) (perm_at (matched_from bottom tops)) edge count (λ i h. behind (edge + i) (omega arith)) in
    omega (arith, low, top, same, chain_changes bits bottom tops edge count rising (omega arith))
  where
    bottom : ℕ
    bottom = address_behind 0 (e ∷ es)

    edge : ℕ
    edge = 4 * bottom + 1

    count : ℕ
    count = last_of 0 k - edge

    counted : edge + count ≡ last_of 0 k
    counted = omega (arith, inside)

    none : (x : ℕ) → x < edge → moved bottom tops x ≡ NoAccess
    none x low = rw (lt-ltb x edge low) refl

    behind : (x : ℕ) → edge ≤ x → moved bottom tops x ≡ perm_at (matched_from bottom tops) x
    behind x high = rw (le-ltb x edge high) refl

    same_at : (x : ℕ) → bytes.perm_at (moved bottom tops x) (e ∷ es) x ≡ bytes.perm_at (perm_at (matched_from bottom tops) x) (e ∷ es) x
    same_at x =
        ⊎_elim
        (λ low.
        ⊎_elim
        (λ under. ap (λ p. bytes.perm_at p (e ∷ es) x) (none x low ∙ sym (before_chain bits bottom tops x rising under)))
        (λ at.
        let here : 4 * bottom + 1 ≡ x + 1 = omega (arith, low, at) in
        held_same (moved bottom tops x) (perm_at (matched_from bottom tops) x) (e ∷ es) x
        (subst (λ y. Hides y (e ∷ es)) here (last_hides 0 e es)))
        (cases_lt x (4 * bottom)))
        (λ high. ap (λ p. bytes.perm_at p (e ∷ es) x) (behind x high))
        (cases_lt x edge)

    moved_paints : Paints view (moved bottom tops) (e ∷ es) 0 k
    moved_paints x low high = same_at x ∙ paints x low high

-- ---- the four shapes of a list

-- without a TOR entry
no_tops :
    (view : View) (tree : PermTree) (k place bottom m : ℕ) (es : List Entry) → TreeMeansAt view k 0 tree → AreWithin 0 k es
    → Paints view (perm_at (matched_from bottom [])) es 0 k
    → chained_cost place tree ≤ length es + m
no_tops view tree k place bottom m es means within paints =
    let none : change NoAccess NoAccess + changes (λ x. NoAccess) 0 (inner k) ≤ 0 =
    omega (arith, change_same NoAccess, constant_changes (λ x. NoAccess) NoAccess 0 (inner k) (λ i h. refl)) in
    let few : passed tree ≤ length es + 0 = passes view tree k 0 0 (λ x. NoAccess) es means within paints refl none in
    either_le place tree (length es + m) (inl (omega (arith, few)))

-- with a base of its own
from_base :
    (view : View) (tree : PermTree) (k bits place bottom : ℕ) (es : List Entry) (tops : List Top) → bits ≡ k + 10 → TreeMeansAt view k 0 tree
    → AreWithin 0 k es → AreRising bits 0 tops
    → Paints view (perm_at (matched_from bottom tops)) es 0 k
    → chained_cost place tree ≤ length es + (1 + length tops)
from_base view tree k bits place bottom es tops width means within rising paints =
    either_le place tree (length es + (1 + length tops))
    (inl
    (passes view tree k bits (1 + length tops) (perm_at (matched_from bottom tops)) es means within paints (chain_top k bits bottom tops width rising)
    (any_bottom bits bottom tops (inner k) rising)))

-- that is a chain alone
alone :
    (view : View) (tree : PermTree) (k bits : ℕ) (tops : List Top) → bits ≡ k + 10 → TreeMeansAt view k 0 tree → AreRising bits 0 tops
    → Paints view (perm_at (matched_from 0 tops)) [] 0 k
    → chained_cost 0 tree ≤ length tops
alone view tree k bits tops width means rising paints =
    let start : 0 * 4096 ≡ 0 = zero-mul 4096 in
    let follows : IsFollowed tree (perm_at (matched_from 0 tops)) 0 k = alone_le view tree k 0 (perm_at (matched_from 0 tops)) means paints in
    let last : last_perm tree ≡ NoAccess = sym follows.high ∙ chain_top k bits 0 tops width rising in
    let moved : changes (perm_at (matched_from 0 tops)) (0 * 4096) (inner k) ≡ changes (perm_at (matched_from 0 tops)) 0 (inner k) =
    ap (λ x. changes (perm_at (matched_from 0 tops)) x (inner k)) start in
    alone_cost tree (length tops) last (omega (arith, follows.count, moved, chain_changes bits 0 tops 0 (inner k) rising (omega arith)))

-- with the address of its last block for a base
from_block :
    (view : View) (tree : PermTree) (k bits place : ℕ) (e : Entry) (es : List Entry) (tops : List Top) → bits ≡ k + 10 → TreeMeansAt view k 0 tree
    → AreWithin 0 k (e ∷ es) → AreRising bits 0 tops
    → Paints view (perm_at (matched_from (address_behind 0 (e ∷ es)) tops)) (e ∷ es) 0 k
    → chained_cost place tree ≤ length (e ∷ es) + length tops
from_block view tree k bits place e es [] width means within rising paints =
    no_tops view tree k place (address_behind 0 (e ∷ es)) 0 (e ∷ es) means within paints
from_block view tree k bits place e es (top ∷ tops) width means within rising paints =
    let bottom : ℕ = address_behind 0 (e ∷ es) in
    ⊎_elim
    (λ falls.
    let few : chained_cost place tree ≤ length (e ∷ es) + (1 + length tops) =
    from_base view tree k bits place top.address (e ∷ es) tops width means within (least_zero bits top.address tops rising.2)
    (λ x low high.
    ap (λ p. bytes.perm_at p (e ∷ es) x)
    (sym (tor_outside (address_behind 0 (e ∷ es)) top tops x (inr (inr (omega (arith, falls))))))
    ∙ paints x low high) in
    omega (arith, few))
    (λ rises.
    let size : 2 ^ bits ≡ 2 ^ k * 1024 = ap (λ j. 2 ^ j) width ∙ pow-add 2 k 10 in
    let inside : 4 * address_behind 0 (e ∷ es) + 1 ≤ last_of 0 k = omega (arith, rises, rising.1, size) in
    either_le place tree (length (e ∷ es) + length (top ∷ tops))
    (inr (hidden_le view tree k bits e es (top ∷ tops) width means within (rises, rising.1, rising.2) rising paints inside)))
    (cases_lt top.address (address_behind 0 (e ∷ es)))
  where
    least_zero : (bits least : ℕ) (tops : List Top) → AreRising bits least tops → AreRising bits 0 tops
    least_zero bits least [] rising = tt
    least_zero bits least (top ∷ tops) rising = (omega arith, rising.1, rising.2)

pub list_le :
    (view : View) (tree : PermTree) (k bits place : ℕ) (list : Chained) → bits ≡ k + 10 → TreeMeansAt view k 0 tree → AreWithin 0 k list.blocks
    → AreRising bits 0 list.tops → (place ≡ 0) ⊎ ((list.blocks ≢ []) ⊎ (IsSome list.off ⊎ (list.tops ≡ [])))
    → GivesWithin view list k
    → chained_cost place tree ≤ length_of list
list_le view tree k bits place list width means within rising based gives =
    go list.blocks list.off list.tops within rising based (list_paints view list k gives)
  where
    unbased : (top : Top) (tops : List Top) → (◌≢◌ {A = List Entry} [] []) ⊎ (IsSome {T = ℕ} None ⊎ (top ∷ tops ≡ [])) → ⊥
    unbased top tops (inl some) = some refl
    unbased top tops (inr (inl off)) = cc
    unbased top tops (inr (inr none)) = cc

    go :
        (es : List Entry) (off : Option ℕ) (tops : List Top) → AreWithin 0 k es → AreRising bits 0 tops
        → (place ≡ 0) ⊎ ((es ≢ []) ⊎ (IsSome off ⊎ (tops ≡ [])))
        → Paints view (perm_at (matched_from (bottom_by off es) tops)) es 0 k
        → chained_cost place tree ≤ length es + (offs off + length tops)
    go es (Some address) tops within rising based paints = from_base view tree k bits place address es tops width means within rising paints
    go (e ∷ es) None tops within rising based paints =
        let few : chained_cost place tree ≤ length (e ∷ es) + length tops = from_block view tree k bits place e es tops width means within rising paints in
        omega (arith, few)
    go [] None [] within rising based paints = no_tops view tree k place 0 0 [] means within paints
    go [] None (top ∷ tops) within rising based paints =
        ⊎_elim
        (λ first.
        let few : chained_cost 0 tree ≤ length (top ∷ tops) = alone view tree k bits (top ∷ tops) width means rising paints in
        let same : chained_cost place tree ≡ chained_cost 0 tree = ap (λ n. chained_cost n tree) first in
        omega (arith, few, same))
        (λ other. absurd (unbased top tops other))
        based
