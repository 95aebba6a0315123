-- Hulls that lie in one another, and what lies below a node.
use Rattle.std.proofs.Common.{◌≡◌, ◌≢◌, ◌∙◌, ℕ, zero, suc, ◌+◌, ◌*◌, ◌-◌, ◌/◌, ◌^◌, ◌<◌, ◌≤◌, List, get_or, length, set, true, ⊎_elim, ap, sym, arith}
use Rattle.std.proofs.lemmas.Bool.{cases_lt}
use Rattle.std.proofs.lemmas.Bool.Decides.{nat_tests}
use Rattle.std.proofs.lemmas.List.{get_or_past, get_or-set_same, get_or-set_other}
use Rattle.std.proofs.lemmas.Nat.{div_below, le-div, mod_below, mul-le, pow-add, pow_pos, shr-shr, shr_le, shr_split}
use Rattle.std.proofs.Math.Nat.{pow-le-pow_right}
use Rattle.map_table.specs.declared.hull_tree.Hull.{Hull}
use Rattle.map_table.specs.Hulls.{AllPast, AreNestedFrom, Encloses, is_past, no_hull, node_at}

pub encloses_self : (a : Hull) → Encloses a a
encloses_self a = record { base = omega arith; end = omega arith; number = omega arith }

pub encloses_all : (a b c : Hull) → Encloses a b → Encloses b c → Encloses a c
encloses_all a b c ab bc = record { base = omega (arith, ab.base, bc.base); end = omega (arith, ab.end, bc.end); number = omega (arith, ab.number, bc.number) }

-- ---- the nodes of a list in which one hull is written

low : (hulls : List Hull) (leaves : List Hull) (m : ℕ) → m < length leaves → node_at hulls leaves m ≡ get_or hulls m no_hull
low hulls leaves m h = grind (arith, nat_tests)

high : (hulls : List Hull) (leaves : List Hull) (m : ℕ) → length leaves ≤ m → node_at hulls leaves m ≡ get_or leaves (m - length leaves) no_hull
high hulls leaves m h = grind (arith, nat_tests)

written : (hulls : List Hull) (leaves : List Hull) (i : ℕ) (h : Hull) → length hulls ≡ length leaves → i < length leaves → node_at (set hulls i h) leaves i ≡ h
written hulls leaves i h same inside = low (set hulls i h) leaves i inside ∙ get_or-set_same hulls i h no_hull (omega (arith, same, inside))

kept : (hulls : List Hull) (leaves : List Hull) (i m : ℕ) (h : Hull) → m ≢ i → node_at (set hulls i h) leaves m ≡ node_at hulls leaves m
kept hulls leaves i m h other =
    ⊎_elim
    (λ below. low (set hulls i h) leaves m below ∙ get_or-set_other hulls i m h no_hull other ∙ sym (low hulls leaves m below))
    (λ above. high (set hulls i h) leaves m above ∙ sym (high hulls leaves m above))
    (cases_lt m (length leaves))

nested_at :
    (hulls : List Hull) (leaves : List Hull) (i m : ℕ) (h : Hull) → length hulls ≡ length leaves → i < length leaves → i < m → m / 2 ≡ i
    → Encloses h (node_at hulls leaves m)
    → Encloses (node_at (set hulls i h) leaves (m / 2)) (node_at (set hulls i h) leaves m)
nested_at hulls leaves i m h same inside later half e =
    rw (half, written hulls leaves i h same inside, kept hulls leaves i m h (omega (arith, later))) e

-- one hull more, that of node i, which has all bytes of its two children
pub one_nested :
    (hulls : List Hull) (leaves : List Hull) (i : ℕ) (h : Hull) → length hulls ≡ length leaves → 1 ≤ i → i < length leaves
    → Encloses h (node_at hulls leaves (2 * i)) → Encloses h (node_at hulls leaves (2 * i + 1))
    → AreNestedFrom (i + 1) hulls leaves → AreNestedFrom i (set hulls i h) leaves
one_nested hulls leaves i h same some inside left right nested =
    λ m low high.
    ⊎_elim
    (λ child.
    ⊎_elim
    (λ first. let is : m ≡ 2 * i = omega (arith, low, first) in nested_at hulls leaves i m h same inside (omega arith) (omega (arith, is)) (rw is left))
    (λ second. let is : m ≡ 2 * i + 1 = omega (arith, child, second) in nested_at hulls leaves i m h same inside (omega arith) (omega (arith, is))
    (rw is right))
    (cases_lt m (2 * i + 1)))
    (λ later.
    rw (kept hulls leaves i (m / 2) h (omega (arith, later)), kept hulls leaves i m h (omega (arith, later))) (nested m (omega (arith, later)) high))
    (cases_lt m (2 * i + 2))

-- ---- what lies below a node

pub above :
    (hulls : List Hull) (leaves : List Hull) (m height : ℕ) → AreNestedFrom 1 hulls leaves → m < 2 * length leaves → 2 ^ height ≤ m
    → Encloses (node_at hulls leaves (m / 2 ^ height)) (node_at hulls leaves m)
above hulls leaves m zero nested inside some =
    let same : m / 2 ^ 0 ≡ m = omega arith in
    rw same (encloses_self (node_at hulls leaves m))
above hulls leaves m (suc height) nested inside some =
    let double : 2 ^ suc height ≡ 2 * 2 ^ height = grind arith in
    let half : ℕ = m / 2 ^ height in
    let split : half / 2 ≡ m / 2 ^ suc height = shr-shr m height 1 ∙ ap (λ j. m / 2 ^ j) (omega arith) in
    let two : 2 ≤ half = le-div 2 m (2 ^ height) (pow_pos height) (omega (arith, double, some)) in
    let under : half < 2 * length leaves = omega (arith, shr_le m height, inside) in
    encloses_all (node_at hulls leaves (m / 2 ^ suc height)) (node_at hulls leaves half) (node_at hulls leaves m)
    (rw (sym split) (nested half (omega (arith, two)) under))
    (above hulls leaves m height nested inside (omega (arith, double, some)))

past_inner : (outer inner : Hull) (bound first end : ℕ) → Encloses outer inner → is_past outer bound first end ≡ true → is_past inner bound first end ≡ true
past_inner outer inner bound first end e past = grind (arith, nat_tests, e.base, e.end, e.number)

none_past : (bound first end : ℕ) → is_past no_hull bound first end ≡ true
none_past bound first end = grind (arith, nat_tests)

-- a node that is past: the leaves below it are
pub all_past :
    (hulls leaves : List Hull) (from leaf height bound first end : ℕ) → AreNestedFrom 1 hulls leaves → length leaves + from ≤ leaf → 2 ^ height ≤ leaf
    → is_past (node_at hulls leaves (leaf / 2 ^ height)) bound first end ≡ true
    → AllPast leaves from (leaf - length leaves) bound first end
    → AllPast leaves from ((leaf / 2 ^ height + 1) * 2 ^ height - length leaves) bound first end
all_past hulls leaves from leaf height bound first end nested begun some past before =
    λ p low below.
    ⊎_elim
    (λ passed. before p low passed)
    (λ here.
    ⊎_elim
    (λ inside.
    let m : ℕ = length leaves + p in
    let node : ℕ = leaf / 2 ^ height in
    let back : m - length leaves ≡ p = omega arith in
    let least : node ≤ m / 2 ^ height = le-div node m (2 ^ height) (pow_pos height) (omega (arith, shr_split leaf height, here)) in
    let most : m / 2 ^ height < node + 1 = div_below m (2 ^ height) (node + 1) (pow_pos height) (omega (arith, below)) in
    let same : m / 2 ^ height ≡ node = omega (arith, least, most) in
    let is : node_at hulls leaves m ≡ get_or leaves p no_hull = high hulls leaves m (omega arith) ∙ ap (λ j. get_or leaves j no_hull) back in
    past_inner (node_at hulls leaves node) (get_or leaves p no_hull) bound first end
    (rw (sym is, sym same) (above hulls leaves m height nested (omega (arith, inside)) (omega (arith, some, here))))
    past)
    (λ outside. rw (get_or_past leaves p no_hull outside) (none_past bound first end))
    (cases_lt p (length leaves)))
    (cases_lt p (leaf - length leaves))

-- ---- the first leaf that does not lie below a node

rows : (q p : ℕ) → (q + 1) * p ≡ q * p + p
rows q p = grind arith

pub beyond : (leaf height : ℕ) → leaf < (leaf / 2 ^ height + 1) * 2 ^ height
beyond leaf height = omega (arith, rows (leaf / 2 ^ height) (2 ^ height), shr_split leaf height, mod_below leaf (2 ^ height) (pow_pos height))

pub near : (leaf height : ℕ) → 2 ^ height ≤ leaf → (leaf / 2 ^ height + 1) * 2 ^ height ≤ 2 * leaf
near leaf height some = omega (arith, rows (leaf / 2 ^ height) (2 ^ height), shr_split leaf height, some)

pub wide : (leaf height : ℕ) → 1 < leaf / 2 ^ height → 2 ^ (height + 1) ≤ (leaf / 2 ^ height + 1) * 2 ^ height
wide leaf height two =
    let double : 2 ^ (height + 1) ≡ 2 ^ height * 2 = pow-add 2 height 1 in
    omega (arith, double, mul-le 2 (2 ^ height) (leaf / 2 ^ height + 1) (2 ^ height) (omega (arith, two)) (omega arith))

pub level : (height n : ℕ) → 2 ^ height ≤ n → n < 2 ^ 64 → height < 64
level height n some small = ⊎_elim (λ below. below) (λ over. absurd (omega
    (arith, some, small, pow-le-pow_right {n = 2} (omega arith) {i = 64} {j = height} over))) (cases_lt height 64)

pub lower : (height n : ℕ) → 2 ^ height ≤ n → 2 ^ (height - 1) ≤ n
lower zero n some = some
lower (suc height) n some =
    let double : 2 ^ suc height ≡ 2 * 2 ^ height = grind arith in
    let same : 2 ^ (suc height - 1) ≡ 2 ^ height = ap (λ j. 2 ^ j) (omega arith) in
    omega (arith, double, same, some)
