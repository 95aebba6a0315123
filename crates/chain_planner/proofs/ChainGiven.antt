-- The permission that a chain of TOR entries gives each address, and the number of its changes.
use Rattle.std.proofs.Common.{◌≡◌, ℕ, zero, suc, ◌+◌, ◌-◌, ◌*◌, ◌^◌, ◌<◌, ◌≤◌, ◌⊎◌, inl, inr, ⊎_elim, List, [], ◌∷◌, Bool, true, false, cond, ◌&&◌}
use Rattle.std.proofs.Common.{length, nat_lt, nat_le, refl, ap, ◌∙◌, arith}
use Rattle.std.proofs.lemmas.Bool.{cases_lt, lt-ltb, le-leb, le-ltb, lt-leb, and_from, and_left, and_right}
use Rattle.pmp_encoding.specs.declared.perm.Perm.{Perm}
use Rattle.pmp_encoding.specs.declared.perm.Perm.TheVariants.{NoAccess}
use Rattle.pmp_match.specs.RegisterBytes.{has_byte, perm_at}
use Rattle.pmp_match.specs.Tor.{nowhere}
use Rattle.chain_planner.specs.declared.tops.Top.{Top}
use Rattle.chain_planner.specs.ChainCosts.{change}
use Rattle.chain_planner.specs.Chained.{matched_from, AreRising}
use Rattle.chain_planner.specs.Painted.{changes}
use Rattle.chain_planner.proofs.Changes.{change_same, change_one, joined}

-- ---- functions that are constant, or the same, on a stretch

pub constant_changes : (f : ℕ → Perm) (p : Perm) (start n : ℕ) → ((i : ℕ) → i ≤ n → f (start + i) ≡ p) → changes f start n ≡ 0
constant_changes f p start zero is = refl
constant_changes f p start (suc n) is =
    let rest : changes f start n ≡ 0 = constant_changes f p start n (λ i h. is i (omega (arith, h))) in
    let step : change (f (start + n)) (f (start + suc n)) ≡ 0 = rw (is n (omega arith), is (suc n) (omega arith)) (change_same p) in
    omega (arith, rest, step)

pub same_changes : (f g : ℕ → Perm) (start n : ℕ) → ((i : ℕ) → i ≤ n → f (start + i) ≡ g (start + i)) → changes f start n ≡ changes g start n
same_changes f g start zero is = refl
same_changes f g start (suc n) is =
    let rest : changes f start n ≡ changes g start n = same_changes f g start n (λ i h. is i (omega (arith, h))) in
    let step : change (f (start + n)) (f (start + suc n)) ≡ change (g (start + n)) (g (start + suc n)) =
    rw (is n (omega arith), is (suc n) (omega arith)) refl in
    omega (arith, rest, step)

-- a function that is constant before an address changes once more at most than from there on
pub one_more : (f : ℕ → Perm) (p : Perm) (start n at count : ℕ) → ((x : ℕ) → start ≤ x → x < at → f x ≡ p) → start ≤ at → at + count ≡ start + n
    → changes f start n ≤ 1 + changes f at count
one_more f p start n at count is low end =
    ⊎_elim
    (λ less.
    let m : ℕ = at - start - 1 in
    let here : start + suc (at - start - 1) ≡ at = omega (arith, less) in
    let whole : n ≡ at - start - 1 + suc count = omega (arith, less, end) in
    let parts : changes f start (at - start - 1 + suc count)
    ≡ changes f start (at - start - 1) + (change (f (start + (at - start - 1))) (f (start + suc (at - start - 1)))
    + changes f (start + suc (at - start - 1)) count) =
    joined f start (at - start - 1) count in
    let none : changes f start (at - start - 1) ≡ 0 =
    constant_changes f p start (at - start - 1) (λ i h. is (start + i) (omega arith) (omega (arith, h, less))) in
    let rest : changes f (start + suc (at - start - 1)) count ≡ changes f at count = ap (λ x. changes f x count) here in
    let all : changes f start n ≡ changes f start (at - start - 1 + suc count) = ap (changes f start) whole in
    omega (arith, parts, none, rest, all, change_one (f (start + (at - start - 1))) (f (start + suc (at - start - 1)))))
    (λ equal.
    let same : at ≡ start = omega (arith, low, equal) in
    let counts : count ≡ n = omega (arith, same, end) in
    let moved : changes f at count ≡ changes f start n = rw (same, counts) refl in
    omega (arith, moved))
    (cases_lt start at)

-- ---- one TOR entry

nowhere_misses : (x : ℕ) → has_byte nowhere x ≡ false
nowhere_misses x = and_right _ _ (le-ltb x 0 (omega arith))

abbrev step : ℕ → Top → List Top → ℕ → Perm
step bottom top tops x = perm_at (matched_from bottom (top ∷ tops)) x

pub tor_inside : (bottom : ℕ) (top : Top) (tops : List Top) (x : ℕ) → 4 * bottom ≤ x → x < 4 * top.address
    → perm_at (matched_from bottom (top ∷ tops)) x ≡ top.perm
tor_inside bottom top tops x low high =
    let rises : nat_lt bottom top.address ≡ true = lt-ltb _ _ (omega (arith, low, high)) in
    let held : (nat_le (4 * bottom) x && nat_lt x (4 * top.address)) ≡ true = and_from _ _ (le-leb _ _ low) (lt-ltb _ _ high) in
    rw rises (ap (λ t. cond t top.perm (perm_at (matched_from top.address tops) x)) held)

pub tor_outside : (bottom : ℕ) (top : Top) (tops : List Top) (x : ℕ) → (x < 4 * bottom) ⊎ ((4 * top.address ≤ x) ⊎ (top.address ≤ bottom))
    → perm_at (matched_from bottom (top ∷ tops)) x ≡ perm_at (matched_from top.address tops) x
tor_outside bottom top tops x out = go (nat_lt bottom top.address) refl
  where
    rest : Perm
    rest = perm_at (matched_from top.address tops) x

    missed : nat_lt bottom top.address ≡ true → (nat_le (4 * bottom) x && nat_lt x (4 * top.address)) ≡ false
    missed rises =
        ⊎_elim (λ low. and_left _ _ (lt-leb _ _ low))
        (λ other.
        ⊎_elim (λ high. and_right _ _ (le-ltb _ _ high))
        (λ falls. absurd (both_tests rises (le-ltb _ _ falls)))
        other)
        out
      where
        both_tests : nat_lt bottom top.address ≡ true → nat_lt bottom top.address ≡ false → ⊥
        both_tests a b = cc

    go : (t : Bool) → nat_lt bottom top.address ≡ t → perm_at (matched_from bottom (top ∷ tops)) x ≡ perm_at (matched_from top.address tops) x
    go true is = rw is (ap (λ t. cond t top.perm (perm_at (matched_from top.address tops) x)) (missed is))
    go false is = rw is (ap (λ t. cond t NoAccess (perm_at (matched_from top.address tops) x)) (nowhere_misses x))

-- below a chain, and from its end on, nothing matches
pub before_chain : (bits bottom : ℕ) (tops : List Top) (x : ℕ) → AreRising bits bottom tops → x < 4 * bottom → perm_at (matched_from bottom tops) x ≡ NoAccess
before_chain bits bottom [] x rising low = refl
before_chain bits bottom (top ∷ tops) x rising low =
    tor_outside bottom top tops x (inl low) ∙ before_chain bits top.address tops x rising.2 (omega (arith, low, rising.0))

pub behind_chain : (bits least bottom : ℕ) (tops : List Top) (x : ℕ) → AreRising bits least tops → 4 * 2 ^ bits ≤ x + 4
    → perm_at (matched_from bottom tops) x ≡ NoAccess
behind_chain bits least bottom [] x rising high = refl
behind_chain bits least bottom (top ∷ tops) x rising high =
    tor_outside bottom top tops x (inr (inl (omega (arith, rising.1, high)))) ∙ behind_chain bits top.address top.address tops x rising.2 high

-- ---- a chain changes at most once for each TOR entry, from its beginning on
pub chain_changes : (bits bottom : ℕ) (tops : List Top) (start n : ℕ) → AreRising bits bottom tops → 4 * bottom ≤ start
    → changes (perm_at (matched_from bottom tops)) start n ≤ length tops
chain_changes bits bottom [] start n rising low =
    let none : changes (λ x. NoAccess) start n ≡ 0 = constant_changes (λ x. NoAccess) NoAccess start n (λ i h. refl) in
    omega (arith, none)
chain_changes bits bottom (top ∷ tops) start n rising low =
    ⊎_elim
    (λ before.
    ⊎_elim
    (λ short.
    let none : changes (perm_at (matched_from bottom (top ∷ tops))) start n ≡ 0 =
    constant_changes (perm_at (matched_from bottom (top ∷ tops))) top.perm start n
    (λ i h. tor_inside bottom top tops (start + i) (omega (arith, low)) (omega (arith, h, short))) in
    omega (arith, none))
    (λ long.
    let at : ℕ = 4 * top.address in
    let count : ℕ = start + n - 4 * top.address in
    let end : 4 * top.address + (start + n - 4 * top.address) ≡ start + n = omega (arith, long) in
    let more : changes (perm_at (matched_from bottom (top ∷ tops))) start n
    ≤ 1 + changes (perm_at (matched_from bottom (top ∷ tops))) (4 * top.address) (start + n - 4 * top.address) =
    one_more (perm_at (matched_from bottom (top ∷ tops))) top.perm start n (4 * top.address) (start + n - 4 * top.address)
    (λ x a b. tor_inside bottom top tops x (omega (arith, low, a)) b) (omega (arith, before)) end in
    let after : changes (perm_at (matched_from bottom (top ∷ tops))) (4 * top.address) (start + n - 4 * top.address)
    ≡ changes (perm_at (matched_from top.address tops)) (4 * top.address) (start + n - 4 * top.address) =
    same_changes (perm_at (matched_from bottom (top ∷ tops))) (perm_at (matched_from top.address tops)) (4 * top.address) (start + n - 4 * top.address)
    (λ i h. tor_outside bottom top tops (4 * top.address + i) (inr (inl (omega arith)))) in
    omega (arith, more, after, chain_changes bits top.address tops (4 * top.address) (start + n - 4 * top.address) rising.2 (omega arith)))
    (cases_lt (start + n) (4 * top.address)))
    (λ behind.
    let after : changes (perm_at (matched_from bottom (top ∷ tops))) start n ≡ changes (perm_at (matched_from top.address tops)) start n =
    same_changes (perm_at (matched_from bottom (top ∷ tops))) (perm_at (matched_from top.address tops)) start n
    (λ i h. tor_outside bottom top tops (start + i) (inr (inl (omega (arith, behind))))) in
    omega (arith, after, chain_changes bits top.address tops start n rising.2 behind))
    (cases_lt start (4 * top.address))

-- with its beginning, where the chain is none before
pub whole_changes : (bits bottom : ℕ) (tops : List Top) (n : ℕ) → AreRising bits bottom tops
    → change NoAccess (perm_at (matched_from bottom tops) 0) + changes (perm_at (matched_from bottom tops)) 0 n ≤ 1 + length tops
whole_changes bits bottom tops n rising =
    let f : ℕ → Perm = perm_at (matched_from bottom tops) in
    ⊎_elim
    (λ late.
    let none : perm_at (matched_from bottom tops) 0 ≡ NoAccess = before_chain bits bottom tops 0 rising (omega (arith, late)) in
    let same : change NoAccess (perm_at (matched_from bottom tops) 0) ≡ 0 = rw none (change_same NoAccess) in
    ⊎_elim
    (λ short.
    let zero : changes (perm_at (matched_from bottom tops)) 0 n ≡ 0 =
    constant_changes (perm_at (matched_from bottom tops)) NoAccess 0 n (λ i h. before_chain bits bottom tops (0 + i) rising (omega (arith, h, short))) in
    omega (arith, same, zero))
    (λ long.
    let more : changes (perm_at (matched_from bottom tops)) 0 n ≤ 1 + changes (perm_at (matched_from bottom tops)) (4 * bottom) (n - 4 * bottom) =
    one_more (perm_at (matched_from bottom tops)) NoAccess 0 n (4 * bottom) (n - 4 * bottom) (λ x a b. before_chain bits bottom tops x rising b) (omega arith)
    (omega (arith, long)) in
    omega (arith, same, more, chain_changes bits bottom tops (4 * bottom) (n - 4 * bottom) rising (omega arith)))
    (cases_lt n (4 * bottom)))
    (λ early.
    let begun : bottom ≡ 0 = omega (arith, early) in
    omega (arith, change_one NoAccess (perm_at (matched_from bottom tops) 0), chain_changes bits bottom tops 0 n rising (omega (arith, begun))))
    (cases_lt 0 (4 * bottom))
