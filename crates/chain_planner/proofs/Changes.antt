-- The changes of a function from addresses to permissions.
use Rattle.std.proofs.Common.{◌≡◌, ℕ, zero, suc, ◌+◌, ◌≤◌, Bool, true, false, refl, ap, ◌∙◌, arith, add-zero, if◌then◌else◌}
use Rattle.pmp_encoding.specs.declared.perm.Perm.{Perm}
use Rattle.pmp_encoding.specs.Perms.{perm_eq}
use Rattle.entry_planner.proofs.SamePerm.{perm_eq-true, perm_eq-same}
use Rattle.chain_planner.specs.ChainCosts.{change}
use Rattle.chain_planner.specs.Painted.{changes}

pub change_same : (p : Perm) → change p p ≡ 0
change_same p = rw (perm_eq-same p) refl

pub change_one : (p q : Perm) → change p q ≤ 1
change_one p q = go (perm_eq p q)
  where
    go : (t : Bool) → (if t then 0 else 1) ≤ 1
    go true = omega arith
    go false = omega arith

pub triangle : (p q r : Perm) → change p r ≤ change p q + change q r
triangle p q r = go (perm_eq p q) refl
  where
    go : (t : Bool) → perm_eq p q ≡ t → change p r ≤ change p q + change q r
    go true is = let same : p ≡ q = perm_eq-true p q is in omega (arith, ap (λ x. change x r) same)
    go false is = let one : change p q ≡ 1 = rw is refl in omega (arith, one, change_one p r)

pub ends_le : (f : ℕ → Perm) (start n : ℕ) → change (f start) (f (start + n)) ≤ changes f start n
ends_le f start zero =
    let here : change (f start) (f (start + 0)) ≡ change (f start) (f start) = ap (λ x. change (f start) (f x)) (add-zero start) in
    omega (arith, here, change_same (f start))
ends_le f start (suc n) = omega (arith, ends_le f start n, triangle (f start) (f (start + n)) (f (start + suc n)))

-- one step more
pub next_step : (f : ℕ → Perm) (start n : ℕ) → changes f start (suc n) ≡ changes f start n + change (f (start + n)) (f (start + suc n))
next_step f start n = refl

sum_up : (all rest here before middle after last : ℕ) → all ≡ rest + here → rest ≡ before + (middle + after) → here ≡ last
    → all ≡ before + (middle + (after + last))
sum_up all rest here before middle after last a b c = omega (arith, a, b, c)

-- the changes on two stretches that follow each other, and between them
pub joined : (f : ℕ → Perm) (start m n : ℕ)
    → changes f start (m + suc n) ≡ changes f start m + (change (f (start + m)) (f (start + suc m)) + changes f (start + suc m) n)
joined f start m zero =
    let end : m + 1 ≡ suc m = omega arith in
    ap (λ k. changes f start k) end ∙ omega arith
joined f start m (suc n) =
    let before : start + suc m + n ≡ start + (m + suc n) = omega arith in
    let here : start + suc m + suc n ≡ start + suc (m + suc n) = omega arith in
    let end : m + suc (suc n) ≡ suc (m + suc n) = omega arith in
    let step : change (f (start + (m + suc n))) (f (start + suc (m + suc n))) ≡ change (f (start + suc m + n)) (f (start + suc m + suc n)) =
    rw (before, here) refl in
    sum_up (changes f start (m + suc (suc n))) (changes f start (m + suc n)) (change (f (start + (m + suc n))) (f (start + suc (m + suc n))))
    (changes f start m)
    (change (f (start + m)) (f (start + suc m)))
    (changes f (start + suc m) n)
    (change (f (start + suc m + n)) (f (start + suc m + suc n)))
    (ap (λ k. changes f start k) end ∙ next_step f start (m + suc n))
    (joined f start m n)
    step
