-- The costs of a tree's split blocks as a list.
use Rattle.std.proofs.Common.{◌≡◌, ℕ, zero, suc, ◌+◌, ◌-◌, ◌^◌, ◌<◌, List, [], ◌∷◌, length, map, All, get_or, reverse, refl, sym, ap, subst, ◌∙◌, arith}
use Rattle.std.proofs.lemmas.List.{length-map, length-reverse, get_or-map, get_or-reverse}
use Rattle.pmp_encoding.specs.declared.perm.Perm.{Perm}
use Rattle.entry_planner.specs.declared.costs.BlockCost.{BlockCost}
use Rattle.entry_planner.specs.declared.costs.SplitCost.{SplitCost}
use Rattle.entry_planner.specs.SplitCosts.{as_block}
use Rattle.entry_planner.specs.Plans.{cost_of, cost_in}

-- the i-th block's cost stands in the list, which is kept with the last first
stands :
    (kept : List SplitCost) (costs : List BlockCost) (i m : ℕ) (c : SplitCost) → map as_block (reverse kept) ≡ costs → m ≡ length costs
    → i < length costs → c ≡ get_or kept (m - 1 - i) c → get_or costs i (as_block c) ≡ as_block c
stands kept costs i m c same count h is =
    let len : length costs ≡ length kept = ap length (sym same) ∙ length-map (reverse kept) as_block ∙ length-reverse kept in
    let inside : i < length kept = omega (arith, len) in
    let within : i < length (reverse kept) = omega (arith, length-reverse kept) in
    ap (λ l. get_or l i (as_block c)) (sym same) ∙ get_or-map as_block (reverse kept) i c (as_block c) within
    ∙ ap as_block (get_or-reverse kept i c inside ∙ ap (λ k. get_or kept (k - 1 - i) c) (sym (count ∙ len)) ∙ sym is)

pub cost_in-is :
    (kept : List SplitCost) (costs : List BlockCost) (i m n : ℕ) (c : SplitCost) (p : Perm) → map as_block (reverse kept) ≡ costs → m ≡ length costs
    → i < length costs → c ≡ get_or kept (m - 1 - i) c → n ≡ cost_of (as_block c) p → n ≡ cost_in costs i p
cost_in-is kept costs i m n c p same count h is under =
    under ∙ ap (λ b. cost_of b p) (sym (stands kept costs i m c same count h is)) ∙ sym (at costs i h)
  where
    at : (costs : List BlockCost) (i : ℕ) → i < length costs → cost_in costs i p ≡ cost_of (get_or costs i (as_block c)) p
    at [] i h = absurd (omega arith)
    at (d ∷ costs) zero h = refl
    at (d ∷ costs) (suc i) h = at costs i (omega arith)

pub least_small :
    (kept : List SplitCost) (costs : List BlockCost) (i m : ℕ) (c : SplitCost) → map as_block (reverse kept) ≡ costs
    → All (λ d. d.least + 1 < 2 ^ 32) costs → m ≡ length costs → i < length costs → c ≡ get_or kept (m - 1 - i) c
    → (as_block c).least + 1 < 2 ^ 32
least_small kept costs i m c same all count h is =
    let P : BlockCost → Type 0 = λ d. d.least + 1 < 2 ^ 32 in
    subst P (stands kept costs i m c same count h is) (all i (as_block c) h)
