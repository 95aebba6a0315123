-- The number and the set of a split block, from those of its halves.
use Rattle.std.proofs.Common.{◌≡◌, ℕ, ◌+◌, ◌^◌, ◌<◌, ◌≤◌, List, [], ◌∷◌, ◌++◌, Bool, true, false, not, ◌==◌, ◌&&◌, ◌||◌, if◌then◌else◌, refl, sym, ap, ◌∙◌}
use Rattle.std.proofs.Common.{arith, bit_and, bit_or, append_assoc, reverse}
use Rattle.std.proofs.Math.Bool.{and_comm, or_comm}
use Rattle.std.proofs.Math.Path.{ap₂, fun_ext}
use Rattle.std.proofs.lemmas.List.{append-nil, reverse-append}
use Rattle.pmp_encoding.specs.declared.perm.Perm.{Perm}
use Rattle.entry_planner.specs.declared.costs.BlockCost.{BlockCost}
use Rattle.entry_planner.specs.declared.costs.SplitCost.{SplitCost}
use Rattle.entry_planner.specs.declared.perm_set.PermSet.{PermSet}
use Rattle.prefix_tree.specs.Trees.{PermTree, Uniform, Split}
use Rattle.prefix_tree.specs.Counts.{splits}
use Rattle.prefix_tree.specs.declared.chains.Chain.{Chain}
use Rattle.prefix_tree.specs.Chains.{chained}
use Rattle.prefix_tree.proofs.Nested.{splits-chained}
use Rattle.entry_planner.specs.Best.{any_of, is_best, least_cost}
use Rattle.entry_planner.specs.PermSets.{set_of}
use Rattle.entry_planner.specs.SplitCosts.{as_block, split_cost, splits_in}
use Rattle.entry_planner.specs.Plans.{block_cost}
use Rattle.entry_planner.proofs.Sets.{bit_and-sets, bit_or-sets, set_of-empty}

-- a split block's cost, from those of its halves, where it is known whether their sets meet
pub split_cost_is :
    (low high : PermTree) (lower upper : BlockCost) (least : ℕ) (both either : PermSet) (none : Bool) → both.bits ≡ bit_and lower.best.bits upper.best.bits
    → either.bits ≡ bit_or lower.best.bits upper.best.bits → none ≡ (both.bits == 0) → least ≡ lower.least + upper.least + (if none then 1 else 0)
    → lower ≡ block_cost low → upper ≡ block_cost high → ◌≡◌ {A = SplitCost} (record { least = least; both = both; either = either }) (split_cost low high)
split_cost_is low high lower upper least both either none p q empty sum l u =
    let a : lower.best.bits ≡ set_of (is_best low) = ap (λ c. c.best.bits) l in
    let b : upper.best.bits ≡ set_of (is_best high) = ap (λ c. c.best.bits) u in
    let met : both.bits ≡ set_of (λ r. is_best low r && is_best high r) = p ∙ ap₂ bit_and a b ∙ bit_and-sets (is_best low) (is_best high) in
    let any : none ≡ not (any_of (λ r. is_best low r && is_best high r)) =
    empty ∙ ap (λ n. n == 0) met ∙ set_of-empty (λ r. is_best low r && is_best high r) in
    let number : least ≡ least_cost (Split low high) =
    omega (arith, sum, ap (λ c. c.least) l, ap (λ c. c.least) u, ap one_where any, turned (any_of (λ r. is_best low r && is_best high r))) in
    let make : ℕ → ℕ → ℕ → SplitCost = λ n x y. record { least = n; both = record { bits = x }; either = record { bits = y } } in
    ap (λ n. make n both.bits either.bits) number
    ∙ ap₂ (make (least_cost (Split low high))) met (q ∙ ap₂ bit_or a b ∙ bit_or-sets (is_best low) (is_best high))
  where
    one_where : Bool → ℕ
    one_where t = if t then 1 else 0

    turned : (t : Bool) → ◌≡◌ {A = ℕ} (if not t then 1 else 0) (if t then 0 else 1)
    turned true = refl
    turned false = refl

-- as a block it costs what the block does
pub split_as_block : (low high : PermTree) → as_block (split_cost low high) ≡ block_cost (Split low high)
split_as_block low high =
    let both : Perm → Bool = λ p. is_best low p && is_best high p in
    let either : Perm → Bool = λ p. is_best low p || is_best high p in
    let make : ℕ → BlockCost = λ n. record { least = least_cost (Split low high); best = record { bits = n } } in
    ap (λ t. make (if t then set_of either else set_of both)) (set_of-empty both) ∙ ap make (picked both either (any_of both))
  where
    picked : (both either : Perm → Bool) (t : Bool) → (if not t then set_of either else set_of both) ≡ set_of (λ p. if t then both p else either p)
    picked both either true = refl
    picked both either false = refl

pub is_split_block : (low high : PermTree) (c : SplitCost) (b : BlockCost) → c ≡ split_cost low high → b ≡ as_block c → b ≡ block_cost (Split low high)
is_split_block low high c b is own = own ∙ ap as_block is ∙ split_as_block low high

pub least_le_branches : (tree : PermTree) → least_cost tree ≤ splits tree
least_le_branches (Uniform q) = omega arith
least_le_branches (Split lower upper) =
    omega (arith, least_le_branches lower, least_le_branches upper, at_most_one (any_of (λ q. is_best lower q && is_best upper q)))
  where
    at_most_one : (b : Bool) → (if b then 0 else 1) ≤ 1
    at_most_one true = omega arith
    at_most_one false = omega arith

-- so the numbers fit their type
pub halves_fit :
    (tree low high : PermTree) (lower upper : BlockCost) → tree ≡ Split low high → splits tree < 2 ^ 20 → lower ≡ block_cost low → upper ≡ block_cost high
    → lower.least + upper.least + 1 < 2 ^ 20
halves_fit tree low high lower upper split fit l u =
    let count : splits tree ≡ 1 + (splits low + splits high) = ap splits split in
    let a : lower.least ≡ least_cost low = ap (λ c. c.least) l in
    let b : upper.least ≡ least_cost high = ap (λ c. c.least) u in
    omega (arith, least_le_branches low, least_le_branches high)

-- lists that begin with the last in preorder: a block comes after those of its halves
pub added_first : {X : Type 0} (old inside : List X) (x : X) → (old ++ reverse inside) ++ x ∷ [] ≡ old ++ reverse (x ∷ inside)
added_first old inside x = append_assoc old (reverse inside) (x ∷ []) ∙ ap (λ l. old ++ l) (sym (reverse-append (x ∷ []) inside))

pub added_low : {X : Type 0} (old low : List X) (x : X) → (old ++ reverse low) ++ x ∷ [] ≡ old ++ reverse (x ∷ (low ++ []))
added_low old low x = added_first old low x ∙ ap (λ l. old ++ reverse (x ∷ l)) (sym (append-nil low))

pub added_both : {X : Type 0} (old low high : List X) (x : X) → ((old ++ reverse high) ++ reverse low) ++ x ∷ [] ≡ old ++ reverse (x ∷ (low ++ high))
added_both old low high x =
    ap (λ l. l ++ x ∷ []) (append_assoc old (reverse high) (reverse low) ∙ ap (λ l. old ++ l) (sym (reverse-append low high)))
    ∙ added_first old (low ++ high) x

-- so for the costs of a split block
pub costs_added :
    (tree low high : PermTree) (old mid items all : List SplitCost) → tree ≡ Split low high → mid ≡ old ++ reverse (splits_in high)
    → items ≡ mid ++ reverse (splits_in low)
    → all ≡ items ++ split_cost low high ∷ [] → all ≡ old ++ reverse (splits_in tree)
costs_added tree low high old mid items all split m i a =
    a
    ∙ ap (λ l. l ++ split_cost low high ∷ []) (i ∙ ap (λ l. l ++ reverse (splits_in low)) m)
    ∙ added_both old (splits_in low) (splits_in high) (split_cost low high)
    ∙ ap (λ t. old ++ reverse (splits_in t)) (sym split)

-- the number of a tree that is not too large fits its type, and one more does
pub least_small : (tree : PermTree) (c : BlockCost) → splits tree + 1 < 2 ^ 32 → c ≡ block_cost tree → c.least + 1 < 2 ^ 32
least_small tree c few is =
    let a : c.least ≡ least_cost tree = ap (λ x. x.least) is in
    omega (arith, least_le_branches tree)

-- that of a chain's smallest block, with one more for each larger one
pub chain_small :
    (shape tree : PermTree) (chain : Chain) (c : BlockCost) → shape ≡ chained chain tree → splits shape < 2 ^ 20 → c ≡ block_cost tree
    → c.least + chain.levels < 2 ^ 20
chain_small shape tree chain c is few own =
    omega (arith, ap (λ x. x.least) own, least_le_branches tree, splits-chained shape tree chain is)

-- a split block and its mirror image cost the same
pub turned_cost : (low high : PermTree) → block_cost (Split low high) ≡ block_cost (Split high low)
turned_cost low high =
    let make : ℕ → (Perm → Bool) → (Perm → Bool) → BlockCost =
    λ together both either.
    record {
      least = together + (if any_of both then 0 else 1);
      best = record { bits = set_of (λ p. if any_of both then both p else either p) };
    } in
    let sum : least_cost low + least_cost high ≡ least_cost high + least_cost low = omega arith in
    ap (λ n. make n (λ p. is_best low p && is_best high p) (λ p. is_best low p || is_best high p)) sum
    ∙ ap₂ (make (least_cost high + least_cost low)) (fun_ext (λ p. and_comm (is_best low p) (is_best high p)))
    (fun_ext (λ p. or_comm (is_best low p) (is_best high p)))

pub turned_split : (low high : PermTree) → split_cost low high ≡ split_cost high low
turned_split low high =
    let make : ℕ → (Perm → Bool) → (Perm → Bool) → SplitCost =
    λ n both either. record { least = n; both = record { bits = set_of both }; either = record { bits = set_of either } } in
    ap (λ c. make c.least (λ p. is_best low p && is_best high p) (λ p. is_best low p || is_best high p)) (turned_cost low high)
    ∙ ap₂ (make (least_cost (Split high low))) (fun_ext (λ p. and_comm (is_best low p) (is_best high p)))
    (fun_ext (λ p. or_comm (is_best low p) (is_best high p)))
