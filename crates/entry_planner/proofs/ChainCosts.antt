-- The costs of a chain, from its smallest block up.
use Rattle.std.proofs.Common.{◌≡◌, ℕ, zero, suc, ◌+◌, ◌-◌, ◌*◌, ◌^◌, ◌<◌, ◌≤◌, List, [], ◌∷◌, ◌++◌, sym, ap, subst, ◌∙◌, arith, pow-suc, reverse}
use Rattle.prefix_tree.specs.declared.chains.Chain.{Chain}
use Rattle.prefix_tree.specs.Trees.{PermTree, Uniform, Split}
use Rattle.prefix_tree.specs.Chains.{nested, chained}
use Rattle.prefix_tree.proofs.Nested.{nested_lower, nested_upper}
use Rattle.entry_planner.specs.declared.costs.BlockCost.{BlockCost}
use Rattle.entry_planner.specs.declared.costs.SplitCost.{SplitCost}
use Rattle.entry_planner.specs.SplitCosts.{split_cost, splits_in}
use Rattle.entry_planner.specs.Plans.{block_cost}
use Rattle.entry_planner.proofs.BlockCosts.{added_first, added_low}

-- what is known once the blocks of up to 2 ^ level times the smallest one's pages are done: `low` blocks of its size come before it in the largest of them
pub record IsRaised (chain : Chain) (rest level : ℕ) (smallest cost : BlockCost) (costs0 costs : List SplitCost) : Type 0 where
  pub low : ℕ
  pub below : low < 2 ^ level
  pub place : chain.place ≡ rest * 2 ^ level + low
  pub few : cost.least ≤ smallest.least + level
  pub own : (tree : PermTree) → smallest ≡ block_cost tree → cost ≡ block_cost (nested level low chain.before chain.behind tree)
  pub costs_are : (tree : PermTree) (first : List SplitCost) → smallest ≡ block_cost tree → costs0 ≡ first ++ reverse (splits_in tree)
      → costs ≡ first ++ reverse (splits_in (nested level low chain.before chain.behind tree))

pub begun : (chain : Chain) (smallest : BlockCost) (costs : List SplitCost) → IsRaised chain chain.place 0 smallest smallest costs costs
begun chain smallest costs = record {
  low = 0;
  below = omega arith;
  place = omega arith;
  few = omega arith;
  own = λ tree is. is;
  costs_are = λ tree first is all. all;
}

odd_place : (place rest q m n low : ℕ) → n ≡ m * 2 → rest ≡ 2 * q + 1 → place ≡ rest * m + low → place ≡ q * n + (low + m)
odd_place place rest q m n low double half is = is ∙ rw (half, double) (grind arith)

even_place : (place rest q m n low : ℕ) → n ≡ m * 2 → rest ≡ 2 * q → place ≡ rest * m + low → place ≡ q * n + low
even_place place rest q m n low double half is = is ∙ rw (half, double) (grind arith)

-- the smaller block is the upper half of the next
pub raised_upper :
    (chain : Chain) (rest q level : ℕ) (before smallest cost next : BlockCost) (costs0 costs new : List SplitCost)
    → rest ≡ 2 * q + 1 → before ≡ block_cost (Uniform chain.before) → IsRaised chain rest level smallest cost costs0 costs
    → ((l u : PermTree) → before ≡ block_cost l → cost ≡ block_cost u → next ≡ block_cost (Split l u))
    → ((l u : PermTree) → before ≡ block_cost l → cost ≡ block_cost u → new ≡ costs ++ split_cost l u ∷ [])
    → next.least ≤ before.least + cost.least + 1
    → IsRaised chain q (level + 1) smallest next costs0 new
raised_upper chain rest q level before smallest cost next costs0 costs new odd is r own all most =
    let double : 2 ^ suc level ≡ 2 ^ level * 2 = pow-suc 2 level in
    let half : PermTree → PermTree = nested level r.low chain.before chain.behind in
    let back : r.low + 2 ^ level - 2 ^ level ≡ r.low = omega arith in
    let split : (t : PermTree) → nested (suc level) (r.low + 2 ^ level) chain.before chain.behind t ≡ Split (Uniform chain.before) (half t) =
    λ t. nested_upper level (r.low + 2 ^ level) chain.before chain.behind t (omega arith)
    ∙ ap (λ n. Split (Uniform chain.before) (nested level n chain.before chain.behind t)) back in
    let up : suc level ≡ level + 1 = omega arith in
    let R : ℕ → Type 0 = λ n. IsRaised chain q n smallest next costs0 new in
    subst R up
    (record {
      low = r.low + 2 ^ level;
      below = omega (arith, r.below);
      place = odd_place chain.place rest q (2 ^ level) (2 ^ suc level) r.low double odd r.place;
      few = omega (arith, most, r.few, ap (λ c. c.least) is);
      own = λ t e. own (Uniform chain.before) (half t) is (r.own t e) ∙ ap block_cost (sym (split t));
      costs_are =
          λ t first e before_all.
          all (Uniform chain.before) (half t) is (r.own t e)
          ∙ ap (λ l. l ++ split_cost (Uniform chain.before) (half t) ∷ []) (r.costs_are t first e before_all)
          ∙ added_first first (splits_in (half t)) (split_cost (Uniform chain.before) (half t))
          ∙ ap (λ x. first ++ reverse (splits_in x)) (sym (split t));
    })

-- the lower half
pub raised_lower :
    (chain : Chain) (rest q level : ℕ) (behind smallest cost next : BlockCost) (costs0 costs new : List SplitCost)
    → rest ≡ 2 * q → behind ≡ block_cost (Uniform chain.behind) → IsRaised chain rest level smallest cost costs0 costs
    → ((l u : PermTree) → cost ≡ block_cost l → behind ≡ block_cost u → next ≡ block_cost (Split l u))
    → ((l u : PermTree) → cost ≡ block_cost l → behind ≡ block_cost u → new ≡ costs ++ split_cost l u ∷ [])
    → next.least ≤ cost.least + behind.least + 1
    → IsRaised chain q (level + 1) smallest next costs0 new
raised_lower chain rest q level behind smallest cost next costs0 costs new even is r own all most =
    let double : 2 ^ suc level ≡ 2 ^ level * 2 = pow-suc 2 level in
    let half : PermTree → PermTree = nested level r.low chain.before chain.behind in
    let split : (t : PermTree) → nested (suc level) r.low chain.before chain.behind t ≡ Split (half t) (Uniform chain.behind) =
    λ t. nested_lower level r.low chain.before chain.behind t r.below in
    let up : suc level ≡ level + 1 = omega arith in
    let R : ℕ → Type 0 = λ n. IsRaised chain q n smallest next costs0 new in
    subst R up
    (record {
      low = r.low;
      below = omega (arith, r.below);
      place = even_place chain.place rest q (2 ^ level) (2 ^ suc level) r.low double even r.place;
      few = omega (arith, most, r.few, ap (λ c. c.least) is);
      own = λ t e. own (half t) (Uniform chain.behind) (r.own t e) is ∙ ap block_cost (sym (split t));
      costs_are =
          λ t first e before_all.
          all (half t) (Uniform chain.behind) (r.own t e) is
          ∙ ap (λ l. l ++ split_cost (half t) (Uniform chain.behind) ∷ []) (r.costs_are t first e before_all)
          ∙ added_low first (splits_in (half t)) (split_cost (half t) (Uniform chain.behind))
          ∙ ap (λ x. first ++ reverse (splits_in x)) (sym (split t));
    })

none_left : (n m low place : ℕ) → place ≡ n * m + low → place < m → low ≡ place
none_left zero m low place is less = omega (arith, is)
none_left (suc n) m low place is less = absurd (let more : m ≤ suc n * m = grind arith in omega (arith, is, less, more))

-- at the end the smallest block is where it is in the largest
pub raised_whole :
    (chain : Chain) (rest level : ℕ) (smallest cost : BlockCost) (costs0 costs : List SplitCost) → level ≤ chain.levels
    → chain.levels ≤ level → chain.place < 2 ^ chain.levels → (r : IsRaised chain rest level smallest cost costs0 costs)
    → (tree : PermTree) → nested level r.low chain.before chain.behind tree ≡ chained chain tree
raised_whole chain rest level smallest cost costs0 costs within ended inside r tree =
    let top : level ≡ chain.levels = omega arith in
    let less : chain.place < 2 ^ level = omega (arith, inside, ap (λ n. 2 ^ n) top) in
    let there : r.low ≡ chain.place = none_left rest (2 ^ level) r.low chain.place r.place less in
    ap (λ n. nested level n chain.before chain.behind tree) there ∙ ap (λ n. nested n chain.place chain.before chain.behind tree) top
