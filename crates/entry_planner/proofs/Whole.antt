-- The entries that are placed in the whole space, in order, are fewest, and the costs are the bound that shows it.
use Rattle.std.proofs.Common.{◌≡◌, ℕ, zero, suc, ◌+◌, ◌^◌, ◌<◌, ◌≤◌, List, [], ◌∷◌, ◌++◌, length, All, Bool, true, false, if◌then◌else◌, IsPermutation, map, reverse}
use Rattle.std.proofs.Common.{refl, sym, ap, subst, ◌∙◌, arith, append_assoc, length-append}
use Rattle.std.specs.List.{AllByRecursion}
use Rattle.std.proofs.Math.Path.{ap₂}
use Rattle.std.proofs.lemmas.List.{append-nil, map-append, reverse-reverse}
use Rattle.std.proofs.lemmas.List.Elements.{All-from_recursion}
use Rattle.std.proofs.lemmas.List.Sorted.{All-permutation, length_permutation}
use Rattle.pmp_encoding.specs.declared.perm.Perm.{Perm}
use Rattle.pmp_encoding.specs.declared.perm.Perm.TheVariants.{NoAccess}
use Rattle.pmp_encoding.specs.declared.region.Entry.{Entry}
use Rattle.pmp_match.specs.Bounds.{IsSoundAt, IsSoundBound, bound_of}
use Rattle.pmp_match.specs.Meaning.{View, Means, IsFewest}
use Rattle.pmp_match.proofs.Meant.{least}
use Rattle.prefix_tree.specs.Counts.{splits}
use Rattle.prefix_tree.specs.Trees.{PermTree, Uniform, Split, TreeMeansAt, TreeMeans}
use Rattle.entry_planner.specs.declared.costs.BlockCost.{BlockCost}
use Rattle.entry_planner.specs.declared.costs.SplitCost.{SplitCost}
use Rattle.entry_planner.specs.Best.{is_best, least_cost}
use Rattle.entry_planner.specs.Costs.{cost, bounds_of}
use Rattle.entry_planner.specs.Choice.{AreChosen}
use Rattle.entry_planner.specs.Order.{AreInOrder}
use Rattle.entry_planner.specs.SplitCosts.{as_block, splits_in}
use Rattle.entry_planner.specs.Plans.{AreSmall, CostsAre, IsMade, Planned, block_cost, cost_in, cost_of, costed, costs_in}
use Rattle.entry_planner.proofs.BestCosts.{cost_is}
use Rattle.entry_planner.proofs.BlockCosts.{least_le_branches, split_as_block}
use Rattle.entry_planner.proofs.Choices.{chosen_placed}
use Rattle.entry_planner.proofs.CostLemmas.{bound_of-bounds_of, costs_sound, least_le}
use Rattle.entry_planner.proofs.Placed.{IsPart, AreParts, All_weaker, placed_within, placed_count, placed_means}
use Rattle.entry_planner.proofs.Placements.{IsPlaced}
use Rattle.entry_planner.proofs.Sets.{has-set_of}
use Rattle.entry_planner.proofs.Sorted.{sizes_rise}

-- ---- the entries

-- the entries are as many as the tree costs, and give each page its permission, in some order
abbrev pub AreListed : PermTree → List Entry → Type 0
AreListed tree entries = (placed : List Entry) × IsPlaced tree placed × IsPermutation placed entries

pub chosen_listed : (tree : PermTree) (entries : List Entry) → AreChosen tree entries → AreListed tree entries
chosen_listed tree entries chosen = (chosen.0, chosen_placed tree 44 0 NoAccess chosen.0 chosen.1, chosen.2)

pub listed_means :
    (view : View) (tree : PermTree) (entries : List Entry) → TreeMeans view tree → AreListed tree entries → AreInOrder entries → Means entries view
listed_means view tree entries means listed order = placed_means view tree listed.0 entries means listed.1 listed.2 (sizes_rise entries order)

pub listed_count : (tree : PermTree) (entries : List Entry) → AreListed tree entries → length entries ≡ cost tree NoAccess
listed_count tree entries listed = length_permutation listed.0 entries listed.2 ∙ placed_count tree 44 0 NoAccess listed.0 listed.1

pub listed_least :
    (view : View) (tree : PermTree) (entries : List Entry) → TreeMeans view tree → AreListed tree entries → (others : List Entry) → Means others view
    → length entries ≤ length others
listed_least view tree entries means listed others same =
    let bound : bound_of (bounds_of tree) NoAccess ≤ length others = least view (bounds_of tree) others (costs_sound view tree 44 0 means) same in
    omega (arith, listed_count tree entries listed, bound_of-bounds_of tree NoAccess)

pub listed_pages : (tree : PermTree) (entries : List Entry) → AreListed tree entries → All (λ e. 12 ≤ e.region.log2) entries
listed_pages tree entries listed =
    let parts : AreParts 0 44 listed.0 = placed_within tree 44 0 NoAccess listed.0 listed.1 in
    All-permutation (λ e. 12 ≤ e.region.log2) listed.0 entries listed.2
    (All-from_recursion (λ e. 12 ≤ e.region.log2) listed.0 (All_weaker (IsPart 0 44) (λ e. 12 ≤ e.region.log2) (λ e h. h.1) listed.0 parts))

-- ---- the numbers fit their types

abbrev IsSmall : BlockCost → Type 0
IsSmall c = c.least + 1 < 2 ^ 32

both_small : (a b : List BlockCost) → AllByRecursion IsSmall a → AllByRecursion IsSmall b → AllByRecursion IsSmall (a ++ b)
both_small [] b h k = k
both_small (c ∷ a) b h k = (h.0, both_small a b h.1 k)

costs_small : (tree : PermTree) → splits tree + 1 < 2 ^ 32 → AllByRecursion IsSmall (costs_in tree)
costs_small (Uniform q) few = tt
costs_small (Split lower upper) few = (
  omega (arith, least_le_branches (Split lower upper)),
  both_small (costs_in lower) (costs_in upper) (costs_small lower (omega arith)) (costs_small upper (omega arith)),
)

pub are_small :
    (tree : PermTree) (entries : List Entry) (costs : List BlockCost) → splits tree + 1 < 2 ^ 32 → AreListed tree entries → costs ≡ costs_in tree
    → AreSmall (record { entries = entries; costs = costs })
are_small tree entries costs few listed are =
    record {
      entries = omega (arith, listed_count tree entries listed, cost_is tree NoAccess, one (is_best tree NoAccess), least_le_branches tree);
      costs = (let P : List BlockCost → Type 0 = λ l. All IsSmall l in subst P (sym are) (All-from_recursion IsSmall (costs_in tree) (costs_small tree few)));
    }
  where
    one : (b : Bool) → (if b then 0 else 1) ≤ 1
    one true = omega arith
    one false = omega arith

-- ---- the costs are a sound bound

pub length-costs_in : (tree : PermTree) → length (costs_in tree) ≡ splits tree
length-costs_in (Uniform q) = refl
length-costs_in (Split lower upper) =
    omega (arith, length-append (costs_in lower) (costs_in upper), length-costs_in lower, length-costs_in upper)

-- what a block costs by its number and its set
pub cost_of-block_cost : (tree : PermTree) (p : Perm) → cost_of (block_cost tree) p ≡ cost tree p
cost_of-block_cost tree p = ap (λ t. least_cost tree + unless t) (has-set_of (is_best tree) p) ∙ sym (cost_is tree p)
  where
    unless : Bool → ℕ
    unless t = if t then 0 else 1

-- the list has the costs of the tree's split blocks from the i-th on
record StandsAt (costs : List BlockCost) (i : ℕ) (tree : PermTree) : Type 0 where
  before : List BlockCost
  after : List BlockCost
  split : costs ≡ before ++ (costs_in tree ++ after)
  place : length before ≡ i

lower_stands : (costs : List BlockCost) (i : ℕ) (lower upper : PermTree) → StandsAt costs i (Split lower upper) → StandsAt costs (i + 1) lower
lower_stands costs i lower upper s =
    let own : BlockCost = block_cost (Split lower upper) in
    record {
      before = s.before ++ own ∷ [];
      after = costs_in upper ++ s.after;
      split =
          s.split
          ∙ ap (λ l. s.before ++ own ∷ l) (append_assoc (costs_in lower) (costs_in upper) s.after)
          ∙ sym (append_assoc s.before (own ∷ []) (costs_in lower ++ (costs_in upper ++ s.after)));
      place = length-append s.before (own ∷ []) ∙ ap (λ n. n + 1) s.place;
    }

upper_stands : (costs : List BlockCost) (i : ℕ) (lower upper : PermTree) → StandsAt costs i (Split lower upper) → StandsAt costs (i + 1 + splits lower) upper
unfolding lower_stands
upper_stands costs i lower upper s =
    let low = lower_stands costs i lower upper s in
    record {
      before = low.before ++ costs_in lower;
      after = s.after;
      split = low.split ∙ sym (append_assoc low.before (costs_in lower) (costs_in upper ++ s.after));
      place = length-append low.before (costs_in lower) ∙ ap₂ (λ m n. m + n) low.place (length-costs_in lower);
    }

cost_in-stands : (costs : List BlockCost) (i : ℕ) (lower upper : PermTree) (p : Perm) → StandsAt costs i (Split lower upper)
    → cost_in costs i p ≡ cost (Split lower upper) p
cost_in-stands costs i lower upper p s =
    ap₂ (λ l n. cost_in l n p) s.split (sym s.place)
    ∙ at s.before (block_cost (Split lower upper)) (costs_in lower ++ costs_in upper ++ s.after)
    ∙ cost_of-block_cost (Split lower upper) p
  where
    at : (before : List BlockCost) (c : BlockCost) (after : List BlockCost) → cost_in (before ++ c ∷ after) (length before) p ≡ cost_of c p
    at [] c after = refl
    at (d ∷ before) c after = at before c after

bound_of-costed : (costs : List BlockCost) (i : ℕ) (tree : PermTree) (p : Perm) → StandsAt costs i tree → bound_of (costed costs i tree) p ≡ cost tree p
bound_of-costed costs i (Uniform q) p s = refl
bound_of-costed costs i (Split lower upper) p s = cost_in-stands costs i lower upper p s

costed_sound :
    (view : View) (costs : List BlockCost) (i : ℕ) (tree : PermTree) (k first : ℕ) → StandsAt costs i tree → TreeMeansAt view k first tree
    → IsSoundAt view k first (costed costs i tree)
costed_sound view costs i (Uniform q) k first s means = means
costed_sound view costs i (Split lower upper) zero first s means = absurd means
costed_sound view costs i (Split lower upper) (suc k) first s means =
    let low = lower_stands costs i lower upper s in
    let high = upper_stands costs i lower upper s in (
      costed_sound view costs (i + 1) lower k first low means.0,
      costed_sound view costs (i + 1 + splits lower) upper k (first + 2 ^ k) high means.1,
      (λ p.
          omega (
            arith,
            cost_in-stands costs i lower upper p s,
            bound_of-costed costs (i + 1) lower p low,
            bound_of-costed costs
                (i + 1 + splits lower) upper p high,
          )),
      (λ p q.
          omega (
            arith,
            cost_in-stands costs i lower upper p s,
            bound_of-costed costs (i + 1) lower q low,
            bound_of-costed costs
                (i + 1 + splits lower) upper q high,
            least_le (λ r. cost lower r + cost upper r) q,
          )),
    )

costs_stand : (costs : List BlockCost) (i : ℕ) (tree : PermTree) → StandsAt costs i tree → CostsAre costs i tree
costs_stand costs i (Uniform q) s = tt
costs_stand costs i (Split lower upper) s = (
  (λ p. cost_in-stands costs i lower upper p s),
  costs_stand costs (i + 1) lower (lower_stands costs i lower upper s),
  costs_stand costs (i + 1 + splits lower) upper (upper_stands costs i lower upper s),
)

whole_stands : (tree : PermTree) (costs : List BlockCost) → costs ≡ costs_in tree → StandsAt costs 0 tree
whole_stands tree costs are = record { before = []; after = []; split = are ∙ sym (append-nil (costs_in tree)); place = refl }

pub whole_costs : (tree : PermTree) (costs : List BlockCost) → costs ≡ costs_in tree → CostsAre costs 0 tree
whole_costs tree costs are = costs_stand costs 0 tree (whole_stands tree costs are)

pub whole_sound : (view : View) (tree : PermTree) (costs : List BlockCost) → TreeMeans view tree → costs ≡ costs_in tree
    → IsSoundAt view 44 0 (costed costs 0 tree)
whole_sound view tree costs means are = costed_sound view costs 0 tree 44 0 (whole_stands tree costs are) means

pub whole_root :
    (tree : PermTree) (entries : List Entry) (costs : List BlockCost) → costs ≡ costs_in tree → AreListed tree entries
    → bound_of (costed costs 0 tree) NoAccess ≡ length entries
whole_root tree entries costs are listed =
    bound_of-costed costs 0 tree NoAccess (whole_stands tree costs are) ∙ sym (listed_count tree entries listed)

-- ---- the plan

as_blocks : (tree : PermTree) → map as_block (splits_in tree) ≡ costs_in tree
as_blocks (Uniform q) = refl
as_blocks (Split lower upper) =
    ap₂ (λ c l. c ∷ l) (split_as_block lower upper)
    (map-append as_block (splits_in lower) (splits_in upper) ∙ ap₂ (λ a b. a ++ b) (as_blocks lower) (as_blocks upper))

pub made :
    (tree : PermTree) (entries : List Entry) (none costs : List SplitCost) → AreChosen tree entries → AreInOrder entries → none ≡ []
    → costs ≡ none ++ reverse (splits_in tree)
    → IsMade tree (record { entries = entries; costs = map as_block (reverse costs) })
made tree entries none costs chosen order empty are = record {
  chosen = chosen;
  order = order;
  costs =
      ap (λ l. map as_block (reverse l)) (are ∙ ap (λ l. l ++ reverse (splits_in tree)) empty)
      ∙ ap (map as_block) (reverse-reverse (splits_in tree))
      ∙ as_blocks tree;
}

pub made_is : (tree : PermTree) (made plan : Planned) → plan ≡ made → IsMade tree made → IsMade tree plan
made_is tree made plan is own = let M : Planned → Type 0 = IsMade tree in subst M (sym is) own

-- what the plan of a tree promises of a view that the tree means
pub record IsPlanOf (view : View) (tree : PermTree) (plan : Planned) : Type 0 where
  pub fewest : IsFewest view plan.entries
  pub pages : All (λ e. 12 ≤ e.region.log2) plan.entries
  pub order : AreInOrder plan.entries
  pub choice : AreChosen tree plan.entries
  pub costs : CostsAre plan.costs 0 tree
  pub branches : length plan.costs ≡ splits tree
  pub bound : IsSoundBound view (costed plan.costs 0 tree)
  pub root : bound_of (costed plan.costs 0 tree) NoAccess ≡ length plan.entries

pub promised : (view : View) (tree shape : PermTree) (plan : Planned) → TreeMeans view tree → shape ≡ tree → IsMade shape plan → IsPlanOf view tree plan
promised view tree shape plan meant same made =
    let M : PermTree → Type 0 = λ t. IsMade t plan in
    let m = subst M same made in
    let listed = chosen_listed tree plan.entries m.chosen in
    record {
      fewest = record { means = listed_means view tree plan.entries meant listed m.order; least = listed_least view tree plan.entries meant listed };
      pages = listed_pages tree plan.entries listed;
      order = m.order;
      choice = m.chosen;
      costs = whole_costs tree plan.costs m.costs;
      branches = ap length m.costs ∙ length-costs_in tree;
      bound = whole_sound view tree plan.costs meant m.costs;
      root = whole_root tree plan.entries plan.costs m.costs listed;
    }
