-- The certificate of a plan of a tree that means a view is right for the view.
use Rattle.std.proofs.Common.{◌≡◌, ℕ, zero, suc, ◌+◌, ◌*◌, ◌^◌, ◌≤◌, List, length, All, arith, refl}
use Rattle.pmp_encoding.specs.declared.limit.Limit.{Limit}
use Rattle.pmp_encoding.specs.declared.perm.Perm.{Perm}
use Rattle.pmp_encoding.specs.declared.perm.Perm.TheVariants.{NoAccess}
use Rattle.pmp_encoding.specs.declared.region.Entry.{Entry}
use Rattle.pmp_match.specs.Bounds.{IsSoundAt, IsSoundBound, bound_of}
use Rattle.pmp_match.specs.Meaning.{IsFewest, Needs, View}
use Rattle.prefix_tree.specs.Counts.{splits}
use Rattle.prefix_tree.specs.Trees.{PermTree, Uniform, Split, TreeMeansAt, TreeMeans}
use Rattle.entry_planner.specs.declared.costs.BlockCost.{BlockCost}
use Rattle.entry_planner.specs.Choice.{AreChosen}
use Rattle.entry_planner.specs.Costs.{cost}
use Rattle.entry_planner.specs.Order.{AreInOrder}
use Rattle.entry_planner.specs.Plans.{CostsAre, Planned, costed}
use Rattle.entry_planner.proofs.CostLemmas.{least_le}
use Rattle.entry_planner.proofs.Whole.{chosen_listed, listed_least, listed_means}
use Rattle.certificate_check.specs.Certificates.{IsRight}
use Rattle.plan_certificate.specs.Spelling.{Spells}
use Rattle.plan_certificate.specs.Written.{version_for}
use Rattle.plan_certificate.proofs.Sums.{plan_certified}

bound_is : (costs : List BlockCost) (i : ℕ) (tree : PermTree) (p : Perm) → CostsAre costs i tree → bound_of (costed costs i tree) p ≡ cost tree p
bound_is costs i (Uniform q) p are = refl
bound_is costs i (Split lower upper) p are = are.0 p

-- the costs of a tree are a sound bound of each view that it means
sound_at : (view : View) (costs : List BlockCost) (i : ℕ) (tree : PermTree) (k first : ℕ) → CostsAre costs i tree → TreeMeansAt view k first tree
    → IsSoundAt view k first (costed costs i tree)
sound_at view costs i (Uniform q) k first are means = means
sound_at view costs i (Split lower upper) zero first are means = absurd means
sound_at view costs i (Split lower upper) (suc k) first are means =
    let low : (p : Perm) → bound_of (costed costs (i + 1) lower) p ≡ cost lower p = λ p. bound_is costs (i + 1) lower p are.1 in
    let high : (p : Perm) → bound_of (costed costs (i + 1 + splits lower) upper) p ≡ cost upper p =
    λ p. bound_is costs (i + 1 + splits lower) upper p are.2
    in (
      sound_at view costs (i + 1) lower k first are.1 means.0,
      sound_at view costs (i + 1 + splits lower) upper k (first + 2 ^ k) are.2 means.1,
      (λ p. omega (arith, are.0 p, low p, high p)),
      (λ p q. omega (arith, are.0 p, low q, high q, least_le (λ r. cost lower r + cost upper r) q)),
    )

pub right :
    (view : View) (tree : PermTree) (plan : Planned) (limit : Limit) (bytes : List ℕ) → TreeMeans view tree → splits tree ≤ 44 * 8192
    → AreChosen tree plan.entries → AreInOrder plan.entries → CostsAre plan.costs 0 tree
    → bound_of (costed plan.costs 0 tree) NoAccess ≡ length plan.entries → All (λ e. 12 ≤ e.region.log2) plan.entries
    → Spells bytes (version_for limit) plan.entries (costed plan.costs 0 tree) → IsRight view bytes (length plan.entries)
right view tree plan limit bytes means few chosen order costs root pages spells =
    let sound : IsSoundBound view (costed plan.costs 0 tree) = sound_at view plan.costs 0 tree 44 0 costs means in
    record {
      version = version_for limit;
      entries = plan.entries;
      tree = costed plan.costs 0 tree;
      certificate = plan_certified view tree plan.costs plan.entries (version_for limit) bytes few sound root pages spells;
      sound = sound;
      means = listed_means view tree plan.entries means (chosen_listed tree plan.entries chosen) order;
      count = refl;
    }

pub needs : (view : View) (tree : PermTree) (plan : Planned) → TreeMeans view tree → AreChosen tree plan.entries → AreInOrder plan.entries
    → Needs view (length plan.entries)
needs view tree plan means chosen order =
    let listed = chosen_listed tree plan.entries chosen in
    record {
      entries = plan.entries;
      fewest = record { means = listed_means view tree plan.entries means listed order; least = listed_least view tree plan.entries means listed };
      count = refl;
    }
