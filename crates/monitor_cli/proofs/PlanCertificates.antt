-- The certificate of a plan of a view.
use Rattle.std.proofs.Common.{◌≡◌, ◌*◌, ◌≤◌, length, All, arith, refl}
use Rattle.pmp_encoding.specs.declared.limit.Limit.{Limit}
use Rattle.pmp_encoding.specs.declared.perm.Perm.TheVariants.{NoAccess}
use Rattle.pmp_match.specs.Bounds.{IsSoundBound, bound_of}
use Rattle.pmp_match.specs.Meaning.{View, Means}
use Rattle.prefix_tree.specs.Counts.{splits}
use Rattle.prefix_tree.specs.TreeOf.{tree_of}
use Rattle.entry_planner.specs.Plans.{Planned, costed}
use Rattle.plan_certificate.specs.Written.{certificate_for, version_for}
use Rattle.plan_certificate.proofs.Sums.{plan_certified, plan_spelled}
use Rattle.monitor_cli.specs.CertifiedPlan.{IsCertificateOf}

pub certificate_is :
    (view : View) (limit : Limit) (plan : Planned) → length plan.costs ≡ splits (tree_of view) → length plan.costs ≤ 44 * 8192
    → IsSoundBound view (costed plan.costs 0 (tree_of view)) → bound_of (costed plan.costs 0 (tree_of view)) NoAccess ≡ length plan.entries
    → All (λ e. 12 ≤ e.region.log2) plan.entries → Means plan.entries view → IsCertificateOf view limit plan.entries (certificate_for limit plan (tree_of view))
certificate_is view limit plan branches most bound root pages means =
    let tree = costed plan.costs 0 (tree_of view) in
    let few : splits (tree_of view) ≤ 44 * 8192 = omega (arith, branches, most) in
    let spells = plan_spelled view (tree_of view) plan.costs plan.entries (version_for limit) few bound root in
    record {
      tree = tree;
      spells = spells;
      right = record {
        version = version_for limit;
        entries = plan.entries;
        tree = tree;
        certificate = plan_certified view (tree_of view) plan.costs plan.entries _ _ few bound root pages spells;
        sound = bound;
        means = means;
        count = refl;
      };
    }
