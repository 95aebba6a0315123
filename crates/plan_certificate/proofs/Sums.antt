-- The sums of a sound bound are no more than its leaves, so those of a plan have four bytes.
use Rattle.std.proofs.Common.{◌≡◌, ℕ, zero, suc, ◌+◌, ◌*◌, ◌^◌, ◌<◌, ◌≤◌, Bool, true, false, List, [], ◌∷◌, length, All, arith, if◌then◌else◌, refl}
use Rattle.pmp_encoding.specs.declared.perm.Perm.{Perm}
use Rattle.pmp_encoding.specs.declared.perm.Perm.TheVariants.{NoAccess}
use Rattle.pmp_encoding.specs.declared.region.Entry.{Entry}
use Rattle.pmp_encoding.specs.Perms.{perm_eq}
use Rattle.pmp_match.specs.Meaning.{View}
use Rattle.pmp_match.specs.Bounds.{BoundTree, Leaf, Branch, bound_of, IsSoundAt, IsSoundBound}
use Rattle.prefix_tree.specs.Trees.{PermTree, Uniform, Split}
use Rattle.prefix_tree.specs.Counts.{splits}
use Rattle.entry_planner.specs.declared.costs.BlockCost.{BlockCost}
use Rattle.entry_planner.specs.Plans.{costed}
use Rattle.certificate_format.specs.declared.header.Version.{Version}
use Rattle.certificate_format.specs.Spelling.{FitsNode, Spells, AreNoSubPages, HasNoOverflow, IsCertificate}
use Rattle.plan_certificate.specs.Written.{certificate_bytes}
use Rattle.plan_certificate.proofs.Spelled.{certificate_spelled}

leaves_in : BoundTree → ℕ
leaves_in (Leaf q) = 1
leaves_in (Branch bounds lower upper) = leaves_in lower + leaves_in upper

at_most_one : (same : Bool) → (if same then 0 else 1) ≤ 1
at_most_one true = omega arith
at_most_one false = omega arith

bound_most : (view : View) (k first : ℕ) (tree : BoundTree) → IsSoundAt view k first tree → (p : Perm) → bound_of tree p ≤ leaves_in tree
unfolding leaves_in
bound_most view k first (Leaf q) sound p = at_most_one (perm_eq q p)
bound_most view zero first (Branch bounds lower upper) sound p = absurd sound
bound_most view (suc k) first (Branch bounds lower upper) sound p =
    omega (arith, sound.2 p, bound_most view k first lower sound.0 p, bound_most view k (first + 2 ^ k) upper sound.1 p)

sums_fit : (view : View) (k first : ℕ) (tree : BoundTree) → IsSoundAt view k first tree → leaves_in tree + 1 < 2 ^ 32 → HasNoOverflow tree
unfolding leaves_in
sums_fit view k first (Leaf q) sound few = tt
sums_fit view zero first (Branch bounds lower upper) sound few = absurd sound
sums_fit view (suc k) first (Branch bounds lower upper) sound few = (
  (λ p. omega (arith, bound_most view k first lower sound.0 p, bound_most view k (first + 2 ^ k) upper sound.1 p)),
  sums_fit view k first lower sound.0 (omega arith),
  sums_fit view k (first + 2 ^ k) upper sound.1 (omega arith),
)

costs_fit : (view : View) (k first : ℕ) (tree : BoundTree) → IsSoundAt view k first tree → leaves_in tree + 1 < 2 ^ 32 → FitsNode k tree
unfolding leaves_in
costs_fit view k first (Leaf q) sound few = tt
costs_fit view zero first (Branch bounds lower upper) sound few = absurd sound
costs_fit view (suc k) first (Branch bounds lower upper) sound few = (
  (λ p. omega (arith, sound.2 p, bound_most view k first lower sound.0 p, bound_most view k (first + 2 ^ k) upper sound.1 p)),
  costs_fit view k first lower sound.0 (omega arith),
  costs_fit view k (first + 2 ^ k) upper sound.1 (omega arith),
)

leaves_in-costed : (costs : List BlockCost) (i : ℕ) (tree : PermTree) → leaves_in (costed costs i tree) ≡ splits tree + 1
unfolding leaves_in
leaves_in-costed costs i (Uniform q) = refl
leaves_in-costed costs i (Split lower upper) = omega (arith, leaves_in-costed costs (i + 1) lower, leaves_in-costed costs (i + 1 + splits lower) upper)

no_sub_pages : (entries : List Entry) → All (λ e. 12 ≤ e.region.log2) entries → AreNoSubPages entries
no_sub_pages [] all = tt
no_sub_pages (e ∷ entries) all = (all 0 e (omega arith), no_sub_pages entries (λ i d inside. all (suc i) d (omega arith)))

pub plan_certified :
    (view : View) (tree : PermTree) (costs : List BlockCost) (entries : List Entry) (version : Version) (bytes : List ℕ) → splits tree ≤ 44 * 8192
    → IsSoundBound view (costed costs 0 tree) → bound_of (costed costs 0 tree) NoAccess ≡ length entries → All (λ e. 12 ≤ e.region.log2) entries
    → Spells bytes version entries (costed costs 0 tree) → IsCertificate bytes version entries (costed costs 0 tree)
plan_certified view tree costs entries version bytes small sound root pages spells = record {
  spells = spells;
  pages = no_sub_pages entries pages;
  sums = sums_fit view 44 0 (costed costs 0 tree) sound (omega (arith, leaves_in-costed costs 0 tree));
  few = omega arith;
}

-- the certificate of a plan spells it
pub plan_spelled :
    (view : View) (tree : PermTree) (costs : List BlockCost) (entries : List Entry) (version : Version) → splits tree ≤ 44 * 8192
    → IsSoundBound view (costed costs 0 tree) → bound_of (costed costs 0 tree) NoAccess ≡ length entries
    → Spells (certificate_bytes version entries (costed costs 0 tree)) version entries (costed costs 0 tree)
plan_spelled view tree costs entries version small sound root =
    let leaves = leaves_in-costed costs 0 tree in
    let counted : length entries < 2 ^ 32 = omega (arith, root, leaves, bound_most view 44 0 (costed costs 0 tree) sound NoAccess) in
    certificate_spelled version entries (costed costs 0 tree) counted (costs_fit view 44 0 (costed costs 0 tree) sound (omega (arith, leaves)))
