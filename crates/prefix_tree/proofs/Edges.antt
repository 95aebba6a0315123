-- How many blocks are split, by the edges of the runs.
use Rattle.std.proofs.Common.{◌≡◌, ℕ, zero, suc, ◌+◌, ◌*◌, ◌<◌, ◌≤◌, Bool, true, false, if◌then◌else◌, refl, sym, ap, ◌∙◌, arith}
use Rattle.std.specs.Prelude.{◌||◌}
use Rattle.pmp_encoding.specs.declared.perm.Perm.{Perm}
use Rattle.pmp_encoding.specs.declared.perm.Perm.TheVariants.{NoAccess}
use Rattle.pmp_encoding.specs.Perms.{perm_eq}
use Rattle.prefix_tree.specs.Trees.{PermTree, Uniform, Split, Fits, IsCanonical}
use Rattle.prefix_tree.specs.Counts.{splits, leaves, first_perm, last_perm, starts, starts_inside, runs_in}
use Rattle.prefix_tree.proofs.SamePerm.{perm_eq-true, perm_eq-same, not_same}

-- whether two pages one after the other differ
abbrev edge : Perm → Perm → ℕ
edge p q = if perm_eq q p then 0 else 1

-- how many pages of the block differ from the page before them in the block
abbrev edges_inside : PermTree → ℕ
edges_inside (Uniform q) = 0
edges_inside (Split lower upper) = edges_inside lower + (edge (last_perm lower) (first_perm upper) + edges_inside upper)

abbrev some : Perm → ℕ
some q = if perm_eq q NoAccess then 0 else 1

-- an edge starts a run, ends one, or both
step :
    (a b c : Bool) → (a ≡ true → b ≡ false → c ≡ false) → (b ≡ true → a ≡ false → c ≡ false)
    → (if b then 0 else 1) + (if a then 0 else 1) ≤ 2 * (if a || b then 0 else 1) + (if c then 0 else 1)
step true true c one two = omega arith
step true false true one two = let e : true ≡ false = one refl refl in absurd (let no : ⊥ = cc in no)
step true false false one two = omega arith
step false true true one two = let e : true ≡ false = two refl refl in absurd (let no : ⊥ = cc in no)
step false true false one two = omega arith
step false false c one two = omega arith

edge_step : (p q : Perm) → edge p q + some q ≤ 2 * starts p q + some p
edge_step p q = step (perm_eq q NoAccess) (perm_eq q p) (perm_eq p NoAccess) one two
  where
    one : perm_eq q NoAccess ≡ true → perm_eq q p ≡ false → perm_eq p NoAccess ≡ false
    one is other =
        not_same p NoAccess
        (λ e.
        let same : q ≡ p = perm_eq-true q NoAccess is ∙ sym e in
        let yes : perm_eq q p ≡ true = perm_eq-same q p same in
        let no : ⊥ = cc in no)

    two : perm_eq q p ≡ true → perm_eq q NoAccess ≡ false → perm_eq p NoAccess ≡ false
    two is other =
        not_same p NoAccess
        (λ e.
        let same : q ≡ NoAccess = perm_eq-true q p is ∙ e in
        let yes : perm_eq q NoAccess ≡ true = perm_eq-same q NoAccess same in
        let no : ⊥ = cc in no)

edges_start : (p : Perm) (tree : PermTree) → edge p (first_perm tree) + edges_inside tree + some (last_perm tree) ≤ 2 *
    (starts p (first_perm tree) + starts_inside tree) + some p
edges_start p (Uniform q) = omega (arith, edge_step p q)
edges_start p (Split lower upper) = omega (arith, edges_start p lower, edges_start (last_perm lower) upper)

-- a run has two edges at most
pub edges-runs : (tree : PermTree) → edges_inside tree ≤ 2 * runs_in tree
edges-runs tree = omega (arith, edges_start NoAccess tree)

-- a block that is split has an edge inside
has_edge : (tree : PermTree) → IsCanonical tree → 0 < splits tree → 0 < edges_inside tree
has_edge (Uniform p) canonical some = absurd (omega arith)
has_edge (Split (Uniform p) (Uniform q)) canonical some =
    let apart : perm_eq q p ≡ false = not_same q p (λ e. canonical.0 p refl (ap Uniform e)) in
    let one : edge p q ≡ 1 = ap (λ t. if t then 0 else 1) apart in
    omega arith
has_edge (Split (Split l u) upper) canonical some = omega (arith, has_edge (Split l u) canonical.1 (omega arith))
has_edge (Split (Uniform p) (Split l u)) canonical some = omega (arith, has_edge (Split l u) canonical.2 (omega arith))

product : (k el e eu sl su : ℕ) → sl ≤ k * el → su ≤ k * eu → 0 < el + (e + eu) → 1 + (sl + su) ≤ suc k * (el + (e + eu))
product k el e eu sl su low high some = grind arith

pub splits-edges : (k : ℕ) (tree : PermTree) → Fits k tree → IsCanonical tree → splits tree ≤ k * edges_inside tree
splits-edges k (Uniform q) fits canonical = omega arith
splits-edges zero (Split lower upper) fits canonical = absurd fits
splits-edges (suc k) (Split lower upper) fits canonical =
    product k (edges_inside lower) (edge (last_perm lower) (first_perm upper)) (edges_inside upper) (splits lower) (splits upper)
    (splits-edges k lower fits.0 canonical.1) (splits-edges k upper fits.1 canonical.2) (has_edge (Split lower upper) canonical (omega arith))

pub splits_most : (tree : PermTree) → Fits 44 tree → IsCanonical tree → runs_in tree ≤ 4096 → splits tree ≤ 44 * 8192
splits_most tree fits canonical few = omega (arith, splits-edges 44 tree fits canonical, edges-runs tree)

pub leaves_splits : (tree : PermTree) → leaves tree ≡ splits tree + 1
leaves_splits (Uniform q) = refl
leaves_splits (Split lower upper) = omega (arith, leaves_splits lower, leaves_splits upper)
