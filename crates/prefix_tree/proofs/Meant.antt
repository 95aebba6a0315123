-- What a tree means, and that a view has one canonical tree.
use Rattle.std.proofs.Common.{◌≡◌, ◌≢◌, ℕ, zero, suc, ◌+◌, ◌-◌, ◌*◌, ◌^◌, ◌<◌, ⊎_elim, cond, refl, sym, ap, ◌∙◌, arith, pow-suc, pow_pos}
use Rattle.std.proofs.lemmas.Bool.{cases_lt, lt-ltb, le-ltb}
use Rattle.pmp_encoding.specs.declared.perm.Perm.{Perm}
use Rattle.prefix_tree.specs.Trees.{PermTree, Uniform, Split, TreeMeansAt, TreeMeans, perm_in, view_of_tree, Fits, IsCanonical, SplitsOnlyMixedAt}

-- ---- two views that agree over a block

pub means_along :
    (v w : ℕ → Perm) (k first : ℕ) (tree : PermTree) → ((i : ℕ) → i < 2 ^ k → v (first + i) ≡ w (first + i)) → TreeMeansAt v k first tree
    → TreeMeansAt w k first tree
means_along v w k first (Uniform q) same means = λ i h. sym (same i h) ∙ means i h
means_along v w zero first (Split lower upper) same means = absurd means
means_along v w (suc k) first (Split lower upper) same means =
    let double : 2 ^ suc k ≡ 2 ^ k * 2 = pow-suc 2 k in (
      means_along v w k first lower (λ i h. same i (omega arith)) means.0,
      means_along v w k (first + 2 ^ k) upper (λ i h. upper_same i (omega arith)) means.1,
    )
  where
    upper_same : (i : ℕ) → 2 ^ k + i < 2 ^ suc k → v (first + 2 ^ k + i) ≡ w (first + 2 ^ k + i)
    upper_same i h =
        let e : first + (2 ^ k + i) ≡ first + 2 ^ k + i = omega arith in
        sym (ap v e) ∙ same (2 ^ k + i) h ∙ ap w e

-- ---- the view of a tree

pub perm_in-means :
    (v : ℕ → Perm) (k first : ℕ) (tree : PermTree) → TreeMeansAt v k first tree → (i : ℕ) → i < 2 ^ k → perm_in tree k i ≡ v (first + i)
perm_in-means v k first (Uniform q) means i h = sym (means i h)
perm_in-means v zero first (Split lower upper) means i h = absurd means
perm_in-means v (suc k) first (Split lower upper) means i h =
    let double : 2 ^ suc k ≡ 2 ^ k * 2 = pow-suc 2 k in
    ⊎_elim
    (λ below. ap (λ t. cond t (perm_in lower k i) (perm_in upper k (i - 2 ^ k))) (lt-ltb i (2 ^ k) below) ∙ perm_in-means v k first lower means.0 i below)
    (λ above.
    let e : first + 2 ^ k + (i - 2 ^ k) ≡ first + i = omega arith in
    ap (λ t. cond t (perm_in lower k i) (perm_in upper k (i - 2 ^ k))) (le-ltb i (2 ^ k) above)
    ∙ perm_in-means v k (first + 2 ^ k) upper means.1 (i - 2 ^ k) (omega arith)
    ∙ ap v e)
    (cases_lt i (2 ^ k))

pub means_perm_in :
    (v : ℕ → Perm) (k first : ℕ) (tree : PermTree) → Fits k tree → ((i : ℕ) → i < 2 ^ k → v (first + i) ≡ perm_in tree k i) → TreeMeansAt v k first tree
means_perm_in v k first (Uniform q) fits is = is
means_perm_in v zero first (Split lower upper) fits is = absurd fits
means_perm_in v (suc k) first (Split lower upper) fits is =
    let double : 2 ^ suc k ≡ 2 ^ k * 2 = pow-suc 2 k in (
      means_perm_in v k first lower fits.0
          (λ i h. is i (omega arith) ∙ ap (λ t. cond t (perm_in lower k i) (perm_in upper k (i - 2 ^ k))) (lt-ltb i (2 ^ k) h)),
      means_perm_in v k (first + 2 ^ k) upper fits.1
          (λ i h.
          let e : first + 2 ^ k + i ≡ first + (2 ^ k + i) = omega arith in
          let back : 2 ^ k + i - 2 ^ k ≡ i = omega arith in
          ap v e
          ∙ is (2 ^ k + i) (omega arith)
          ∙ ap (λ t. cond t (perm_in lower k (2 ^ k + i)) (perm_in upper k (2 ^ k + i - 2 ^ k))) (le-ltb (2 ^ k + i) (2 ^ k) (omega arith))
          ∙ ap (perm_in upper k) back),
    )

pub means_fits : (v : ℕ → Perm) (k first : ℕ) (tree : PermTree) → TreeMeansAt v k first tree → Fits k tree
means_fits v k first (Uniform q) means = tt
means_fits v zero first (Split lower upper) means = absurd means
means_fits v (suc k) first (Split lower upper) means = (means_fits v k first lower means.0, means_fits v k (first + 2 ^ k) upper means.1)

-- ---- one canonical tree

pub uniform_means :
    (v : ℕ → Perm) (q : Perm) (k first : ℕ) (tree : PermTree) → IsCanonical tree → TreeMeansAt v k first tree
    → ((i : ℕ) → i < 2 ^ k → v (first + i) ≡ q) → tree ≡ Uniform q
uniform_means v q k first (Uniform p) canonical means same = ap Uniform (sym (means 0 (pow_pos k)) ∙ same 0 (pow_pos k))
uniform_means v q zero first (Split lower upper) canonical means same = absurd means
uniform_means v q (suc k) first (Split lower upper) canonical means same =
    let double : 2 ^ suc k ≡ 2 ^ k * 2 = pow-suc 2 k in
    absurd
    (canonical.0 q (uniform_means v q k first lower canonical.1 means.0 (λ i h. same i (omega arith)))
    (uniform_means v q k (first + 2 ^ k) upper canonical.2 means.1
    (λ i h. let e : first + 2 ^ k + i ≡ first + (2 ^ k + i) = omega arith in ap v e ∙ same (2 ^ k + i) (omega arith))))

pub one_canonical :
    (v : ℕ → Perm) (k first : ℕ) (s t : PermTree) → IsCanonical s → IsCanonical t → TreeMeansAt v k first s → TreeMeansAt v k first t → s ≡ t
one_canonical v k first (Uniform q) t cs ct ms mt = sym (uniform_means v q k first t ct mt ms)
one_canonical v k first (Split lower upper) (Uniform q) cs ct ms mt = uniform_means v q k first (Split lower upper) cs ms mt
one_canonical v zero first (Split lower upper) (Split lower' upper') cs ct ms mt = absurd ms
one_canonical v (suc k) first (Split lower upper) (Split lower' upper') cs ct ms mt =
    let low : lower ≡ lower' = one_canonical v k first lower lower' cs.1 ct.1 ms.0 mt.0 in
    let high : upper ≡ upper' = one_canonical v k (first + 2 ^ k) upper upper' cs.2 ct.2 ms.1 mt.1 in
    cc

-- ---- a canonical tree splits only blocks of two permissions

-- two pages of the block of different permissions
abbrev pub HasTwo : (ℕ → Perm) → ℕ → ℕ → Type 0
HasTwo v k first = (i : ℕ) × (j : ℕ) × (i < 2 ^ k) × (j < 2 ^ k) × (v (first + i) ≢ v (first + j))

two_below : (v : ℕ → Perm) (k first : ℕ) → HasTwo v k first → HasTwo v (suc k) first
two_below v k first two = let double : 2 ^ suc k ≡ 2 ^ k * 2 = pow-suc 2 k in (two.0, two.1, omega arith, omega arith, two.4)

two_above : (v : ℕ → Perm) (k first : ℕ) → HasTwo v k (first + 2 ^ k) → HasTwo v (suc k) first
two_above v k first two =
    let double : 2 ^ suc k ≡ 2 ^ k * 2 = pow-suc 2 k in
    let i = two.0 in
    let j = two.1 in
    let e : first + 2 ^ k + two.0 ≡ first + (2 ^ k + two.0) = omega arith in
    let f : first + 2 ^ k + two.1 ≡ first + (2 ^ k + two.1) = omega arith in
    (2 ^ k + i, 2 ^ k + j, omega arith, omega arith, λ same. two.4 (ap v e ∙ same ∙ sym (ap v f)))

has_two : (v : ℕ → Perm) (k first : ℕ) (lower upper : PermTree) → IsCanonical (Split lower upper) → TreeMeansAt v (suc k) first (Split lower upper)
    → HasTwo v (suc k) first
has_two v k first (Uniform p) (Uniform q) canonical means =
    let double : 2 ^ suc k ≡ 2 ^ k * 2 = pow-suc 2 k in
    let pos : 0 < 2 ^ k = pow_pos k in
    let e : first + 2 ^ k ≡ first + 2 ^ k + 0 = omega arith in
    (0, 2 ^ k, omega arith, omega arith, λ same. canonical.0 q (ap Uniform (sym (means.0 0 pos) ∙ same ∙ ap v e ∙ means.1 0 pos)) refl)
has_two v zero first (Split l u) upper canonical means = absurd means.0
has_two v (suc k) first (Split l u) upper canonical means = two_below v (suc k) first (has_two v k first l u canonical.1 means.0)
has_two v zero first (Uniform p) (Split l u) canonical means = absurd means.1
has_two v (suc k) first (Uniform p) (Split l u) canonical means = two_above v (suc k) first (has_two v k (first + 2 ^ suc k) l u canonical.2 means.1)

pub splits_mixed : (v : ℕ → Perm) (k first : ℕ) (tree : PermTree) → IsCanonical tree → TreeMeansAt v k first tree → SplitsOnlyMixedAt v k first tree
splits_mixed v k first (Uniform q) canonical means = tt
splits_mixed v zero first (Split lower upper) canonical means = absurd means
splits_mixed v (suc k) first (Split lower upper) canonical means = (
  has_two v k first lower upper canonical means,
  splits_mixed v k first lower canonical.1 means.0,
  splits_mixed v k
      (first + 2 ^ k) upper canonical.2 means.1,
)

-- a tree means its own view
pub own_means : (tree : PermTree) → Fits 44 tree → TreeMeans (view_of_tree tree) tree
own_means tree fits = means_perm_in (perm_in tree 44) 44 0 tree fits (λ i h. let e : 0 + i ≡ i = omega arith in ap (perm_in tree 44) e)
