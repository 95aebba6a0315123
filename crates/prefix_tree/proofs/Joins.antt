-- The block of two halves means what they mean, fits and is canonical.
use Rattle.std.proofs.Common.{◌≡◌, ℕ, suc, ◌+◌, ◌-◌, ◌*◌, ◌^◌, ⊎_elim, Bool, true, false, None, Some, if◌then◌else◌, refl, sym, ap, ◌∙◌, arith, pow-suc}
use Rattle.std.proofs.lemmas.Bool.{cases_lt}
use Rattle.pmp_encoding.specs.declared.perm.Perm.{Perm}
use Rattle.pmp_encoding.specs.Perms.{perm_eq}
use Rattle.prefix_tree.specs.Trees.{PermTree, Uniform, Split, TreeMeansAt, Fits, IsCanonical}
use Rattle.prefix_tree.specs.Joined.{joined_by, joined}
use Rattle.prefix_tree.proofs.SamePerm.{perm_eq-true, perm_eq-same}

-- either the halves are of one permission, or they stay apart and are not both of one
pub data Joins (lower upper : PermTree) : PermTree → Type 0 where
  one : (q : Perm) → lower ≡ Uniform q → upper ≡ Uniform q → Joins lower upper (Uniform q)
  two : ((q : Perm) → lower ≡ Uniform q → upper ≡ Uniform q → ⊥) → Joins lower upper (Split lower upper)

pub joins : (lower upper : PermTree) → Joins lower upper (joined lower upper)
joins (Uniform p) (Uniform q) = go (perm_eq p q) refl
  where
    go : (t : Bool) → perm_eq p q ≡ t → Joins (Uniform p) (Uniform q) (joined_by (if t then Some p else None) (Uniform p) (Uniform q))
    go true is = one p refl (ap Uniform (sym (perm_eq-true p q is)))
    go false is = two (λ r e f. let same : p ≡ q = cc in let yes : perm_eq p q ≡ true = perm_eq-same p q same in cc)
joins (Uniform p) (Split l u) = two (λ r e f. cc)
joins (Split l u) (Uniform q) = two (λ r e f. cc)
joins (Split l u) (Split l' u') = two (λ r e f. cc)

joins_canonical : (lower upper tree : PermTree) → Joins lower upper tree → IsCanonical lower → IsCanonical upper → IsCanonical tree
joins_canonical lower upper (Uniform q) j cl cu = tt
joins_canonical lower upper (Split l u) (two apart) cl cu = (apart, cl, cu)

pub joined_canonical : (lower upper : PermTree) → IsCanonical lower → IsCanonical upper → IsCanonical (joined lower upper)
joined_canonical lower upper cl cu = joins_canonical lower upper (joined lower upper) (joins lower upper) cl cu

joins_fits : (k : ℕ) (lower upper tree : PermTree) → Joins lower upper tree → Fits k lower → Fits k upper → Fits (suc k) tree
joins_fits k lower upper (Uniform q) j fl fu = tt
joins_fits k lower upper (Split l u) (two apart) fl fu = (fl, fu)

pub joined_fits : (h k : ℕ) (lower upper : PermTree) → h ≡ suc k → Fits k lower → Fits k upper → Fits h (joined lower upper)
joined_fits h k lower upper e fl fu = rw e (joins_fits k lower upper (joined lower upper) (joins lower upper) fl fu)

-- a block of one permission means the view where its halves do
pub halves_mean :
    (v : ℕ → Perm) (k first : ℕ) (q : Perm) → TreeMeansAt v k first (Uniform q) → TreeMeansAt v k (first + 2 ^ k) (Uniform q)
    → TreeMeansAt v (suc k) first (Uniform q)
halves_mean v k first q low high i h =
    let double : 2 ^ suc k ≡ 2 ^ k * 2 = pow-suc 2 k in
    ⊎_elim (λ below. low i below) (λ above. let e : first + 2 ^ k + (i - 2 ^ k) ≡ first + i = omega arith in sym (ap v e) ∙ high (i - 2 ^ k) (omega arith))
    (cases_lt i (2 ^ k))

joins_means :
    (v : ℕ → Perm) (k first : ℕ) (lower upper tree : PermTree) → Joins lower upper tree → TreeMeansAt v k first lower → TreeMeansAt v k (first + 2 ^ k) upper
    → TreeMeansAt v (suc k) first tree
joins_means v k first lower upper (Uniform q) (one _ e f) ml mu = halves_mean v k first q (rw e at ml) (rw f at mu)
joins_means v k first lower upper (Split l u) (two apart) ml mu = (ml, mu)

pub joined_means :
    (v : ℕ → Perm) (k first : ℕ) (lower upper : PermTree) → TreeMeansAt v k first lower → TreeMeansAt v k (first + 2 ^ k) upper
    → TreeMeansAt v (suc k) first (joined lower upper)
joined_means v k first lower upper ml mu = joins_means v k first lower upper (joined lower upper) (joins lower upper) ml mu

-- the halves of a block of one permission
pub whole_means :
    (v : ℕ → Perm) (k first : ℕ) (q : Perm) → TreeMeansAt v (suc k) first (Uniform q)
    → TreeMeansAt v k first (Uniform q) × TreeMeansAt v k (first + 2 ^ k) (Uniform q)
whole_means v k first q means =
    let double : 2 ^ suc k ≡ 2 ^ k * 2 = pow-suc 2 k in (
      λ i h. means i (omega arith),
      λ i h. let e : first + 2 ^ k + i ≡ first + (2 ^ k + i) = omega arith in ap v e ∙ means (2 ^ k + i) (omega arith),
    )
