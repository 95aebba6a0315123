-- A block with some of its pages overwritten.
use Rattle.std.proofs.Common.{◌≡◌, ℕ, suc, ◌+◌, ◌^◌, ◌≤◌, ◌⊎◌, ⊎_elim, false, cond, sym, ap, arith}
use Rattle.std.proofs.lemmas.Bool.{cases_lt, le-ltb, lt-leb, and_left, and_right}
use Rattle.pmp_encoding.specs.declared.perm.Perm.{Perm}
use Rattle.permission_map.specs.Runs.{in_range}
use Rattle.permission_map.specs.Views.{overwritten}
use Rattle.prefix_tree.specs.Trees.{PermTree, Uniform, Split, TreeMeansAt, Fits, IsCanonical}
use Rattle.prefix_tree.specs.Joined.{joined, lower_half, upper_half}
use Rattle.prefix_tree.proofs.Meant.{means_along}
use Rattle.prefix_tree.proofs.Joins.{joined_means, whole_means}

pub lower_fits : (h k : ℕ) (tree : PermTree) → h ≡ suc k → Fits h tree → Fits k (lower_half tree)
lower_fits h k (Uniform q) e fits = tt
lower_fits h k (Split lower upper) e fits = let fits' = rw e at fits in fits'.0

pub upper_fits : (h k : ℕ) (tree : PermTree) → h ≡ suc k → Fits h tree → Fits k (upper_half tree)
upper_fits h k (Uniform q) e fits = tt
upper_fits h k (Split lower upper) e fits = let fits' = rw e at fits in fits'.1

pub lower_canonical : (tree : PermTree) → IsCanonical tree → IsCanonical (lower_half tree)
lower_canonical (Uniform q) canonical = tt
lower_canonical (Split lower upper) canonical = canonical.1

pub upper_canonical : (tree : PermTree) → IsCanonical tree → IsCanonical (upper_half tree)
upper_canonical (Uniform q) canonical = tt
upper_canonical (Split lower upper) canonical = canonical.2

halves_means :
    (v : ℕ → Perm) (k first : ℕ) (tree : PermTree) → TreeMeansAt v (suc k) first tree
    → TreeMeansAt v k first (lower_half tree) × TreeMeansAt v k (first + 2 ^ k) (upper_half tree)
halves_means v k first (Uniform q) means = whole_means v k first q means
halves_means v k first (Split lower upper) means = means

-- both halves overwritten, and put together
pub overwritten_means :
    (v w : ℕ → Perm) (h k first : ℕ) (tree lower upper : PermTree) → h ≡ suc k → TreeMeansAt v h first tree
    → (TreeMeansAt v k first (lower_half tree) → TreeMeansAt w k first lower)
    → (TreeMeansAt v k (first + 2 ^ k) (upper_half tree) → TreeMeansAt w k (first + 2 ^ k) upper) → TreeMeansAt w h first (joined lower upper)
overwritten_means v w h k first tree lower upper e means low high =
    let halves = halves_means v k first tree (rw e at means) in
    rw e (joined_means w k first lower upper (low halves.0) (high halves.1))

-- a block apart from the range stays as it was
pub apart_means :
    (v : ℕ → Perm) (k first from count : ℕ) (perm : Perm) (tree : PermTree)
    → (count ≡ 0) ⊎ ((from + count ≤ first) ⊎ (first + 2 ^ k ≤ from))
    → TreeMeansAt v k first tree → TreeMeansAt (overwritten v from count perm) k first tree
apart_means v k first from count perm tree apart means =
    means_along v (overwritten v from count perm) k first tree
    (λ i h.
    let out : in_range from count (first + i) ≡ false =
    ⊎_elim (λ none. ⊎_elim (λ before. and_left _ _ (lt-leb from (first + i) before)) (λ behind. and_right _ _ (le-ltb (first + i) (from + count) (omega arith)))
    (cases_lt (first + i) from))
    (λ outside.
    ⊎_elim (λ below. and_right _ _ (le-ltb (first + i) (from + count) (omega arith))) (λ above. and_left _ _ (lt-leb from (first + i) (omega arith))) outside)
    apart in
    sym (ap (λ t. cond t perm (v (first + i))) out))
    means

-- an empty range changes nothing
pub overwritten_none : (v : ℕ → Perm) (from count : ℕ) (perm : Perm) (page : ℕ) → count ≡ 0 → overwritten v from count perm page ≡ v page
overwritten_none v from count perm page none =
    let out : in_range from count page ≡ false =
    ⊎_elim (λ before. and_left _ _ (lt-leb from page before)) (λ behind. and_right _ _ (le-ltb page (from + count) (omega arith))) (cases_lt page from) in
    ap (λ t. cond t perm (v page)) out
