-- How large the counts of a tree can be.
use Rattle.std.proofs.Common.{◌≡◌, ℕ, zero, suc, ◌*◌, ◌^◌, ◌<◌, ◌≤◌, Bool, true, false, if◌then◌else◌, arith, pow-suc, pow_pos}
use Rattle.std.specs.Prelude.{◌||◌}
use Rattle.pmp_encoding.specs.declared.perm.Perm.{Perm}
use Rattle.pmp_encoding.specs.declared.perm.Perm.TheVariants.{NoAccess}
use Rattle.pmp_encoding.specs.Perms.{perm_eq}
use Rattle.prefix_tree.specs.Trees.{PermTree, Uniform, Split, Fits}
use Rattle.prefix_tree.specs.Counts.{splits, first_perm, last_perm, starts, starts_inside}

pub Fits-more : (k n : ℕ) (tree : PermTree) → k ≤ n → Fits k tree → Fits n tree
Fits-more k n (Uniform q) le fits = tt
Fits-more zero n (Split lower upper) le fits = absurd fits
Fits-more (suc k) zero (Split lower upper) le fits = absurd (omega arith)
Fits-more (suc k) (suc n) (Split lower upper) le fits = (Fits-more k n lower (omega arith) fits.0, Fits-more k n upper (omega arith) fits.1)

most_one : (t : Bool) → (if t then 0 else 1) ≤ 1
most_one true = omega arith
most_one false = omega arith

pub starts_most : (p q : Perm) → starts p q ≤ 1
starts_most p q = most_one (perm_eq q NoAccess || perm_eq q p)

pub splits-fit : (k : ℕ) (tree : PermTree) → Fits k tree → splits tree < 2 ^ k
splits-fit k (Uniform q) fits = pow_pos k
splits-fit zero (Split lower upper) fits = absurd fits
splits-fit (suc k) (Split lower upper) fits =
    let double : 2 ^ suc k ≡ 2 ^ k * 2 = pow-suc 2 k in omega (arith, splits-fit k lower fits.0, splits-fit k upper fits.1)

pub starts_inside-fit : (k : ℕ) (tree : PermTree) → Fits k tree → starts_inside tree < 2 ^ k
starts_inside-fit k (Uniform q) fits = pow_pos k
starts_inside-fit zero (Split lower upper) fits = absurd fits
starts_inside-fit (suc k) (Split lower upper) fits =
    let double : 2 ^ suc k ≡ 2 ^ k * 2 = pow-suc 2 k in
    omega (arith, starts_inside-fit k lower fits.0, starts_inside-fit k upper fits.1, starts_most (last_perm lower) (first_perm upper))

-- the counts of a half of the space are far below 2 ^ 64
pub splits_small : (tree : PermTree) → Fits 43 tree → splits tree < 2 ^ 43
splits_small tree fits = splits-fit 43 tree fits

pub starts_inside_small : (tree : PermTree) → Fits 43 tree → starts_inside tree < 2 ^ 43
starts_inside_small tree fits = starts_inside-fit 43 tree fits

pub starts_inside_whole : (tree : PermTree) → Fits 44 tree → starts_inside tree < 2 ^ 44
starts_inside_whole tree fits = starts_inside-fit 44 tree fits
