-- The pages of a block, and of its halves.
use Rattle.std.proofs.Common.{◌≡◌, ℕ, suc, ◌+◌, ◌*◌, ◌%◌, ◌^◌, ◌≤◌, ap, ◌∙◌, arith, pow-suc}
use Rattle.std.proofs.Math.Nat.{mul-mod_right}
use Rattle.pmp_encoding.specs.Block.{IsBlock}
use Rattle.pmp_encoding.proofs.Multiples.{power_order}
use Rattle.pmp_match.proofs.Blocks.{pages_bytes}
use Rattle.entry_planner.specs.Placement.{ArePages}

pub pages_block : (k first : ℕ) → ArePages k first → IsBlock (first * 4096) (k + 12)
pages_block k first pages =
    let size : 2 ^ (k + 12) ≡ 2 ^ k * 4096 = pages_bytes k in
    let fits : k ≤ 44 = power_order k 44 (let inside = pages.inside in omega arith) in
    let product : first * 4096 ≡ 2 ^ (k + 12) * pages.place = omega (arith, pages.aligned, ap (λ s. s * pages.place) size) in
    record {
      long = omega arith;
      short = omega arith;
      aligned = ap (λ n. n % 2 ^ (k + 12)) product ∙ mul-mod_right (2 ^ (k + 12)) pages.place;
      inside = (let inside = pages.inside in omega arith);
    }

pub lower_pages : (k first : ℕ) → ArePages (suc k) first → ArePages k first
lower_pages k first pages =
    let double : 2 ^ suc k ≡ 2 ^ k * 2 = pow-suc 2 k in
    record {
      place = 2 * pages.place;
      aligned = omega (arith, pages.aligned, ap (λ x. pages.place * x) double);
      inside = (let inside = pages.inside in omega arith);
    }

pub upper_pages : (k first : ℕ) → ArePages (suc k) first → ArePages k (first + 2 ^ k)
upper_pages k first pages =
    let double : 2 ^ suc k ≡ 2 ^ k * 2 = pow-suc 2 k in
    record {
      place = 2 * pages.place + 1;
      aligned = omega (arith, pages.aligned, ap (λ x. pages.place * x) double);
      inside = (let inside = pages.inside in omega arith);
    }

-- no block of pages is larger than the space
pub pages_small : (k first : ℕ) → ArePages k first → k ≤ 44
pages_small k first pages = power_order k 44 (let inside = pages.inside in omega arith)
