-- Powers of two and slices, as the code has them.
use Rattle.std.proofs.Common.{◌≡◌, ℕ, zero, suc, ◌+◌, ◌-◌, ◌^◌, ◌<◌, List, take, drop, length, arith}
use Rattle.std.proofs.lemmas.Grind.{common_steps}

pub halves : (k : ℕ) → 0 < k → 2 ^ k ≡ 2 ^ (k - 1) + 2 ^ (k - 1)
halves zero h = omega arith
halves (suc k) h = grind arith

-- `&runs[i..]`
pub rest_from : {X : Type 0} (i : ℕ) (xs : List X) → take (length xs - i) (drop i xs) ≡ drop i xs
rest_from i xs = grind (arith, common_steps)
