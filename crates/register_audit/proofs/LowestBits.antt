-- The lowest bit of a sort, looked for from a bit on.
use Rattle.std.proofs.Common.{◌≡◌, ◌∙◌, ℕ, suc, ◌+◌, ◌-◌, ◌<◌, ◌≤◌, true, false, cond, Some, None, ap, arith}
use Rattle.register_audit.specs.declared.security_bits.BitSort.{BitSort}
use Rattle.register_audit.specs.SecurityBits.{has_bit, lowest_from}

module _ (sort : BitSort) (value bit : ℕ) where
  one_more : bit < 64 → lowest_from sort value bit (64 - bit) ≡ cond (has_bit sort value bit) (Some bit) (lowest_from sort value (bit + 1) (64 - (bit + 1)))
  one_more inside = let more : 64 - bit ≡ suc (64 - (bit + 1)) = omega (arith, inside) in ap (λ count. lowest_from sort value bit count) more

  pub lowest_here : bit < 64 → has_bit sort value bit ≡ true → lowest_from sort value bit (64 - bit) ≡ Some bit
  lowest_here inside has = one_more inside ∙ ap (λ t. cond t (Some bit) (lowest_from sort value (bit + 1) (64 - (bit + 1)))) has

  pub lowest_above : bit < 64 → has_bit sort value bit ≡ false → lowest_from sort value bit (64 - bit) ≡ lowest_from sort value (bit + 1) (64 - (bit + 1))
  lowest_above inside not' = one_more inside ∙ ap (λ t. cond t (Some bit) (lowest_from sort value (bit + 1) (64 - (bit + 1)))) not'

  pub lowest_none : 64 ≤ bit → lowest_from sort value bit (64 - bit) ≡ None
  lowest_none past = let none : 64 - bit ≡ 0 = omega (arith, past) in ap (λ count. lowest_from sort value bit count) none
