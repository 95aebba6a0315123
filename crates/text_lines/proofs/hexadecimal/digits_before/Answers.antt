use Rattle.std.proofs.Common.{ℕ, bit_and, cond, leb, refl, arith, take, length-take-le, w8}
use Rattle.std.specs.Prelude.{nat_lt}
use Rattle.std.proofs.lemmas.List.Sums.{prefix_len-le-length}
use Rattle.std.proofs.lemmas.Simd.{chunk-fits, length-chunk, splat_is_map, zip2_of_maps, zip2_splat}
use Rattle.text_lines.specs.Numbers.{digit_of}
use lib.Lanes.{chunk}
use Rattle.text_lines.proofs.Hexadecimals.{counted}
use Rattle.text_lines.proofs.hexadecimal.digits_before.Goals as goal

pub returns-clause-digits : goal.returns-clause-digits
returns-clause-digits c =
    let v = chunk 0 16 c.args.text.now in
    let long = length-chunk 0 16 c.args.text.now c.requires in
    let from_zero = zip2_splat {Y = ℕ} _ v 16 48 long in
    let from_a = zip2_of_maps _ _ _ v (zip2_splat {Y = ℕ} _ v 16 32 long) (splat_is_map v 16 97 long) in
    let zero_up = zip2_of_maps (λ a b. cond (leb a b) 255 0) _ _ v (splat_is_map v 16 10 long) from_zero in
    let a_up = zip2_of_maps (λ a b. cond (leb a b) 255 0) _ _ v (splat_is_map v 16 6 long) from_a in
    counted v _ _ _ long (chunk-fits w8 0 16 c.args.text.now c.type_inv.text) (zip2_of_maps bit_and _ _ v zero_up a_up) c.first_set.ensures refl

pub returns-clause-most : goal.returns-clause-most
returns-clause-most c = omega (
  arith,
  returns-clause-digits c,
  prefix_len-le-length (λ b. nat_lt (digit_of b) 16)
      (take 16 c.args.text.now),
  length-take-le 16 c.args.text.now c.requires,
)
