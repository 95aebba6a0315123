use Rattle.std.proofs.Common.{ℕ, bit_and, cond, ltb, refl, w8}
use Rattle.std.proofs.lemmas.Simd.{chunk-fits, length-chunk, splat_is_map, zip2_of_maps, zip2_splat}
use lib.Lanes.{chunk}
use Rattle.text_lines.proofs.Hexadecimals.{nibbles_are, selected}
use Rattle.text_lines.proofs.hexadecimal.nibbles.Goals as goal

pub returns : goal.returns
returns c =
    let v = chunk 0 16 c.args.text.now in
    let long = length-chunk 0 16 c.args.text.now c.requires in
    let from_a = zip2_of_maps _ _ _ v (zip2_splat {Y = ℕ} _ v 16 32 long) (splat_is_map v 16 97 long) in
    let is_letter = zip2_of_maps (λ a b. cond (ltb a b) 255 0) _ _ v from_a (splat_is_map v 16 6 long) in
    let nine = selected v _ _ 16 9 0 long is_letter in
    nibbles_are v _ _ (chunk-fits w8 0 16 c.args.text.now c.type_inv.text) (zip2_of_maps _ _ _ v (zip2_splat {Y = ℕ} bit_and v 16 15 long) nine) refl
