use Rattle.std.proofs.Common.{◌<◌, arith}
use Rattle.std.proofs.lemmas.Nat.Bits.{bit_at_set_other, bit_at_set_same}
use Rattle.std.specs.Int.{w64}
use Rattle.certificate_check.proofs.SizeBits.{few_set}
use Rattle.certificate_check.proofs.sizes.Sizes.insert.Goals as goal

pub returns-clause-few : goal.returns-clause-few
returns-clause-few c = λ few. few_set _ c.args.size c.requires.small few

pub returns-clause-has : goal.returns-clause-has
returns-clause-has c = (let small : c.args.size < 64 = omega (arith, c.requires.small) in bit_at_set_same w64 _ c.args.size small)

pub returns-clause-others : goal.returns-clause-others
returns-clause-others c = λ k differ. (let small : c.args.size < 64 = omega (arith, c.requires.small) in bit_at_set_other w64 _ c.args.size small k differ)
