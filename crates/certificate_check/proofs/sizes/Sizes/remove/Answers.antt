use Rattle.std.proofs.Common.{◌<◌, arith}
use Rattle.std.proofs.lemmas.Nat.Bits.{bit_at_clear_other, bit_at_clear_same}
use Rattle.std.specs.Int.{w64}
use Rattle.certificate_check.proofs.SizeBits.{less_without}
use Rattle.certificate_check.proofs.sizes.Sizes.remove.Goals as goal

pub returns-clause-fewer : goal.returns-clause-fewer
returns-clause-fewer c = (let small : c.args.size < 64 = omega (arith, c.requires.small) in less_without _ _ c.args.size
    (bit_at_clear_same w64 _ c.args.size small) c.requires.has)

pub returns-clause-lacks : goal.returns-clause-lacks
returns-clause-lacks c = (let small : c.args.size < 64 = omega (arith, c.requires.small) in bit_at_clear_same w64 _ c.args.size small)

pub returns-clause-others : goal.returns-clause-others
returns-clause-others c = λ k less differ. (let small : c.args.size < 64 = omega (arith, c.requires.small) in let under : k < 64 = omega
    (arith, less) in bit_at_clear_other w64 _ c.args.size small k under differ)
