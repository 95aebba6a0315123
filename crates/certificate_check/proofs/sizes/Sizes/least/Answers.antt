use Rattle.std.proofs.Common.{◌<◌, ◌^◌, arith}
use Rattle.std.proofs.lemmas.Nat.Bits.{bit_at-trailing_zeros}
use Rattle.std.specs.Int.{w64}
use Rattle.certificate_check.proofs.SizeBits.{least_small}
use Rattle.certificate_check.proofs.sizes.Sizes.least.Goals as goal

pub returns-clause-small : goal.returns-clause-small
returns-clause-small c = least_small c.args.self.bits (omega arith) c.requires.few

pub returns-clause-has : goal.returns-clause-has
returns-clause-has c = (bit_at-trailing_zeros w64 c.args.self.bits (omega arith) (let few : c.args.self.bits < 2 ^ 45 = c.requires.few in omega (arith, few))).1
