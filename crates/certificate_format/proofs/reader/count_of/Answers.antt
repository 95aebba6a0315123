-- The four bytes are those of the number that they hold.
use Rattle.std.proofs.Common.{arith}
use Rattle.certificate_format.proofs.Numbers.{u32_front}
use Rattle.certificate_format.proofs.reader.count_of.Goals as goal

pub returns : goal.returns
returns c =
    u32_front
    c.args.bytes.now
    c.split_at.result.0.now
    c.split_at.result.1.now
    c.read_u32.result
    (λ i. omega (arith, c.type_inv.bytes i))
    c.if-bytes-lt4.false
    c.split_at.ensures.front
    c.split_at.ensures.back
    c.read_u32.ensures
