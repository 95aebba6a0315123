use Rattle.std.proofs.Common.{◌≡◌, arith}
use Rattle.std.proofs.lemmas.Nat.Bits.{bit_at-lt, bit_at_and}
use Rattle.std.specs.Int.{bit_at}
use Rattle.sbi_calls.proofs.remote.ipi_outcome.Goals as goal

pub returns-in-Some-clause-there : goal.returns-in-Some-clause-there
returns-in-Some-clause-there c = λ hart set.
    let started = c.args.harts.now.started in
    let word = c.in-Some.listed in
    let listed : bit_at word hart ≡ 1 = omega (arith, set, bit_at_and word started hart, bit_at-lt word hart, bit_at-lt started hart) in
    let named = ((c.in-Some.ensures.named hart).0 listed).0 in
    omega (arith, named, c.number.ensures)
