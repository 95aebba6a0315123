-- The pair is the canonical one, which means the entry.
use Rattle.std.proofs.Common.{◌≡◌, ◌+◌, ◌-◌, ◌/◌, ◌*◌, ◌^◌, ◌≤◌, arith}
use Rattle.std.proofs.lemmas.Bool.{eq-eqb, ne_eqb}
use Rattle.pmp_encoding.specs.Encoding.{cfg_of, address_of}
use Rattle.pmp_encoding.proofs.Bytes.{pow_rises}
use Rattle.pmp_encoding.proofs.Pairs.{pair_is, before_middle}
use Rattle.pmp_encoding.proofs.region.Entry.encode.Goals.{then-self-eq2, else-self-eq2}
use Rattle.pmp_encoding.proofs.region.Entry.encode.Goals as goal

pub overflow_sub-result : goal.overflow_sub-result
overflow_sub-result c =
    let four : 2 ^ 2 ≤ 2 ^ c.args.self.now.region.log2 = pow_rises 2 c.args.self.now.region.log2 c.args.self.now.region.block.long in
    omega (arith, c.bytes_of-size.ensures.value, four)

pub returns-clause-meaning : goal.returns-clause-meaning
returns-clause-meaning c =
    let e = c.args.self.now in
    let cfg : c.bits.result + c.if-self-eq2.mode ≡ cfg_of e = elim c.if-self-eq2.branch [
      | then-self-eq2 w ↦ let two = eq-eqb e.region.log2 2 w.if-self-eq2.true in rw two (omega (arith, c.bits.ensures.value, w.mode-is))
      | else-self-eq2 w ↦ let long = ne_eqb e.region.log2 2 w.if-self-eq2.false in rw long (omega (arith, c.bits.ensures.value, w.mode-is))
    ] in
    let address : (2 * e.region.base + c.bytes_of-size.result - 2) / 8 ≡ address_of e = rw c.bytes_of-size.ensures.value (before_middle e) in
    rw (cfg, address) (pair_is e)

pub returns-clause-address : goal.returns-clause-address
returns-clause-address c = rw c.bytes_of-size.ensures.value (before_middle c.args.self.now)
