-- The pair is the canonical one of the entry that the number has, which means it.
use Rattle.std.proofs.Common.{◌≡◌, ◌∙◌, ◌+◌, ◌-◌, ◌*◌, ◌/◌, ◌%◌, ◌^◌, ap, arith, sym}
use Rattle.std.proofs.lemmas.Bool.{ne_eqb}
use Rattle.pmp_encoding.specs.Encoding.{cfg_of, address_of}
use Rattle.pmp_encoding.specs.Perms.{bits_of}
use Rattle.pmp_encoding.proofs.Pairs.{pair_is}
use Rattle.pmp_encoding.proofs.packed_entry.PackedEntry.encode.Goals as goal

pub returns-else-size-eq2-clause-meaning : goal.returns-else-size-eq2-clause-meaning
returns-else-size-eq2-clause-meaning c =
    let n = c.self.inside.number in
    let long = ne_eqb c.args.self.now.region.log2 2 (λ h. c.if-size-eq2.false (c.log2-size.ensures ∙ h)) in
    let bits : bits_of c.args.self.now.perm ≡ n % 8 = ap (λ e. bits_of e.perm) (sym c.self.view_is) ∙ c.self.inside.bits in
    let base : c.args.self.now.region.base ≡ n / 512 * 4 = ap (λ e. e.region.base) (sym c.self.view_is) in
    let size : 2 ^ (c.log2-size.result - 3) ≡ 2 ^ (c.args.self.now.region.log2 - 3) = ap (λ k. 2 ^ (k - 3)) c.log2-size.ensures in
    let cfg : n % 8 + 24 ≡ cfg_of c.args.self.now = rw long (omega (arith, bits)) in
    let address : n / 512 + c.bytes_of.result - 1 ≡ address_of c.args.self.now = rw long (omega (arith, base, size, c.bytes_of.ensures.value)) in
    rw (cfg, address) (pair_is c.args.self.now)
