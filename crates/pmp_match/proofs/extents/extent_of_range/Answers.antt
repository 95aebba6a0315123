-- An entry that is TOR has the addresses below its top.
use Rattle.std.proofs.Common.{◌≡◌, ◌+◌, ◌*◌, refl, arith}
use Rattle.pmp_encoding.specs.Perms.{bits_of}
use Rattle.pmp_match.specs.RegisterMatching.{tor}
use Rattle.pmp_match.specs.Registers.{cfg_at, user_cfg_at}
use Rattle.pmp_match.proofs.Matched.{no_reserved}
use Rattle.pmp_match.proofs.extents.extent_of_range.Goals as goal

pub unreachable-requires : goal.unreachable-requires
unreachable-requires c = no_reserved c.args.registers.now.security (cfg_at c.args.registers.now c.args.place) c.requires.defined
    (rw c.requires.cfg at c.in-None.ensures.reserved.0 refl)

pub returns : goal.returns
returns c =
    let mode : user_cfg_at c.args.registers.now c.args.place ≡ 1 * 8 + bits_of c.in-Some.perm = omega
    (arith, c.requires.cfg, c.requires.tor, c.in-Some.ensures.some) in
    rw (c.tor_extent.ensures, c.bottom_of-bottom.ensures.value, c.requires.top) (tor c.in-Some.perm mode)
