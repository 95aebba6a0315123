-- An entry that is not TOR is decoded without its lock and its high bits.
use Rattle.pmp_match.specs.RegisterMatching.{block, off}
use Rattle.pmp_match.specs.Registers.{cfg_at}
use Rattle.pmp_match.proofs.Matched.{no_fault}
use Rattle.pmp_match.proofs.extents.extent_at.Goals as goal

pub unreachable-requires : goal.unreachable-requires
unreachable-requires c = no_fault c.args.registers.now.security (cfg_at c.args.registers.now c.args.place) c.kept-top.result c.in-Err.field-0 c.requires.defined
    (rw c.user_cfg-cfg.ensures.value at c.if-cfg-eq1.false) c.kept-top.ensures.small (rw c.user_cfg-cfg.ensures.value at c.in-Err.ensures.fault.has)

pub returns-in-Ok-Some : goal.returns-in-Ok-Some
returns-in-Ok-Some c = rw (c.within.ensures, c.extent_of.ensures) (block c.in-Ok-Some.entry
    (rw (c.user_cfg-cfg.ensures.value, c.kept-top.ensures.value, c.in-Ok-Some.field-0-is) at c.in-Ok-Some.ensures.meaning))

pub returns-in-Ok-None : goal.returns-in-Ok-None
returns-in-Ok-None c = rw c.no_extent.ensures
    (off (rw (c.user_cfg-cfg.ensures.value, c.kept-top.ensures.value, c.in-Ok-None.field-0-is) at c.in-Ok-None.ensures.meaning))
