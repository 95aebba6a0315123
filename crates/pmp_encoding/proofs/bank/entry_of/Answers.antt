-- A byte of zero in a faultless pair is OFF.
use Rattle.std.proofs.Common.{◌/◌, ap}
use Rattle.pmp_encoding.proofs.Meant.{off_is}
use Rattle.pmp_encoding.proofs.bank.entry_of.Goals as goal

pub returns-then-cfg-eq0 : goal.returns-then-cfg-eq0
returns-then-cfg-eq0 c =
    (off_is c.args.cfg c.args.address).1 (c.requires, ap (λ n. n / 8) c.if-cfg-eq0.true)
