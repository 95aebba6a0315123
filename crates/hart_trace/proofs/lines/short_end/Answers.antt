use Rattle.std.proofs.Common.{refl}
use Rattle.std.proofs.lemmas.Fmt.{decimal_digit}
use Rattle.hart_trace.proofs.lines.short_end.Goals as goal

pub returns : goal.returns
returns c = rw (decimal_digit c.args.world c.requires.world, decimal_digit c.args.used c.requires.used) refl
