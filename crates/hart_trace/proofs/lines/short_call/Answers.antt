use Rattle.std.proofs.Common.{refl}
use Rattle.std.proofs.lemmas.Fmt.{decimal_digit}
use Rattle.hart_trace.proofs.lines.short_call.Goals as goal

pub returns : goal.returns
returns c = rw (c.word_digits-digits.ensures, c.short_end-end.ensures, decimal_digit c.args.world c.requires.world, decimal_digit c.args.used c.requires.used)
    refl
