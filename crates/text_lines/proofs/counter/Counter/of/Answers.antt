-- A number below ten has its last digit alone.
use Rattle.std.proofs.Common.{◌≡◌, ◌∙◌, ◌++◌, ◌/◌, ap, decimal, length, sym, arith}
use Rattle.std.proofs.lemmas.Grind.{common_steps}
use Rattle.text_lines.proofs.Counters.{long_digits, short_front}
use Rattle.text_lines.proofs.counter.Counter.of.Goals as goal

pub returns-then-n-lt10-clause-digits : goal.returns-then-n-lt10-clause-digits
returns-then-n-lt10-clause-digits c = sym (short_front c.args.n c.if-n-lt10.true)

pub returns-clause-digits : goal.returns-clause-digits
returns-clause-digits c =
    let new = c.copy_from_slice.new.self in
    let is : new ≡ decimal (c.args.n / 10) = c.copy_from_slice.ensures.after ∙ c.as_slice.ensures.value ∙ c.push_decimal.ensures.items
    ∙ ap (λ l. l ++ decimal (c.args.n / 10)) c.new-line.ensures in
    let long : length new ≡ c.len-len.result = grind (
      arith,
      common_steps,
      c.copy_from_slice.ensures.len,
      c.as_slice.ensures.value,
      c.push_decimal.ensures.len,
      c.len-len.ensures.value,
      c.len-len.ensures.fits,
    ) in
    long_digits new _ _ c.args.n long is c.if-n-lt10.false c.ranges.n.fits
