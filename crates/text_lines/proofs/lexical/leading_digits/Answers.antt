use Rattle.std.proofs.Common.{◌∙◌, drop, arith}
use Rattle.text_lines.proofs.Numerals.{numeral_of-overflow_product, numeral_of-overflow_sum, begins_numeral, ends_all, ends_here}
use Rattle.text_lines.proofs.Splitting.{rest_from}
use Rattle.text_lines.specs.Numbers.{EndsDigits}
use Rattle.text_lines.proofs.lexical.leading_digits.Goals as goal
use Rattle.text_lines.proofs.lexical.leading_digits.Goals.{else-loop-len-test, then-loop-len-test+then-digit-base}

pub returns-in_err-checked_mul-clause-none : goal.returns-in_err-checked_mul-clause-none
returns-in_err-checked_mul-clause-none c =
    rw c.from_residual.ensures (numeral_of-overflow_product c.args.base c.args.text.now c.loop-len.len c.loop-len.value c.from.result
    c.requires.least c.loop-len-test.true c.loop-len.invariant.so_far c.from.ensures c.in_err-checked_mul.ensures)

pub returns-in_err-value-clause-none : goal.returns-in_err-value-clause-none
returns-in_err-value-clause-none c =
    rw c.from_residual-in_err-value.ensures (numeral_of-overflow_sum c.args.base c.args.text.now c.loop-len.len c.loop-len.value c.from.result
    c.in_ok-checked_mul.field-0 c.from-in-loop-len.result
    c.requires.least c.loop-len-test.true c.loop-len.invariant.so_far c.from.ensures c.in_ok-checked_mul.ensures.1
    (c.from-in-loop-len.ensures ∙ c.digit-digit.ensures.value) c.in_err-value.ensures)

pub returns-clause-digits : goal.returns-clause-digits
returns-clause-digits c =
    let text = c.args.text.now in
    let ends : EndsDigits c.args.base (drop c.loop-len.len text) =
    elim c.loop-len-test.branch [
      | else-loop-len-test w ↦ ends_all c.args.base text c.loop-len.len (omega (arith, w.loop-len-test.false))
      | then-loop-len-test+then-digit-base w ↦ ends_here c.args.base text c.loop-len.len w.digit-digit.result w.loop-len-test.true w.digit-digit.ensures.value
          w.if-digit-base.true
    ] in
    rw (rest_from c.loop-len.len text) (begins_numeral c.args.base text c.loop-len.len c.loop-len.value c.loop-len.invariant.within c.if-len-eq0.false
    c.loop-len.invariant.so_far c.loop-len.invariant.fits c.loop-len.invariant.digits ends)
