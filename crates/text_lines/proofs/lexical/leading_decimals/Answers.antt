use Rattle.std.proofs.Common.{refl, ◌+◌, ◌*◌, ◌≤◌, drop, length, lit<, arith}
use Rattle.text_lines.proofs.Numerals.{begins_numeral, decimal_more, decimal_fits, ends_all, ends_here}
use Rattle.text_lines.specs.Numbers.{EndsDigits}
use Rattle.text_lines.proofs.lexical.leading_decimals.Goals as goal
use Rattle.text_lines.proofs.lexical.leading_decimals.Goals.{else-loop-len-test, then-loop-len-test+then-digit-ge10}

pub overflow_mul-value : goal.overflow_mul-value
overflow_mul-value c =
    let most = decimal_fits (c.loop-len.value * 10 + 0) (c.loop-len.len + 1)
    (decimal_more c.loop-len.value c.loop-len.len 0 c.loop-len.invariant.fits (lit< tt)) (omega arith) in
    record { fits = omega (arith, most) }

pub overflow_add-value : goal.overflow_add-value
overflow_add-value c = record {
  fits = decimal_fits _ (c.loop-len.len + 1) (decimal_more c.loop-len.value c.loop-len.len c.decimal-digit.result c.loop-len.invariant.fits (omega arith))
      (omega arith);
}

pub returns : goal.returns
returns c =
    let text = c.args.text.now in
    let within : c.loop-len.len ≤ length text = omega (arith, c.loop-len.invariant.within) in
    let ends : EndsDigits 10 (drop c.loop-len.len text) =
    elim c.loop-len-test.branch [
      | else-loop-len-test w ↦ ends_all 10 text c.loop-len.len (omega (arith, c.loop-len.invariant.within, w.loop-len-test.false, c.if-len-eq-DECIMALS.false))
      | then-loop-len-test+then-digit-ge10 w ↦ ends_here 10 text c.loop-len.len _ (omega (arith, w.loop-len-test.true)) refl
          (w.decimal-digit.ensures.other w.if-digit-ge10.true)
    ] in
    let fits = decimal_fits c.loop-len.value c.loop-len.len c.loop-len.invariant.fits (omega (arith, c.loop-len.invariant.within)) in
    rw c.if-base-ne10.false (
      begins_numeral 10 text c.loop-len.len c.loop-len.value within c.if-len-eq0.false c.loop-len.invariant.so_far fits
          c.loop-len.invariant.digits ends,
      within,
    )
