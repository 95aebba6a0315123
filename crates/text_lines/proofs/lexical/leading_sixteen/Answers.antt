use Rattle.std.proofs.Common.{◌∙◌, sym}
use Rattle.text_lines.proofs.Hexadecimals.{begins_hexadecimal}
use Rattle.text_lines.proofs.lexical.leading_sixteen.Goals as goal
use Rattle.text_lines.proofs.lexical.leading_sixteen.Goals.{then-len-eq-LANES, else-len-eq-LANES}

pub returns : goal.returns
returns c =
    begins_hexadecimal c.args.base c.args.text.now c.digits_before-len.result c.value_of_all.result c.if-base-ne16.false c.digits_before-len.ensures.digits
    c.digits_before-len.ensures.most c.if-len-eq0.false c.if-text-lt-LANES.false c.value_of_all.ensures c.value_of_all.type_inv
    (λ full. elim c.if-len-eq-LANES.branch [
      | then-len-eq-LANES w ↦ w.goes_on.ensures (sym w.value-is ∙ c.if-goes_on.false)
      | else-len-eq-LANES w ↦ absurd (w.if-len-eq-LANES.false full)
    ])
