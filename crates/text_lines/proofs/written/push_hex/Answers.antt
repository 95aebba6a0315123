use Rattle.std.proofs.Common.{◌≡◌, ◌∙◌, ◌++◌, length, length-append, length-set, length-take-le, ap, ap₂, sym, arith}
use Rattle.text_lines.specs.Written.{hex}
use Rattle.text_lines.proofs.HexDigits.{digit_put}
use Rattle.text_lines.proofs.WordDigits.{stored}
use Rattle.text_lines.proofs.written.push_hex.Goals as goal

pub loop-at-preserved : goal.loop-at-preserved
loop-at-preserved c = record {
  within = omega (arith, c.loop-at.invariant.within);
  few = c.loop-at.invariant.few;
  room = length-set _ _ _ ∙ c.loop-at.invariant.room;
  written = digit_put c.loop-at.text _ c.args.digits c.loop-at.at c.loop-at.left c.hex_digit.result c.loop-at-test.true c.loop-at.invariant.within
      (omega (arith, c.loop-at.invariant.few, c.loop-at.invariant.room)) c.hex_digit.ensures c.loop-at.invariant.written;
}

pub returns-then-digits-eq16-clause-items : goal.returns-then-digits-eq16-clause-items
returns-then-digits-eq16-clause-items c =
    let held : length c.args.line.now ≡ c.line.inside.len = sym (ap length c.line.view_is)
    ∙ length-take-le c.line.inside.len c.line.inside.bytes (omega arith) in
    let is = c.word_digits.ensures ∙ ap (λ n. hex n c.args.value) (sym c.if-digits-eq16.true) in
    stored c.line.inside.bytes c.word_digits.result c.line.inside.len (ap length c.word_digits.ensures) (omega (arith, held)) ∙ ap₂ ◌++◌ c.line.view_is is

pub returns-then-digits-eq16-clause-len : goal.returns-then-digits-eq16-clause-len
returns-then-digits-eq16-clause-len c =
    let long : length (hex c.args.digits c.args.value) ≡ c.args.digits = ap (λ n. length (hex n c.args.value)) c.if-digits-eq16.true
    ∙ sym c.if-digits-eq16.true in
    omega (arith, ap length (returns-then-digits-eq16-clause-items c), length-append c.args.line.now (hex c.args.digits c.args.value), long)
