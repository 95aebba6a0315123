use Rattle.std.proofs.Common.{ℕ, List, ◌≡◌, ◌∙◌, ◌+◌, ◌-◌, ◌<◌, length, take, drop, sym, arith}
use Rattle.std.proofs.lemmas.Grind.{common_steps}
use Rattle.std.specs.Prelude.{◌==◌}
use Rattle.std.specs.List.{position_or_len}
use Rattle.text_lines.proofs.RawLines.{first_line, last_line}
use Rattle.input_files.proofs.key_places.first_line.Goals as goal

rest_from : (i : ℕ) (xs : List ℕ) → take (length xs - i) (drop i xs) ≡ drop i xs
rest_from i xs = grind (arith, common_steps)

pub returns-then-len-text-clause-lines : goal.returns-then-len-text-clause-lines
returns-then-len-text-clause-lines c = last_line c.args.text.now (sym c.len_before-len.ensures.len ∙ c.if-len-text.true) c.requires

pub returns-clause-lines : goal.returns-clause-lines
returns-clause-lines c =
    let text = c.args.text.now in
    let len = c.len_before-len.ensures.len in
    let less : position_or_len (λ b. b == 10) text < length text = grind (arith, c.len_before-len.ensures.within, len, c.if-len-text.false) in
    rw (rest_from (c.len_before-len.result + 1) text) (rw len (first_line text less))
