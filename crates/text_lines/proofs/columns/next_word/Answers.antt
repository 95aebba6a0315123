use Rattle.std.proofs.Common.{◌<◌, length, arith}
use Rattle.text_lines.specs.Words.{is_blank}
use Rattle.text_lines.specs.Columns.{begin_from}
use Rattle.text_lines.proofs.PlacedWords.{found_at, no_word_at}
use Rattle.text_lines.proofs.columns.next_word.Goals as goal

pub returns-then-placed-text-clause-word : goal.returns-then-placed-text-clause-word
returns-then-placed-text-clause-word c =
    no_word_at is_blank c.args.text.now c.args.at c.word_from-placed.result.before c.word_from-placed.ensures.before c.if-placed-text.true

pub returns-clause-word : goal.returns-clause-word
returns-clause-word c =
    let said = c.word_from-placed.ensures in
    let less : begin_from c.args.text.now c.args.at < length c.args.text.now = omega (arith, said.before, said.within, said.order, c.if-placed-text.false) in
    rw (said.before, said.word, said.end) (found_at c.args.text.now c.args.at less)
