use Rattle.std.proofs.Common.{◌∙◌, sym}
use Rattle.text_lines.proofs.PlainText.{plain_words}
use Rattle.text_lines.proofs.lexical.Words.of.Goals as goal

pub returns-then-all_plain : goal.returns-then-all_plain
returns-then-all_plain c = plain_words c.args.line.now (sym c.all_plain.ensures ∙ c.if-all_plain.true)
