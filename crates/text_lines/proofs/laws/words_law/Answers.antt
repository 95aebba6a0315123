use Rattle.text_lines.specs.Words.{is_blank}
use Rattle.text_lines.proofs.WordsOfText.{split_by-has, split_by-only}
use Rattle.text_lines.proofs.laws.words_law.Goals as goal

pub returns : goal.returns
returns c = λ text. (split_by-has is_blank text, split_by-only is_blank text)
