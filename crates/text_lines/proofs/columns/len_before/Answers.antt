use Rattle.std.proofs.Common.{◌∙◌}
use Rattle.text_lines.proofs.FirstByte.{first_byte}
use Rattle.text_lines.proofs.columns.len_before.Goals as goal

pub returns-clause-len : goal.returns-clause-len
returns-clause-len c = c.unwrap_or.ensures ∙ first_byte c.args.mark c.args.text.now c.memchr.result c.memchr.ensures
