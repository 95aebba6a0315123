use Rattle.std.proofs.Common.{◌∙◌}
use Rattle.host_tree.proofs.FirstZero.{first_byte}
use Rattle.host_tree.proofs.bytes.text_len.Goals as goal

pub returns-clause-len : goal.returns-clause-len
returns-clause-len c = c.unwrap_or.ensures ∙ first_byte 0 c.args.bytes.now c.memchr.result c.memchr.ensures
