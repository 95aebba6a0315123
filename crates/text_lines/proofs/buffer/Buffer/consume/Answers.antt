-- Steps that the prover finds without help, written out for the must-fail edits that break them.
use Rattle.std.proofs.Common.{arith}
use Rattle.std.proofs.lemmas.Grind.{common_steps}
use Rattle.text_lines.proofs.buffer.Buffer.consume.Goals as goal

pub returns : goal.returns
returns c = grind (arith, common_steps)
