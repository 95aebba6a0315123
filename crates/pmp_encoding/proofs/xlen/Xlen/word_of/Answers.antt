-- What the prover finds by itself, written down for the edits that break it.
use Rattle.std.proofs.Common.{rules}
use Rattle.pmp_encoding.proofs.xlen.Xlen.word_of.Goals as goal

pub returns-in-Rv32-clause-value : goal.returns-in-Rv32-clause-value
returns-in-Rv32-clause-value c = search rules
