-- What the prover finds by itself, written down for the edits that break it.
use Rattle.std.proofs.Common.{rules}
use Rattle.pmp_encoding.proofs.xlen.Xlen.word_number.Goals as goal

pub returns-in-Rv64 : goal.returns-in-Rv64
returns-in-Rv64 c = search rules
