-- What the prover finds by itself, written down for the edits that break it.
use Rattle.std.proofs.Common.{rules}
use Rattle.pmp_encoding.proofs.xlen.Xlen.space_end.Goals as goal

pub returns-in-Rv32 : goal.returns-in-Rv32
returns-in-Rv32 c = search rules
