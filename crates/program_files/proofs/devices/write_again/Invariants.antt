use Rattle.std.specs.Io.KnownBytes.{Keeps}
use Rattle.program_files.proofs.devices.write_again.Given as goal

abbrev pub invariant-loop : goal.invariant-loop
invariant-loop g l = record { kept : Keeps (g.T.Write.contents l.initial.writer) (g.T.Write.contents l.writer) }
