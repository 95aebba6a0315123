use Rattle.std.specs.Io.KnownBytes.{Keeps}
use Rattle.program_files.proofs.devices.read_again.Given as goal

abbrev pub invariant-loop : goal.invariant-loop
invariant-loop g l = record { kept : Keeps (g.T.Read.remaining l.initial.reader) (g.T.Read.remaining l.reader) }
