use Rattle.std.proofs.Common.{◌≡◌}
use Rattle.trap_server.specs.Platforms.{ram_in}
use Rattle.trap_server.proofs.platform_frame.ram_in.Given as goal

abbrev pub invariant-loop-i : goal.invariant-loop-i
invariant-loop-i l = l.ram.items ≡ ram_in l.bytes l.i
