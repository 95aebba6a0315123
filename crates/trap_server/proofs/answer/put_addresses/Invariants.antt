use Rattle.std.proofs.Common.{◌≡◌, ◌+◌, ◌*◌, ◌++◌, take}
use Rattle.trap_server.specs.Answers.{address_bytes}
use Rattle.trap_server.proofs.answer.put_addresses.Given as goal

abbrev pub invariant-loop-i : goal.invariant-loop-i
invariant-loop-i l = take (8 * l.from + 8 * l.i) l.frame ≡ take (8 * l.from) l.fn.frame ++ address_bytes l.entries l.i
