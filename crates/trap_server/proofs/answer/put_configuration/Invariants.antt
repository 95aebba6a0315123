use Rattle.std.proofs.Common.{◌≡◌, ◌+◌, ◌-◌, ◌++◌, replicate, take}
use Rattle.trap_server.specs.Answers.{cfg_bytes}
use Rattle.trap_server.proofs.answer.put_configuration.Given as goal

abbrev pub invariant-loop-i : goal.invariant-loop-i
invariant-loop-i l = take (l.from + 64) l.frame ≡ take l.from l.fn.frame ++ (cfg_bytes l.entries l.i ++ replicate (64 - l.i) 0)
