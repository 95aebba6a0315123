use Rattle.std.proofs.Common.{◌≡◌, ◌-◌, ◌<◌, ◌≤◌, ℕ}
use Rattle.sbi_decode.specs.Registers.{x_of}
use Rattle.trap_server.specs.Words.{word_at}
use Rattle.trap_server.proofs.trap.call_in.Given as goal

abbrev pub invariant-loop-n : goal.invariant-loop-n
invariant-loop-n l = (k : ℕ) → 10 ≤ k → k < l.n → x_of l.registers k ≡ word_at l.bytes (k - 8)
