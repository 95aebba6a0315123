use Rattle.std.proofs.Common.{ℕ, ◌<◌}
use Rattle.pmp_encoding.specs.Faults.{IsFaultless}
use Rattle.pmp_encoding.specs.Registers.{byte_of}
use Rattle.pmp_encoding.proofs.csr.fault_of_word.Given as goal

-- the bytes so far have no fault
abbrev pub invariant-loop-j : goal.invariant-loop-j
invariant-loop-j l = (i : ℕ) → i < l.j → IsFaultless (byte_of l.word i) 0
