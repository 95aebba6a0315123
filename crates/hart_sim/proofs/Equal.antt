-- Two states are one where each part of the one is that of the other.
use Rattle.std.proofs.Common.{◌≡◌, ℕ}
use Rattle.sbi_decode.specs.Runners.{Runner}
use Rattle.hart_sim.specs.States.{MachineState}

-- part by part
pub record SameParts (s that : MachineState) : Type 0 where
  pub table : s.table ≡ that.table
  pub worlds : (hart : ℕ) → s.worlds hart ≡ that.worlds hart
  pub registers : (who : Runner) → s.registers who ≡ that.registers who
  pub bytes : (address : ℕ) → s.bytes address ≡ that.bytes address
  pub written : (page : ℕ) → s.written page ≡ that.written page
  pub marked : (hart : ℕ) → s.marked hart ≡ that.marked hart

pub equal : {s that : MachineState} → SameParts s that → s ≡ that
equal {s} {that} x = λ i. record {
  table = x.table i;
  worlds = λ hart. x.worlds hart i;
  registers = λ who. x.registers who i;
  bytes = λ address. x.bytes address i;
  written = λ page. x.written page i;
  marked = λ hart. x.marked hart i;
}
