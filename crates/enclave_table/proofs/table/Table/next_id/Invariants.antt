use Rattle.std.proofs.Common.{ℕ, ◌<◌}
use Rattle.enclave_table.specs.Enclaves.{IsFree}
use Rattle.enclave_table.proofs.table.Table.next_id.Given as goal

abbrev pub invariant-loop-id : goal.invariant-loop-id
invariant-loop-id l = (other : ℕ) → other < l.id → IsFree l.self.table other → ⊥
