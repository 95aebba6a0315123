use Rattle.std.proofs.Common.{ℕ, ◌<◌}
use Rattle.enclave_table.specs.Enclaves.{Live}
use Rattle.measurement.specs.Requests.{ArePartsApart}
use Rattle.enclave_table.specs.declared.enclave.Enclave.{Enclave}
use Rattle.enclave_table.proofs.table.Table.is_clear_of_enclaves.Given as goal

abbrev pub invariant-loop-id : goal.invariant-loop-id
invariant-loop-id l = (other : ℕ) (e : Enclave) → other < l.id → Live l.self.table other e → ArePartsApart l.parts e.parts
