use Rattle.std.proofs.Common.{◌≡◌, None, replicate}
use Rattle.enclave_table.proofs.boot.no_enclaves.Given as goal

abbrev pub invariant-loop : goal.invariant-loop
invariant-loop l = l.enclaves.items ≡ replicate l.counter None
