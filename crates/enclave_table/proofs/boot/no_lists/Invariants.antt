use Rattle.std.proofs.Common.{◌≡◌, length}
use Rattle.enclave_table.proofs.boot.no_lists.Given as goal

abbrev pub invariant-loop : goal.invariant-loop
invariant-loop l = length l.lists.items ≡ l.counter
