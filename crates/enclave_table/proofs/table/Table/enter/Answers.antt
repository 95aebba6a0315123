use Rattle.std.proofs.Common.{refl}
use Rattle.enclave_table.proofs.table.Table.enter.Goals as goal

pub returns-clause-lists : goal.returns-clause-lists
returns-clause-lists c = rw (c.turn.ensures c.in-Some.enclave c.in-Some.ensures.live) refl
