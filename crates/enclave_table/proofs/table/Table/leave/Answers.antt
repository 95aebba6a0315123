use Rattle.std.proofs.Common.{refl}
use Rattle.enclave_table.proofs.table.Table.leave.Goals as goal

pub returns-clause-lists : goal.returns-clause-lists
returns-clause-lists c = rw (c.turn.ensures c.in-Some._enclave c.in-Some.ensures.live) refl
