use Rattle.host_tree.proofs.WriteFaults.{begin_put}
use Rattle.host_tree.proofs.put.put_begin.Goals as goal

pub returns-in-Err-clause-refused : goal.returns-in-Err-clause-refused
returns-in-Err-clause-refused c = begin_put c.args.name.now c.in-Err.fault c.in-Err.ensures.refused
