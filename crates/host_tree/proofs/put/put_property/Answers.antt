use Rattle.host_tree.proofs.WriteFaults.{property_put}
use Rattle.host_tree.proofs.put.put_property.Goals as goal

pub returns-in-Err-clause-refused : goal.returns-in-Err-clause-refused
returns-in-Err-clause-refused c = property_put c.args.writer.now c.args.name.now c.args.value.now c.in-Err.fault c.in-Err.ensures.refused
