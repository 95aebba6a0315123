use Rattle.permission_map.specs.Runs.{view_of_runs}
use Rattle.certificate_check.proofs.Judged.{if_fewest, if_least, right_where}
use Rattle.certificate_check.proofs.OneFault.{accepted_exactly, refused_exactly}
use Rattle.certificate_check.proofs.certificate.check.Goals as goal

pub returns-clause-fewest : goal.returns-clause-fewest
returns-clause-fewest c = if_fewest (view_of_runs c.args.map.now) c.args.bytes.now c.read_whole.result c.read_whole.ensures.right

pub returns-clause-least : goal.returns-clause-least
returns-clause-least c = if_least (view_of_runs c.args.map.now) c.args.bytes.now c.read_whole.result c.read_whole.ensures.right

pub returns-clause-right : goal.returns-clause-right
returns-clause-right c = λ n. (
  right_where (view_of_runs c.args.map.now) c.args.bytes.now c.read_whole.result n c.read_whole.ensures.right,
  accepted_exactly
      (view_of_runs c.args.map.now) c.args.bytes.now c.read_whole.result n c.read_whole.ensures.right c.read_whole.ensures.fault,
)

pub returns-clause-fault : goal.returns-clause-fault
returns-clause-fault c = refused_exactly (view_of_runs c.args.map.now) c.args.bytes.now c.read_whole.result c.read_whole.ensures.right
    c.read_whole.ensures.fault
