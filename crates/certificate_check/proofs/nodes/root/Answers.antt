use Rattle.std.proofs.Common.{sym, ap}
use Rattle.permission_map.specs.Runs.{view_of_runs}
use Rattle.certificate_check.proofs.Few.{few_needed}
use Rattle.certificate_check.proofs.Windows.{all_here, ok_from, reads_as}
use Rattle.certificate_check.proofs.nodes.root.Goals as goal

pub returns-clause-read : goal.returns-clause-read
returns-clause-read g c = reads_as _ _ _ _ c.node.ensures.read (λ left rest read. read (view_of_runs c.args.map.now)
    (λ at low. ap (λ runs. view_of_runs runs at) c.of-runs.ensures.value))

pub returns-clause-few : goal.returns-clause-few
returns-clause-few g c =
    let here = c.node.ensures.read.left _ _ _ (all_here _) in
    few_needed c.args.map.now here.0 _ c.node.result (rw (sym c.of-runs.ensures.value) c.of-runs.ensures.most)
    (ok_from c.node.result _ _ (here.2 (view_of_runs c.args.map.now) (λ at low. ap (λ runs. view_of_runs runs at) c.of-runs.ensures.value)))
