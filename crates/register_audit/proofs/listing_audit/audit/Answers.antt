use Rattle.permission_map.specs.Runs.{view_of_runs}
use Rattle.register_audit.proofs.Answered.{answer_no, answer_yes}
use Rattle.register_audit.proofs.listing_audit.audit.Goals as goal

pub returns-clause-differs : goal.returns-clause-differs
returns-clause-differs g c = λ e.
    (c.in-Ok.listing, c.in-Ok.ensures.listing, answer_no c.args.mode (view_of_runs c.args.map.now) c.in-Ok.listing _ c.in-Ok-answer_of.ensures cc)

pub returns-clause-means : goal.returns-clause-means
returns-clause-means g c = λ e.
    let said = answer_yes c.args.mode (view_of_runs c.args.map.now) c.in-Ok.listing _ c.in-Ok-answer_of.ensures cc in
    (c.in-Ok.listing, c.in-Ok.ensures.listing, said.0, said.1)
