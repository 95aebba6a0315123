use Rattle.std.proofs.Common.{inl, inr, sym}
use Rattle.std.proofs.lemmas.Result.{err_from_is_err_and}
use Rattle.permission_map.specs.Runs.{view_of_runs}
use Rattle.monitor_cli.proofs.FarPages.{too_far}
use Rattle.monitor_cli.proofs.PlanCertificates.{certificate_is}
use Rattle.monitor_cli.proofs.certified_plan.plan_within.Goals as goal

pub returns-in_err-plan-clause-refused : goal.returns-in_err-plan-clause-refused
returns-in_err-plan-clause-refused c =
    let p = err_from_is_err_and c.from_residual.result c.from_residual.ensures.1 in
    rw p.1 (inl p.2)

pub returns-in_err-within-clause-refused : goal.returns-in_err-within-clause-refused
returns-in_err-within-clause-refused c =
    let p = err_from_is_err_and c.from_residual-in_err-within.result c.from_residual-in_err-within.ensures.1 in
    let b = c.in_err-within.ensures.beyond in
    rw (p.1, p.2) (inr (inl (record { entries = c.in_ok-plan.plan.entries; fewest = c.in_ok-plan.ensures.fewest; beyond = b.0; told = b.1 })))

pub returns-in_err-check_reach-clause-refused : goal.returns-in_err-check_reach-clause-refused
returns-in_err-check_reach-clause-refused c =
    let p = err_from_is_err_and c.from_residual-in_err-check_reach.result c.from_residual-in_err-check_reach.ensures.1 in
    let b = c.in_err-check_reach.ensures.beyond in
    let made = c.in_ok-plan.ensures in
    rw (p.1, p.2) (inr (inr (too_far _ _ _ c.in_ok-plan.plan.entries _ _
    (record { fewest = made.fewest; chosen = made.choice; order = made.order; within = c.in_ok-within.ensures.within })
    b.0 b.1)))

pub returns-clause-planned : goal.returns-clause-planned
returns-clause-planned c =
    let made = c.in_ok-plan.ensures in
    record { fewest = made.fewest; chosen = made.choice; order = made.order; within = c.in_ok-within.ensures.within }

pub returns-clause-splits : goal.returns-clause-splits
returns-clause-splits c = sym c.in_ok-plan.ensures.branches

pub returns-clause-certificate : goal.returns-clause-certificate
returns-clause-certificate c = λ limit.
    let made = c.in_ok-plan.ensures in
    certificate_is (view_of_runs c.args.map.now) limit c.in_ok-plan.plan made.branches made.most made.bound made.root made.pages made.fewest.means
