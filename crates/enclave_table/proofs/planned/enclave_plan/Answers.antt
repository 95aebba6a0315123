use Rattle.std.proofs.Common.{subst, sym}
use Rattle.pmp_match.specs.Meaning.{View, IsFewest}
use Rattle.permission_map.specs.Runs.{view_of_runs}
use Rattle.entry_planner.specs.Plans.{Planned}
use Rattle.enclave_table.specs.Views.{enclave_view}
use Rattle.enclave_table.proofs.SameViews.{fewest_same}
use Rattle.enclave_table.proofs.planned.enclave_plan.Goals as goal

pub returns : goal.returns
returns c =
    let view : View = enclave_view c.args.parts.now in
    let own : View = view_of_runs c.in_ok-map.map in
    subst (λ (p : Planned). IsFewest view p.entries) (sym c.in_ok-plan.ensures)
    (fewest_same own view c.in_ok-packed.packed.entries c.in_ok-map.ensures c.in_ok-packed.ensures.fewest)
