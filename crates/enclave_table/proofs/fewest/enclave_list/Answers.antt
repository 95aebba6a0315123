use Rattle.pmp_match.specs.Meaning.{View}
use Rattle.enclave_table.specs.Views.{enclave_view}
use Rattle.enclave_table.proofs.fewest.enclave_list.Goals as goal

pub returns-clause-list : goal.returns-clause-list
returns-clause-list c =
    let view : View = enclave_view c.args.parts.now in
    c.list_of_plan.ensures.list view c.in-Ok.ensures

pub returns-clause-want : goal.returns-clause-want
returns-clause-want c =
    let view : View = enclave_view c.args.parts.now in
    c.list_of_plan.ensures.want view c.in-Ok.ensures
