use Rattle.command_line.proofs.Entered.{entered, fault_with_rows, none_with_rows, with_rows}
use Rattle.command_line.specs.Given.{flags_of, values_of}
use Rattle.command_line.proofs.request.request_in.Goals as goal

pub returns-clause-request : goal.returns-clause-request
unfolding values_of flags_of
returns-clause-request c =
    let entry = entered c.args.matches.now _ _ c.in-Some.ensures.name c.in-Some.ensures.rows in
    with_rows c.request_of.result _ c.in-Some.name.now _ entry c.request_of.ensures.word c.request_of.ensures.values

pub returns-clause-fault : goal.returns-clause-fault
unfolding values_of flags_of
returns-clause-fault c =
    let entry = entered c.args.matches.now _ _ c.in-Some.ensures.name c.in-Some.ensures.rows in
    fault_with_rows c.request_of.result _ c.in-Some.name.now _ entry c.request_of.ensures.fault

pub returns-clause-refused : goal.returns-clause-refused
unfolding values_of flags_of
returns-clause-refused c =
    let entry = entered c.args.matches.now _ _ c.in-Some.ensures.name c.in-Some.ensures.rows in
    none_with_rows c.request_of.result _ c.in-Some.name.now _ entry c.request_of.ensures.refused
