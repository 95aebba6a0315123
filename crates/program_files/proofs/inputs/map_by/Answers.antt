use Rattle.std.proofs.Common.{Err, ap}
use Rattle.program_files.proofs.Refusals.{map_fault}
use Rattle.program_files.proofs.inputs.map_by.Goals as goal

pub returns-in-Err-clause-refused : goal.returns-in-Err-clause-refused
returns-in-Err-clause-refused c =
    let at = map_fault c.args.bytes.now c.in-Err.fault (λ n e. c.in-Err.ensures.unknown n e) (λ e. c.in-Err.ensures.many (ap (λ f. Err f) e))
    (λ e. c.in-Err.ensures.memory (ap (λ f. Err f) e)) in
    (c.in-Err.fault, at, c.of_map.ensures)
