use Rattle.std.proofs.lemmas.Result.{err_from_is_err_and}
use Rattle.program_files.specs.Reading.{no_bytes}
use Rattle.program_files.proofs.Refusals.{has_map, has_no_map}
use Rattle.program_files.proofs.inputs.map_in.Goals as goal

pub returns-in_err-bytes-clause-refused : goal.returns-in_err-bytes-clause-refused
returns-in_err-bytes-clause-refused g c =
    let p = err_from_is_err_and c.from_residual.result c.from_residual.ensures.1 in
    rw (p.1, p.2) (no_bytes _ c.in_err-bytes.ensures.refused)

pub returns-clause-made : goal.returns-clause-made
returns-clause-made g c = has_map _ c.in_ok-bytes.bytes.items c.map_by.result c.in_ok-bytes.ensures.whole (rw c.as_slice.ensures.value at c.map_by.ensures.made)

pub returns-clause-refused : goal.returns-clause-refused
returns-clause-refused g c = has_no_map c.args.file _ c.in_ok-bytes.bytes.items c.map_by.result c.in_ok-bytes.ensures.whole
    (rw c.as_slice.ensures.value at c.map_by.ensures.refused)
