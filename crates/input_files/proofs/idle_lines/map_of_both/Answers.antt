use Rattle.std.proofs.Common.{[]}
use Rattle.input_files.proofs.Followed.{many_first, many_last, set_both}
use Rattle.input_files.proofs.idle_lines.map_of_both.Goals as goal

pub returns-in-Some-clause-many : goal.returns-in-Some-clause-many
returns-in-Some-clause-many c =
    let many = rw c.new-map.ensures at (rw c.in-Some.is at c.in_ok-follow.ensures.many) in
    (c.in-Some.field-0, many_first _ c.args.kept.now c.args.rest.now [] many)

pub returns-in-Some-2-clause-many : goal.returns-in-Some-2-clause-many
returns-in-Some-2-clause-many c =
    let set = rw c.new-map.ensures at (rw c.in_default.is at c.in_ok-follow.ensures.all) in
    let many = rw c.in-Some-2.is at c.in_ok-follow-2.ensures.many in
    (c.in-Some-2.field-0, many_last _ c.args.kept.now c.args.rest.now [] _ set many)

pub returns-clause-made : goal.returns-clause-made
returns-clause-made c =
    let first = rw c.new-map.ensures at (rw c.in_default.is at c.in_ok-follow.ensures.all) in
    let last = rw c.in_default-2.is at c.in_ok-follow-2.ensures.all in
    rw c.in_ok-map.ensures.map (set_both c.args.kept.now c.args.rest.now [] _ _ first last)
