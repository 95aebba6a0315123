-- Eight bytes that an entry cuts have one of its ends in their middle; its lower end comes first.
use Rattle.permission_map.specs.Runs.{view_of_runs}
use Rattle.register_audit.proofs.Cut.{lowest_base, lowest_end, uncut_by}
use Rattle.register_audit.proofs.cut_access.cut_by.Goals as goal

pub returns-in-Some : goal.returns-in-Some
returns-in-Some c = lowest_base (view_of_runs c.args.map.now) c.args.extents.now c.args.i c.in-Some.low c.requires.words c.requires.i c.in-Some.ensures.some.0
    c.in-Some.ensures.some.1

pub returns-in_default-cut_at : goal.returns-in_default-cut_at
returns-in_default-cut_at c = uncut_by (view_of_runs c.args.map.now) c.args.extents.now c.args.i c.requires.words c.requires.i c.in_default.ensures.none
    c.in_default-cut_at.ensures.none

pub returns : goal.returns
returns c = lowest_end (view_of_runs c.args.map.now) c.args.extents.now c.args.i c.in-Some-cut_at.high c.requires.words c.requires.i
    c.in-Some-cut_at.ensures.some.0 c.in_default.ensures.none c.in-Some-cut_at.ensures.some.1
