use Rattle.std.proofs.Common.{[]}
use Rattle.input_files.proofs.Followed.{never_many}
use Rattle.input_files.proofs.idle_lines.map_of_kept.Goals as goal

pub unreachable-requires : goal.unreachable-requires
unreachable-requires c =
    let many = rw c.new-map.ensures at (rw c.in-Some.is at c.in_ok-follow.ensures.many) in
    never_many c.in-Some.field-0 c.args.kept.now [] c.requires.made.0 c.requires.made.1 many

pub returns : goal.returns
returns c =
    let set = rw c.new-map.ensures at (rw c.in_default.is at c.in_ok-follow.ensures.all) in
    rw c.in_ok-map.ensures.map set
