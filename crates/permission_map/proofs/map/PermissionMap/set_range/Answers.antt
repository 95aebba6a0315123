use Rattle.std.proofs.Common.{arith}
use Rattle.permission_map.proofs.Answered.{past_end_refused, sets}
use Rattle.permission_map.proofs.map.PermissionMap.set_range.Goals as goal

pub returns-then-first-gt-SPACE_PAGES : goal.returns-then-first-gt-SPACE_PAGES
returns-then-first-gt-SPACE_PAGES c = past_end_refused c.args.self.now c.args.first c.args.count c.args.perm (omega (arith, c.then-first-gt-SPACE_PAGES))

pub returns : goal.returns
returns c =
    rw (← c.self.view_is)
    (sets c.self.inside.runs.items c.overwrite.new.runs.items c.overwrite.ensures.0 c.args.first c.args.count c.args.perm c.overwrite.result
    c.self.invariant.0 (omega arith) c.overwrite.ensures.1 c.overwrite.ensures.2)
