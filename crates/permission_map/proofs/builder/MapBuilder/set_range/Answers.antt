use Rattle.std.proofs.Common.{arith}
use Rattle.permission_map.specs.Points.{runs_of, turns}
use Rattle.permission_map.proofs.Answered.{past_end_refused, sets}
use Rattle.permission_map.proofs.PointRuns.{runs_are}
use Rattle.permission_map.proofs.Turns.{turns_are}
use Rattle.permission_map.proofs.builder.MapBuilder.set_range.Goals as goal

pub returns-then-first-gt-SPACE_PAGES-clause-sets : goal.returns-then-first-gt-SPACE_PAGES-clause-sets
returns-then-first-gt-SPACE_PAGES-clause-sets c =
    past_end_refused c.args.self.now c.args.first c.args.count c.args.perm (omega (arith, c.then-first-gt-SPACE_PAGES))

pub returns-clause-sets : goal.returns-clause-sets
returns-clause-sets c =
    rw (← c.self.view_is)
    (sets (runs_of (turns c.self.inside.points.items)) (runs_of (turns c.overwrite.new.points.items)) c.overwrite.ensures.wanted.0 c.args.first c.args.count
    c.args.perm c.overwrite.result (runs_are (turns c.self.inside.points.items) (turns_are c.self.inside.points.items c.self.invariant.rise)) (omega arith)
    c.overwrite.ensures.wanted.1 c.overwrite.ensures.wanted.2)
