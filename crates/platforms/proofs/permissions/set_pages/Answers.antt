use Rattle.std.proofs.Common.{◌∙◌, ◌+◌, ◌≤◌, ◌<◌, ◌^◌, ap, List, length, Err, arith}
use Rattle.permission_map.specs.declared.runs.Run.{Run}
use Rattle.permission_map.specs.Overwrite.{AreOverwritten}
use Rattle.permission_map.proofs.Counted.{two_more}
use Rattle.platforms.proofs.permissions.set_pages.Goals as goal

pub unreachable-requires : goal.unreachable-requires
unreachable-requires c =
    let old : List Run = c.args.map.now in
    let many : (c.args.pages.first + c.args.pages.count ≤ 2 ^ 44) × ((runs : List Run)
    × AreOverwritten old c.args.pages.first c.args.pages.count c.args.perm runs × (4096 < length runs)) =
    c.set_range.ensures.too_many.0 (c.in-Err-TooManyRanges.is ∙ ap Err c.in-Err-TooManyRanges.field-0-is) in
    let few : length many.1.0 ≤ length old + 2 = two_more old many.1.0 c.args.pages.first c.args.pages.count c.args.perm c.ranges-runs.ensures.runs
    many.1.1.are_runs many.1.1.view_is in
    omega (arith, many.1.2, few, c.requires.few)

pub returns-in-Ok-clause-few : goal.returns-in-Ok-clause-few
returns-in-Ok-clause-few c =
    let done : AreOverwritten c.args.map.now c.args.pages.first c.args.pages.count c.args.perm c.set_range.new.self = c.in-Ok.ensures.done in
    two_more c.args.map.now c.set_range.new.self c.args.pages.first c.args.pages.count c.args.perm c.ranges-runs.ensures.runs done.are_runs done.view_is
