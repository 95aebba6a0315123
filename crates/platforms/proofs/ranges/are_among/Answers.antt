-- Where a page is in none of the ranges, not each page is in one.
use Rattle.std.proofs.Common.{arith}
use Rattle.std.proofs.lemmas.Bool.{both_ways}
use Rattle.permission_map.proofs.Rising.{range_has}
use Rattle.platforms.proofs.Apart.{never}
use Rattle.platforms.proofs.ShortNames.{is_among}
use Rattle.platforms.proofs.ranges.are_among.Goals as goal

pub returns-in_default : goal.returns-in_default
returns-in_default c = never (λ all.
    both_ways (is_among c.args.ranges.now c.loop-at.at) c.in_default.ensures.none
    (all c.loop-at.at (range_has c.args.first c.args.count c.loop-at.at c.loop-at.invariant.begins (omega (arith, c.loop-at-test.true)))))
