use Rattle.std.proofs.Common.{◌+◌, map, drop, All, arith, refl}
use Rattle.std.proofs.lemmas.Bool.{false≢true}
use Rattle.platforms.specs.Ranges.{AreRangesApart, device_range}
use Rattle.platforms.proofs.Apart.{never, of_ranges, of_devices, each_from, apart_at, rest_apart, one_more, rest_is}
use Rattle.platforms.proofs.ranges.each_apart.Goals as goal
use Rattle.platforms.proofs.ranges.each_apart.Goals.{then-not-is_clear-via-then-not-is_clear}
use Rattle.platforms.proofs.ranges.each_apart.Goals.{then-not-is_clear-via-else-not-is_clear+then-not-is_clear_of_devices}

pub returns-then-not-is_clear : goal.returns-then-not-is_clear
returns-then-not-is_clear c = never (λ each.
    let here = apart_at c.args.ranges.now (map device_range c.args.devices.now) c.loop-i.i _ c.loop-i-test.true each in
    elim c.then-not-is_clear.branch [
      | then-not-is_clear-via-then-not-is_clear w ↦ false≢true (w.if-not-is_clear.ensures.1 (rw (rest_is c.loop-i.i c.args.ranges.now) here.0))
      | then-not-is_clear-via-else-not-is_clear+then-not-is_clear_of_devices w ↦ false≢true (w.if-not-is_clear_of_devices.ensures.1 (of_devices _ _ here.1))
    ])

pub loop-i-preserved : goal.loop-i-preserved
loop-i-preserved c =
    one_more (λ k x. All (AreRangesApart x) (drop (k + 1) c.args.ranges.now) × All (AreRangesApart x) (map device_range c.args.devices.now)) c.args.ranges.now
    c.loop-i.i _ c.loop-i-test.true
    c.loop-i.invariant (
      rw (rest_is c.loop-i.i c.args.ranges.now) at (c.if-not-is_clear.ensures.0 refl),
      of_ranges _ _
          (c.if-not-is_clear_of_devices.ensures.0 refl),
    )

pub returns : goal.returns
returns c = (
  λ is. each_from c.args.ranges.now (map device_range c.args.devices.now) (c.devices_apart.ensures.0 is) (λ k d low. c.loop-i.invariant k d (omega arith)),
  λ each. c.devices_apart.ensures.1 (rest_apart c.args.ranges.now (map device_range c.args.devices.now) each),
)
