use Rattle.std.proofs.Common.{◌+◌, map, drop, All, arith, refl}
use Rattle.std.proofs.lemmas.Bool.{false≢true}
use Rattle.platforms.specs.Ranges.{AreRangesApart, device_range}
use Rattle.platforms.proofs.Apart.{never, of_ranges, of_devices, devices_from, device_at, one_more, rest_is}
use Rattle.platforms.proofs.ranges.devices_apart.Goals as goal

pub returns-then-not-is_clear_of_devices : goal.returns-then-not-is_clear_of_devices
returns-then-not-is_clear_of_devices c = never (λ each.
    false≢true (c.if-not-is_clear_of_devices.ensures.1 (of_devices _ _ (rw (rest_is c.loop-i.i c.args.devices.now)
    (device_at c.args.devices.now c.loop-i.i _ c.loop-i-test.true each)))))

pub loop-i-preserved : goal.loop-i-preserved
loop-i-preserved c =
    one_more (λ k x. All (AreRangesApart (device_range x)) (map device_range (drop (k + 1) c.args.devices.now))) c.args.devices.now c.loop-i.i _
    c.loop-i-test.true
    c.loop-i.invariant (of_ranges _ _ (rw (rest_is c.loop-i.i c.args.devices.now) at (c.if-not-is_clear_of_devices.ensures.0 refl)))

pub returns : goal.returns
returns c = (λ is. devices_from c.args.devices.now (λ k d low. c.loop-i.invariant k d (omega arith)), λ each. refl)
