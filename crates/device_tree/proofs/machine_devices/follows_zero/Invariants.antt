use Rattle.std.proofs.Common.{length, ◌-◌, ◌≡◌, drop}
use Rattle.device_tree.specs.MachineDevices.{follows_zero}
use Rattle.device_tree.proofs.machine_devices.follows_zero.Given as goal

abbrev pub invariant-loop-i : goal.invariant-loop-i
invariant-loop-i l = follows_zero l.text (drop l.i l.bytes) ≡ follows_zero l.text l.bytes

abbrev pub decreases-loop-i : goal.decreases-loop-i
decreases-loop-i l = length l.bytes - l.i
