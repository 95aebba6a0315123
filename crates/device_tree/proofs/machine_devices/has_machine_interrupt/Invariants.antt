use Rattle.std.proofs.Common.{◌≡◌, ◌/◌, length}
use Rattle.device_tree.specs.MachineDevices.{has_machine_interrupt}
use Rattle.device_tree.proofs.machine_devices.has_machine_interrupt.Given as goal

abbrev pub invariant-pairs : goal.invariant-pairs
invariant-pairs l = has_machine_interrupt (length l.rest / 8) l.rest ≡ has_machine_interrupt (length l.bytes / 8) l.bytes

abbrev pub decreases-pairs : goal.decreases-pairs
decreases-pairs l = length l.rest
