-- The numbers of the faults of a map.
use Rattle.std.specs.Prelude.{ℕ}
use Rattle.permission_map.specs.declared.fault.MapFault.{MapFault}
use Rattle.permission_map.specs.declared.fault.MapFault.TheVariants.{PastEnd, TooManyRanges, Memory}

-- the number of a fault
abbrev pub map_fault_number : MapFault → ℕ
map_fault_number PastEnd = 1
map_fault_number TooManyRanges = 2
map_fault_number Memory = 3
