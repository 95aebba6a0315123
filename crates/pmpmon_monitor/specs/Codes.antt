-- The status codes for device trees.
use Rattle.std.specs.Prelude.{◌≡◌, ◌⊎◌, ℕ, ℤ, pos}
use Rattle.device_tree.specs.declared.rows.Extent.{Extent}
use Rattle.device_tree.specs.declared.board_fault.BoardReason.TheVariants.{BadRows}
use Rattle.device_tree.specs.declared.rows.RowFault.TheVariants as rows
use Rattle.device_tree.specs.declared.fault.TreeReason.TheVariants as trees
use Rattle.host_tree.specs.declared.fault.HostTreeFault.{HostTreeFault}
use Rattle.host_tree.specs.declared.fault.HostTreeFault.TheVariants.{NotRead, NotMade}
use Rattle.host_tree.specs.declared.fault.MakeFault.TheVariants.{NotUnderstood, BadCells}
use Rattle.host_tree.specs.declared.fault.MakeFault.TheVariants.{NotWritten}
use Rattle.host_tree.specs.declared.write_fault.WriteFault.TheVariants as writes

-- an allocation failed, or could not succeed because the host's tree would have 4 GiB
abbrev pub IsMemory : HostTreeFault → Type 0
IsMemory (NotRead fault) = fault.reason ≡ trees.Memory
IsMemory (NotMade (NotUnderstood reason)) = reason ≡ BadRows rows.Memory
IsMemory (NotMade BadCells) = ⊥
IsMemory (NotMade (NotWritten fault)) = (fault ≡ writes.Memory) ⊎ (fault ≡ writes.TooLarge)

-- the tree cannot be read, or an allocation failed
abbrev pub IsTreeCode : ℤ → Type 0
IsTreeCode code = (code ≡ pos 1) ⊎ (code ≡ pos 3)

-- nothing is written: the tree cannot be read, the host's does not fit, or an allocation failed
abbrev pub IsCode : ℤ → Type 0
IsCode code = (code ≡ pos 1) ⊎ ((code ≡ pos 2) ⊎ (code ≡ pos 3))

-- the extent with this base and size
abbrev pub range : ℕ → ℕ → Extent
range base size = record { base = base; size = size }
