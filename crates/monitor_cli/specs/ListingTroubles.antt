-- Failures of commands on listings.
use Rattle.std.specs.Prelude.{ℕ, List}
use Rattle.std.specs.Borrow.{Bor}
use Rattle.program_files.specs.declared.trouble.Trouble.{Trouble}
use Rattle.program_files.specs.declared.trouble.Trouble.TheVariants as troubles
use Rattle.register_audit.specs.declared.fault.ListingFault.{ListingFault}
use Rattle.register_audit.specs.declared.fault.ListingFault.TheVariants as faults

-- the failure for a fault of a listing in a file with this name
abbrev pub listing_trouble : Bor (List ℕ) → ListingFault → Trouble
listing_trouble file (faults.Line n) = troubles.NotUnderstood file n
listing_trouble file faults.Memory = troubles.Memory
listing_trouble file faults.Device = troubles.Output
