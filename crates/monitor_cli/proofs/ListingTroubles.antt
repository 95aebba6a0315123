-- A fault of a listing and its trouble.
use Rattle.std.specs.Prelude.{◌≡◌, ◌⊎◌, ℕ, List}
use Rattle.std.proofs.Common.{inl, inr, refl}
use Rattle.std.specs.Borrow.{Bor}
use Rattle.program_files.specs.declared.trouble.Trouble.TheVariants as troubles
use Rattle.register_audit.specs.declared.fault.ListingFault.{ListingFault}
use Rattle.register_audit.specs.declared.fault.ListingFault.TheVariants as faults
use Rattle.monitor_cli.specs.ListingTroubles.{listing_trouble}

-- which fault it is, with its trouble
pub by_fault :
    (file : Bor (List ℕ)) (fault : ListingFault)
    → ((n : ℕ) × (fault ≡ faults.Line n) × (listing_trouble file fault ≡ troubles.NotUnderstood file n))
    ⊎ (((fault ≡ faults.Memory) × (listing_trouble file fault ≡ troubles.Memory))
    ⊎ ((fault ≡ faults.Device) × (listing_trouble file fault ≡ troubles.Output)))
by_fault file (faults.Line n) = inl (n, refl, refl)
by_fault file faults.Memory = inr (inl (refl, refl))
by_fault file faults.Device = inr (inr (refl, refl))
