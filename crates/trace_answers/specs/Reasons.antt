-- The reason for the outcome of an access.
use Rattle.std.specs.Prelude.{◌≡◌, ℕ, ◌+◌, ◌^◌, ◌<◌, ◌≤◌, ◌&&◌, nat_le, Bool, Option, Some, None}
use Rattle.pmp_encoding.specs.declared.extent.Extent.{Extent}
use Rattle.pmp_match.specs.declared.access.Access.{Access}
use Rattle.pmp_match.specs.Accesses.{IsAligned}
use Rattle.pmp_match.specs.declared.deciders.Decider.{Decider}
use Rattle.trace_answers.specs.declared.reasons.Reason.{Reason}
use Rattle.trace_answers.specs.declared.reasons.Reason.TheVariants as reasons

-- the entry that decides each access, if there is one
abbrev pub Decides : Type 1
Decides = Access → Option Decider → Type 0

-- the extent contains each byte of the access
abbrev pub has_all : Extent → Access → Bool
has_all x a = nat_le x.base a.address && nat_le (a.address + a.size) x.end

-- the reason for the outcome of an access: first misalignment, then an address outside the space,
-- and then the entry that decides it
pub data IsReason (decides : Decides) (a : Access) : Reason → Type 0 where
  misaligned : ¬ IsAligned a → IsReason decides a reasons.Misaligned
  outside : IsAligned a → 2 ^ 56 ≤ a.address → IsReason decides a reasons.Outside
  no_entry : IsAligned a → a.address < 2 ^ 56 → decides a None → IsReason decides a reasons.NoEntry
  entry : IsAligned a → a.address < 2 ^ 56 → (found : Decider) → decides a (Some found)
      → IsReason decides a (reasons.Entry found.number found.extent (has_all found.extent a))
