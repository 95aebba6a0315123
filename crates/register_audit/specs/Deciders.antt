-- The entry of registers that decides an access.
use Rattle.std.specs.Prelude.{ℕ, ◌<◌, Option, Some, None}
use Rattle.pmp_match.specs.declared.deciders.Decider.{Decider}
use Rattle.pmp_match.specs.declared.access.Access.{Access}
use Rattle.pmp_match.specs.declared.registers.Registers.{Registers}
use Rattle.register_audit.specs.Decision.{IsDecidedAt, Misses}

-- the entry that decides under the registers, with its number and the addresses that it matches; or
-- no entry decides
abbrev pub by_entry : Registers → Access → Option Decider → Type 0
by_entry registers a None = (place : ℕ) → place < 64 → Misses registers a place
by_entry registers a (Some found) = IsDecidedAt registers a found.number found.extent
