-- The bytes that a read of a whole frame consumes.
use Rattle.std.specs.Prelude.{◌≡◌, ℕ, ◌<◌, ◌≤◌, List, length, take, Option, Result, MatchResult}
use Rattle.std.specs.Io.KnownBytes.{Consumes, IsAtEnd}
use Rattle.text_lines.specs.declared.streams.DeviceFault.{DeviceFault}

-- the first n bytes of a buffer came from the source; n is less than the buffer's size only at the
-- end of the input
pub record Filled (n : ℕ) (buffer : List ℕ) (before after : Option (List ℕ)) : Type 0 where
  pub within : n ≤ length buffer
  pub consumed : Consumes before after (take n buffer)
  pub at_end : n < length buffer → IsAtEnd after

-- the source failed before the buffer was full
abbrev pub Breaks : ℕ → Option (List ℕ) → Option (List ℕ) → Type 0
Breaks room before after = (bytes : List ℕ) × (length bytes < room) × Consumes before after bytes

-- a buffer was filled, or the source failed
abbrev pub Fills : Result ℕ DeviceFault → List ℕ → List ℕ → Option (List ℕ) → Option (List ℕ)
    → Type 0
Fills result old new before after = (length new ≡ length old)
    × MatchResult result (λ n. Filled n new before after) (λ _. Breaks (length old) before after)
