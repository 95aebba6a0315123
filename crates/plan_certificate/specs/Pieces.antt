-- Bytes sent to a sink piece by piece.
use Rattle.std.specs.Prelude.{◌≡◌, ℕ, ◌<◌, List, ◌++◌, length, Option}
use Rattle.std.specs.Io.KnownBytes.{Appends}
use Rattle.text_lines.specs.Streams.{WriteFails}

-- the bytes that a sink has accepted, if they are known, its number of failures, and how often it
-- accepted none of the bytes offered
pub record Taken : Type 0 where
  pub contents : Option (List ℕ)
  pub failures : ℕ
  pub stalls : ℕ

abbrev pub taken : {W : Type 0} → (W → Option (List ℕ)) → (W → ℕ) → (W → ℕ) → W → Taken
taken contents failures stalls sink =
    record { contents = contents sink; failures = failures sink; stalls = stalls sink }

-- bytes were appended to those held: the sink accepted some from the front without a failure, and
-- the rest is held
pub record IsPut (held holds : List ℕ) (old new : Taken) (bytes : List ℕ) : Type 0 where
  pub went : List ℕ
  pub appended : Appends old.contents new.contents went
  pub left : went ++ holds ≡ held ++ bytes
  pub well : new.failures ≡ old.failures
  pub unstalled : new.stalls ≡ old.stalls

-- the sink failed, or accepted none of the bytes offered, before it had accepted all bytes held and
-- all that follow
pub record IsCut (held : List ℕ) (old new : Taken) (bytes : List ℕ) : Type 0 where
  pub went : List ℕ
  pub missing : List ℕ
  pub appended : Appends old.contents new.contents went
  pub short : went ++ missing ≡ held ++ bytes
  pub some : 0 < length missing
  pub fails : WriteFails old.failures new.failures old.stalls new.stalls
