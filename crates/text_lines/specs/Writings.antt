-- The effect of a call on a sink.
use Rattle.std.specs.Prelude.{◌≡◌, ℕ, ◌<◌, List, length, take, Option, Result, MatchResult}
use Rattle.std.specs.Io.KnownBytes.{Appends}
use Rattle.text_lines.specs.Streams.{WriteFails}

-- a sink before and after a call: itself, the bytes that it has accepted, its failures, and its
-- writes that accepted none of their bytes
pub record Writing (W : Type 0) : Type 0 where
  pub old : W
  pub new : W
  pub before : Option (List ℕ)
  pub after : Option (List ℕ)
  pub failures : ℕ
  pub failed : ℕ
  pub stalls : ℕ
  pub stalled : ℕ

-- a sink before and after a call, by its own reports
abbrev pub writing : {W : Type 0} → (W → Option (List ℕ)) → (W → ℕ) → (W → ℕ) → W → W → Writing W
writing contents failures stalls old new = record {
  old = old;
  new = new;
  before = contents old;
  after = contents new;
  failures = failures old;
  failed = failures new;
  stalls = stalls old;
  stalled = stalls new;
}

-- nothing was written to the sink
abbrev pub IsUnwritten : {W : Type 0} → Writing W → Type 0
IsUnwritten sink = sink.new ≡ sink.old

-- no write to the sink failed or accepted none of its bytes
abbrev pub IsWell : {W : Type 0} → Writing W → Type 0
IsWell sink = (sink.failed ≡ sink.failures) × (sink.stalled ≡ sink.stalls)

-- a text was written whole, and no write failed or accepted none of its bytes
pub record TakesAll {W : Type 0} (text : List ℕ) (sink : Writing W) : Type 0 where
  pub whole : Appends sink.before sink.after text
  pub well : IsWell sink

-- a proper prefix of a text was accepted
abbrev pub TakesPart : List ℕ → Option (List ℕ) → Option (List ℕ) → Type 0
TakesPart text old new = (n : ℕ) × (n < length text) × Appends old new (take n text)

-- a proper prefix of a text was written, because the device failed or accepted none of its bytes
pub record Breaks {W : Type 0} (text : List ℕ) (sink : Writing W) : Type 0 where
  pub part : TakesPart text sink.before sink.after
  pub fails : WriteFails sink.failures sink.failed sink.stalls sink.stalled

-- the end of a call that writes a text: after an Ok the sink has accepted it whole, after an Err
-- the text breaks off
abbrev pub Prints : {W X Y : Type 0} → List ℕ → Writing W → Result X Y → Type 0
Prints text sink result = MatchResult result (λ _. TakesAll text sink) (λ _. Breaks text sink)

-- as above for some text of a kind
abbrev pub PrintsOne : {W X Y : Type 0} → (List ℕ → Type 0) → Writing W → Result X Y → Type 0
PrintsOne IsText sink result = (text : List ℕ) × IsText text × Prints text sink result
