-- The bytes that a sink holds for a writer.
use Rattle.std.specs.Prelude.{ℕ, ◌≤◌, List, length, take, Option}
use Rattle.std.specs.Io.KnownBytes.{append_known, Appends}
use Rattle.text_lines.specs.declared.held_sink.HeldSink.{HeldSink}

-- the writer of a sink
abbrev pub writer_of : {T : Type 0} → HeldSink T → T
writer_of sink = sink.writer

-- the held bytes
abbrev pub held_in : {T : Type 0} → HeldSink T → List ℕ
held_in sink = sink.held

-- the bytes of the writer followed by those held, if they are known
abbrev pub contents_of : {T : Type 0} → (T → Option (List ℕ)) → HeldSink T → Option (List ℕ)
contents_of contents sink = append_known (contents (writer_of sink)) (held_in sink)

-- the number of failed writes
abbrev pub failed_writes : {T : Type 0} → HeldSink T → ℕ
failed_writes sink = sink.failures

-- the number of writes that accepted none of their bytes
abbrev pub stalled_writes : {T : Type 0} → HeldSink T → ℕ
stalled_writes sink = sink.stalls

-- a writer accepted a prefix of these bytes, or all
abbrev pub TakesFront : List ℕ → Option (List ℕ) → Option (List ℕ) → Type 0
TakesFront bytes old new = (n : ℕ) × (n ≤ length bytes) × Appends old new (take n bytes)
