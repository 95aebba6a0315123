-- The last bytes written when the loop ends early.
use Rattle.std.specs.Prelude.{◌≡◌, ◌⊎◌, ◌<◌, ℕ, List, [], ◌++◌, length, take, Option, Result}
use Rattle.std.specs.Prelude.{MatchResult}
use Rattle.std.specs.Io.KnownBytes.{Appends}
use Rattle.text_lines.specs.Streams.{WriteFails, GrowsByOne}
use Rattle.text_lines.specs.Writings.{TakesPart}
use Rattle.trap_server.specs.EndFrames.{end_bytes}
use Rattle.trap_server.specs.declared.end.EndReason.{EndReason}
use Rattle.trap_server.specs.declared.end.EndReason.TheVariants as refusals
use Rattle.trap_server.specs.declared.frame_fault.FrameFault.{FrameFault}
use Rattle.trap_server.specs.declared.frame_fault.FrameFault.TheVariants as frames
use Rattle.trap_server.specs.declared.fault.ServeFault.{ServeFault}
use Rattle.trap_server.specs.declared.fault.ServeFault.TheVariants as faults

-- the bytes are a proper prefix of a frame
abbrev pub IsPart : List ℕ → List ℕ → Type 0
IsPart part frame = (n : ℕ) × (n < length frame) × (part ≡ take n frame)

-- the bytes are `front` followed by a proper prefix of a frame
abbrev pub BreaksOff : List ℕ → List ℕ → List ℕ → Type 0
BreaksOff rest front frame = (part : List ℕ) × IsPart part frame × (rest ≡ front ++ part)

-- the last frame was written with the reason; or a part of it, if the sink failed
abbrev pub Refuses : ServeFault → EndReason → Option (List ℕ) → Option (List ℕ) → Type 0
Refuses result refusal held holds =
    ((result ≡ faults.Refused refusal) × Appends held holds (end_bytes refusal))
    ⊎ ((result ≡ faults.Write) × TakesPart (end_bytes refusal) held holds)

-- the loop ends with a frame's fault: an invalid frame is refused, and after a failed device
-- nothing more is written
abbrev pub EndsAs : ServeFault → FrameFault → Option (List ℕ) → Option (List ℕ) → Type 0
EndsAs result frames.NotUnderstood held holds = Refuses result refusals.NotUnderstood held holds
EndsAs result frames.Read held holds = (result ≡ faults.Read) × Appends held holds []
EndsAs result frames.Write held holds = (result ≡ faults.Write) × Appends held holds []

-- one read failed if that is the fault, and none otherwise
abbrev pub CountsRead : ServeFault → ℕ → ℕ → Type 0
CountsRead faults.Read before after = GrowsByOne before after
CountsRead _ before after = after ≡ before

-- one write failed or was stalled if that is the fault, and none otherwise
abbrev pub CountsWrite : ServeFault → ℕ → ℕ → ℕ → ℕ → Type 0
CountsWrite faults.Write failures failed stalls stalled = WriteFails failures failed stalls stalled
CountsWrite _ failures failed stalls stalled = (failed ≡ failures) × (stalled ≡ stalls)

-- the failed reads of a call that may end in a fault
abbrev pub CountsReads : {X : Type 0} → Result X ServeFault → ℕ → ℕ → Type 0
CountsReads result before after =
    MatchResult result (λ _. after ≡ before) (λ fault. CountsRead fault before after)

-- the failed writes of a call that may end in a fault
abbrev pub CountsWrites : {X : Type 0} → Result X ServeFault → ℕ → ℕ → ℕ → ℕ → Type 0
CountsWrites result failures failed stalls stalled =
    MatchResult result (λ _. (failed ≡ failures)
    × (stalled ≡ stalls)) (λ fault. CountsWrite fault failures failed stalls stalled)

-- the failed reads of a frame's fault
abbrev pub FrameRead : FrameFault → ℕ → ℕ → Type 0
FrameRead frames.Read before after = GrowsByOne before after
FrameRead _ before after = after ≡ before

-- the failed writes of a frame's fault
abbrev pub FrameWrite : FrameFault → ℕ → ℕ → ℕ → ℕ → Type 0
FrameWrite frames.Write failures failed stalls stalled = WriteFails failures failed stalls stalled
FrameWrite _ failures failed stalls stalled = (failed ≡ failures) × (stalled ≡ stalls)
