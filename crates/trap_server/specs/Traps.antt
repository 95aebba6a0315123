-- The frame of a trap.
use Rattle.std.specs.Prelude.{◌≡◌, ◌⊎◌, ℕ, ◌-◌, ◌<◌, ◌≤◌, Bool, true, false}
use Rattle.std.specs.Prelude.{List, [], length, Option, Result, Ok, Err}
use Rattle.std.specs.Io.KnownBytes.{Consumes, IsAtEnd}
use Rattle.text_lines.specs.Streams.{WriteFails, GrowsByOne}
use Rattle.sbi_decode.specs.Registers.{RegisterFile, x_of}
use Rattle.trap_server.specs.Words.{word_at, call_tag, stop_tag}
use Rattle.trap_server.specs.FrameBytes.{Breaks}
use Rattle.trap_server.specs.declared.trap.TrapEvent.{TrapEvent}
use Rattle.trap_server.specs.declared.trap.TrapEvent.TheVariants.{Call, Stop}
use Rattle.trap_server.specs.declared.trap.Trap.{Trap}
use Rattle.trap_server.specs.declared.frame_fault.FrameFault.{FrameFault}
use Rattle.trap_server.specs.declared.frame_fault.FrameFault.TheVariants as faults

-- the tag of an event
abbrev pub IsTagOf : TrapEvent → ℕ → Type 0
IsTagOf Call tag = tag ≡ call_tag
IsTagOf Stop tag = tag ≡ stop_tag

-- the words from the third on are a0 to a7, which are x10 to x17; no other registers are in the
-- frame
abbrev pub HasCall : List ℕ → RegisterFile → Type 0
HasCall bytes file = (n : ℕ) → 10 ≤ n → n < 18 → x_of file n ≡ word_at bytes (n - 8)

-- the bytes are the frame of a trap on one of `harts` harts; mie and scounteren follow the
-- registers of a call
pub record IsTrapFrame (bytes : List ℕ) (harts : ℕ) (trap : Trap) : Type 0 where
  pub tag : IsTagOf trap.event (word_at bytes 0)
  pub hart : word_at bytes 1 ≡ trap.hart
  pub known : trap.hart < harts
  pub call : HasCall bytes trap.registers
  pub mie : trap.host.mie ≡ word_at bytes 10
  pub scounteren : trap.host.scounteren ≡ word_at bytes 11

-- the bytes are not a trap frame: they have its size but are invalid, or the input ends within it
abbrev pub IsNoTrap : List ℕ → ℕ → Option (List ℕ) → Type 0
IsNoTrap bytes harts after =
    ((length bytes ≡ 96) × ((trap : Trap) → IsTrapFrame bytes harts trap → ⊥))
    ⊎ ((0 < length bytes) × (length bytes < 96) × IsAtEnd after)

-- the result of reading the next trap, by the bytes consumed: whether there was one, and which
abbrev pub ReadsTrap : Result Bool FrameFault → Trap → ℕ → Option (List ℕ) → Option (List ℕ)
    → Type 0
ReadsTrap (Ok true) trap harts before after = (bytes : List ℕ) × (length bytes ≡ 96)
    × IsTrapFrame bytes harts trap × Consumes before after bytes
ReadsTrap (Ok false) trap harts before after = Consumes before after [] × IsAtEnd after
ReadsTrap (Err faults.NotUnderstood) trap harts before after = (bytes : List ℕ)
    × IsNoTrap bytes harts after × Consumes before after bytes
ReadsTrap (Err faults.Read) trap harts before after = Breaks 96 before after
ReadsTrap (Err faults.Write) trap harts before after = ⊥

-- one read failed if that is the result, and none otherwise
abbrev pub CountsRead : {X : Type 0} → Result X FrameFault → ℕ → ℕ → Type 0
CountsRead (Err faults.Read) before after = GrowsByOne before after
CountsRead _ before after = after ≡ before

-- one write failed or was stalled if that is the result, and none otherwise
abbrev pub CountsWrite : {X : Type 0} → Result X FrameFault → ℕ → ℕ → ℕ → ℕ → Type 0
CountsWrite (Err faults.Write) failures failed stalls stalled =
    WriteFails failures failed stalls stalled
CountsWrite _ failures failed stalls stalled = (failed ≡ failures) × (stalled ≡ stalls)
