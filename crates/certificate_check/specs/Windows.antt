-- A source read through a window.
use Rattle.std.specs.Prelude.{◌≡◌, ◌≢◌, ℕ, ◌+◌, ◌-◌, ◌^◌, ◌<◌, ◌≤◌, min, List, [], ◌++◌, length}
use Rattle.std.specs.Prelude.{Option, None, Some, Result, Ok, Err}
use Rattle.std.specs.Io.KnownBytes.{Consumes, IsAtEnd}
use Rattle.text_lines.specs.Streams.{GrowsByOne}
use Rattle.certificate_format.specs.declared.header.Header.{Header}
use Rattle.text_lines.specs.declared.stream_fault.SourceFault.{SourceFault}
use Rattle.text_lines.specs.declared.stream_fault.SourceFault.TheVariants as faults
use Rattle.certificate_check.specs.declared.window.Inflow.{Inflow}
use Rattle.certificate_check.specs.declared.window.Inflow.TheVariants.{Open, AtEnd, TooLarge}
use Rattle.certificate_check.specs.declared.window.Inflow.TheVariants.{Failed}
use Rattle.certificate_check.specs.declared.window.Window.{Window}
use Rattle.certificate_check.specs.declared.refusal.CheckRefusal.{CheckRefusal}
use Rattle.certificate_check.specs.declared.stop.Stop.{Stop}
use Rattle.certificate_check.specs.declared.stop.Stop.TheVariants.{Refused, Unheld}

-- a saturating count in 64 bits
abbrev pub counted : ℕ → ℕ → ℕ
counted came more = min (came + more) (2 ^ 64 - 1)

-- the state of a window and its source: the bytes that the source has yet to deliver, if they are
-- known, and the number of its failures
pub record WindowState : Type 0 where
  pub window : Window
  pub remaining : Option (List ℕ)
  pub failures : ℕ

abbrev pub place : {R : Type 0} → (R → Option (List ℕ)) → (R → ℕ) → Window → R → WindowState
place remaining failures window source =
    record { window = window; remaining = remaining source; failures = failures source }

-- the bytes left to be read in a state, given the final contents of the source and the final count
-- of arrived bytes: those in the window, and those that arrive later
pub record AreLeft (after : Option (List ℕ)) (total : ℕ) (at : WindowState) (left : List ℕ)
    : Type 0 where
  pub later : List ℕ
  pub held : left ≡ at.window.buffer ++ later
  pub consumed : Consumes at.remaining after later
  pub counted : counted at.window.came (length later) ≡ total
  pub closed : at.window.inflow ≢ Open → later ≡ []

-- the reason why no more bytes arrive is right, given the earlier number of failures
abbrev pub IsSoundAs : Inflow → ℕ → WindowState → Type 0
IsSoundAs Open failures at = (at.failures ≡ failures) × (at.window.came ≤ at.window.most)
IsSoundAs AtEnd failures at = (at.failures ≡ failures) × (at.window.came ≤ at.window.most)
    × IsAtEnd at.remaining
IsSoundAs TooLarge failures at = (at.failures ≡ failures) × (at.window.most < at.window.came)
    × (at.window.came < 2 ^ 64)
IsSoundAs Failed failures at = GrowsByOne failures at.failures

abbrev pub IsSound : ℕ → WindowState → Type 0
IsSound failures at = IsSoundAs at.window.inflow failures at

-- from one state to the next, whatever arrives later, the bytes left before and after are in the
-- relation
pub record Reads (old new : WindowState) (P : List ℕ → List ℕ → Type 0) : Type 0 where
  pub most : new.window.most ≡ old.window.most
  pub sound : (failures : ℕ) → IsSound failures old → IsSound failures new
  pub left : (after : Option (List ℕ)) (total : ℕ) (rest : List ℕ) → AreLeft after total new rest
      → (left : List ℕ) × AreLeft after total old left × P left rest

-- the bytes left are unchanged
abbrev pub Stays : List ℕ → List ℕ → Type 0
Stays left rest = left ≡ rest

-- the window has that many bytes, or no more arrive
abbrev pub HasEnough : ℕ → WindowState → Type 0
HasEnough need at = (at.window.inflow ≡ Open) → need ≤ length at.window.buffer

-- a stop with a refusal requires its fault in the bytes; a stop because the entries are not stored
-- has no condition
abbrev pub StandsIn : (CheckRefusal → Type 0) → Stop → Type 0
StandsIn fault (Refused refusal) = fault refusal
StandsIn fault Unheld = Unit {0}

-- the reason why not all bytes arrived
abbrev pub fault_of : Inflow → Option SourceFault
fault_of Open = None
fault_of AtEnd = None
fault_of TooLarge = Some faults.TooLarge
fault_of Failed = Some faults.Read

-- the reason to stop reading if the entries are not stored; a fault of the source takes precedence
abbrev pub stopped_by : Inflow → SourceFault
stopped_by Open = faults.Memory
stopped_by AtEnd = faults.Memory
stopped_by TooLarge = faults.TooLarge
stopped_by Failed = faults.Read

-- the verdict on the bytes, unless the entries are not stored
abbrev pub found_of : Result Header Stop → Option (Result Header CheckRefusal)
found_of (Ok header) = Some (Ok header)
found_of (Err (Refused refusal)) = Some (Err refusal)
found_of (Err Unheld) = None
