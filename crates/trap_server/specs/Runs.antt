-- Runs of the loop.
use Rattle.std.specs.Prelude.{◌≡◌, ◌⊎◌, ℕ, ◌+◌, ◌-◌, ◌^◌, ◌<◌, List, [], ◌++◌, length, Option, ⊤}
use Rattle.std.specs.Io.KnownBytes.{Appends, Consumes}
use Rattle.platforms.specs.Platform.{IsLayout, PlatformLayout}
use Rattle.enclave_table.specs.Boot.{opening_table}
use Rattle.enclave_table.specs.Fewest.{FitsIn}
use Rattle.enclave_table.specs.Views.{host_view}
use Rattle.monitor_core.specs.States.{MonitorState, opening_monitor}
use Rattle.trap_server.specs.declared.trap.Trap.{Trap}
use Rattle.trap_server.specs.Platforms.{IsPlatformFrame}
use Rattle.trap_server.specs.Traps.{IsNoTrap, IsTrapFrame}
use Rattle.trap_server.specs.declared.fault.ServeFault.{ServeFault}
use Rattle.trap_server.specs.declared.fault.ServeFault.TheVariants as faults
use Rattle.trap_server.specs.declared.end.EndReason.TheVariants.{NotUnderstood}
use Rattle.trap_server.specs.EndFrames.{end_bytes}
use Rattle.trap_server.specs.Ends.{IsPart}
use Rattle.trap_server.specs.Boot.{EndsAtFirst, IsFirstAnswer}
use Rattle.trap_server.specs.Service.{ServesAll, given_at}
use Rattle.trap_server.specs.Steps.{Says, StopsTrap}
use Rattle.monitor_core.specs.declared.set_changes.SetChanges.{SetChanges}

-- traps served in turn, from one state to another, with the bytes read for them and the bytes
-- written
pub data ServesTraps (old : MonitorState) : List ℕ → List ℕ → MonitorState → Type 0 where
  no_trap : ServesTraps old [] [] old
  next_trap : {read written : List ℕ} {mid : MonitorState} → ServesTraps old read written mid
      → (trap : Trap) (frame more question answered : List ℕ) (changes : SetChanges)
      (new : MonitorState) → length frame ≡ 96 → IsTrapFrame frame mid.table.layout.harts trap
      → ServesAll mid trap changes more question answered new
      → ServesTraps old (read ++ (frame ++ more)) (written ++ (answered ++ question)) new

-- the number of traps
abbrev pub trap_count : {old : MonitorState} {read written : List ℕ} {new : MonitorState}
    → ServesTraps old read written new → ℕ
trap_count no_trap = 0
trap_count (next_trap served trap frame more question answered changes new size is step) =
    trap_count served + 1

-- each answer contains the changes of register sets and the control words at its trap
abbrev pub AreSaid : {old : MonitorState} {read written : List ℕ} {new : MonitorState}
    → ServesTraps old read written new → Type 0
AreSaid no_trap = ⊤
AreSaid (next_trap {mid = mid} served trap frame more question answered changes new size is step) =
    AreSaid served × Says answered changes (given_at mid new trap)

-- the platform was read, is valid and has enough entries for the host's view, and its answer was
-- written; then traps were served, and after them these bytes were read and written
pub record Ran (before after held holds : Option (List ℕ)) (beyond rest : List ℕ) : Type 0 where
  pub layout : PlatformLayout
  pub first : List ℕ
  pub opened : List ℕ
  pub read : List ℕ
  pub written : List ℕ
  pub state : MonitorState
  pub count : ℕ
  pub size : length first ≡ 1336
  pub platform : IsPlatformFrame first layout
  pub rules : IsLayout layout
  pub fits : FitsIn layout.limit (host_view (opening_table layout))
  pub begins : IsFirstAnswer layout opened
  pub served : ServesTraps (opening_monitor layout) read written state
  pub said : AreSaid served
  pub counted : trap_count served ≡ count
  pub consumed : Consumes before after (first ++ (read ++ beyond))
  pub appended : Appends held holds (opened ++ (written ++ rest))

-- the reason why no trap follows after `count` traps: the bytes are not a trap frame, or there were
-- 2^64 - 1
abbrev pub RefusesNext : ℕ → MonitorState → List ℕ → Option (List ℕ) → Type 0
RefusesNext count s beyond after = IsNoTrap beyond s.table.layout.harts after
    ⊎ ((count ≡ 2 ^ 64 - 1) × (beyond ≡ []))

-- the reason why the loop ends before it reads the next trap, and its output: on a refusal the last
-- frame; if a read failed, nothing, after less than a trap was read; and if a write failed, a part
-- of the last frame
abbrev pub StopsBetween : ServeFault → ℕ → MonitorState → List ℕ → List ℕ → Option (List ℕ) → Type 0
StopsBetween (faults.Refused NotUnderstood) count s beyond rest after =
    RefusesNext count s beyond after × (rest ≡ end_bytes NotUnderstood)
StopsBetween (faults.Refused _) count s beyond rest after = ⊥
StopsBetween faults.Read count s beyond rest after = (length beyond < 96) × (rest ≡ [])
StopsBetween faults.Write count s beyond rest after = RefusesNext count s beyond after
    × IsPart rest (end_bytes NotUnderstood)

-- the next trap was read, and the loop ends while serving it, for this reason
abbrev pub StopsInside : ServeFault → MonitorState → List ℕ → List ℕ → Option (List ℕ) → Type 0
StopsInside fault s beyond rest after =
    (trap : Trap) × (frame read : List ℕ) × (length frame ≡ 96)
    × IsTrapFrame frame s.table.layout.harts trap × StopsTrap fault s trap read rest after
    × (beyond ≡ frame ++ read)

-- the loop ended early, for this reason: before it read a trap, or after some traps, each of which
-- was served and answered. In the latter case more bytes were read and written, before or after it
-- read the next trap
abbrev pub EndsEarly : ServeFault → Option (List ℕ) → Option (List ℕ) → Option (List ℕ)
    → Option (List ℕ) → Type 0
EndsEarly fault before after held holds =
    EndsAtFirst fault before after held holds
    ⊎ ((beyond rest : List ℕ) × (run : Ran before after held holds beyond rest)
    × (StopsBetween fault run.count run.state beyond rest after
    ⊎ StopsInside fault run.state beyond rest after))
