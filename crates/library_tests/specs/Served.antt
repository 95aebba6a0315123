-- The state after traps were served, and of a board on which an enclave is destroyed.
use Rattle.std.specs.Prelude.{◌≡◌, ◌≢◌, ℕ, ◌/◌, ◌<◌, true, false, List, [], Option, Result, Err}
use Rattle.pmp_match.specs.declared.access.Access.{Access}
use Rattle.pmp_match.specs.declared.cause.Cause.{Cause}
use Rattle.pmp_match.specs.Accesses.{Reaches}
use Rattle.sbi_decode.specs.declared.world.World.TheVariants.{Host, Enclave as InEnclave}
use Rattle.measurement.specs.Requests.{is_private}
use Rattle.platforms.specs.Platform.{IsLayout, PlatformLayout}
use Rattle.enclave_table.specs.Views.{current_view, host_view}
use Rattle.monitor_core.specs.Switches.{IsGone}
use Rattle.trap_server.specs.Boot.{IsFirstAnswer}
use Rattle.trap_server.specs.Firmware.{FirmwareHeadline, HasFewest, loaded_last}
use Rattle.trap_server.specs.Runs.{Ran}
use Rattle.trap_server.specs.declared.trap.Trap.{Trap}
use Rattle.board.specs.Board.{Board, BoardEvent, BoardRun, DoesAccess, DoesTrap}
use Rattle.board.specs.Held.{CanConfine}

-- the firmware's theorem applies to a run; so each hart that is in the host's world at its end has
-- loaded the fewest entries of the host's view
abbrev pub IsKnown : {before after held holds : Option (List ℕ)}
    → Ran before after held holds [] [] → Type 0
IsKnown run =
    FirmwareHeadline run.layout run.opened run.read run.written run.state run.served
    × ((hart : ℕ) → hart < run.layout.harts → run.state.worlds hart ≡ Host
    → HasFewest (loaded_last run.opened run.served hart) run.layout.limit
    (host_view run.state.table))

-- an enclave is live on one board and gone on the next. On the first, an access of its private
-- bytes by any other world is a fault; on the second they are zero, and each hart that is not
-- parked has loaded the fewest entries of its world's view
pub record IsWiped (layout : PlatformLayout) (old new : Board) (id : ℕ)
    (gone : IsGone old.monitor new.monitor id) : Type 0 where
  pub closed : (hart : ℕ) (a : Access) (value : ℕ) (said : Result (Unit {0}) Cause)
      (after : Board) (byte : ℕ) → DoesAccess old hart a value said after
      → is_private gone.0.parts (byte / 4096) ≡ true → Reaches a byte
      → old.monitor.worlds hart ≢ InEnclave id → (cause : Cause) × (said ≡ Err cause)
  pub zero : (byte : ℕ) → is_private gone.0.parts (byte / 4096) ≡ true → new.memory byte ≡ 0
  pub entries : (hart : ℕ) → hart < layout.harts → new.parked hart ≡ false
      → HasFewest (new.loaded hart) layout.limit
      (current_view new.monitor.table (new.monitor.worlds hart))

-- this holds when a trap destroys an enclave on a board, after any events
abbrev pub WipesDestroyed : Type 0
WipesDestroyed =
    (layout : PlatformLayout) (opened : List ℕ) (events : List BoardEvent) (old : Board)
    (trap : Trap) (frame read question answered : List ℕ) (new : Board)
    → BoardRun layout opened events old → DoesTrap old trap frame read question answered new
    → IsLayout layout → IsFirstAnswer layout opened → ((hart : ℕ) → CanConfine (old.csrs hart))
    → (id : ℕ) (gone : IsGone old.monitor new.monitor id) → IsWiped layout old new id gone
