-- An enclave that another hart's fence interrupts, and a hart that serves that trap differently.
use Rattle.std.specs.Prelude.{◌≡◌, ◌≢◌, ℕ, ◌==◌, if◌then◌else◌, List}
use Rattle.sbi_decode.specs.Runners.{EnclaveOf}
use Rattle.sbi_decode.specs.declared.world.World.TheVariants.{Enclave as InEnclave}
use Rattle.platforms.specs.Platform.{IsLayout, PlatformLayout}
use Rattle.monitor_core.specs.Switches.{HasExited}
use Rattle.trap_server.specs.Boot.{IsFirstAnswer}
use Rattle.trap_server.specs.Firmware.{AreThose}
use Rattle.trap_server.specs.declared.trap.Trap.{Trap}
use Rattle.board.specs.Board.{Board, BoardEvent, BoardRun, DoesAside, DoesTrap, IsUp}
use Rattle.board.specs.Board.{Resumption, gone_on}
use Rattle.board.specs.Held.{CanConfine}

-- an enclave runs on a hart that serves a trap without the loop, such as another hart's request for
-- a fence; then the hart traps into the loop. Unless the enclave exits in that trap, it keeps the
-- registers that it had before the fence
abbrev pub FenceKeepsEnclave : Type 0
FenceKeepsEnclave =
    (layout : PlatformLayout) (opened : List ℕ) (events : List BoardEvent) (old mid new : Board)
    (id : ℕ) (on : Resumption) (trap : Trap) (frame read question answered : List ℕ)
    → BoardRun layout opened events old → IsLayout layout → IsFirstAnswer layout opened
    → ((hart : ℕ) → CanConfine (old.csrs hart))
    → old.monitor.worlds trap.hart ≡ InEnclave id → DoesAside old trap.hart on mid
    → DoesTrap mid trap frame read question answered new
    → (HasExited mid.monitor new.monitor id → ⊥)
    → AreThose trap.event (old.running trap.hart) (new.monitor.registers (EnclaveOf id))

-- a hart serves such a trap in any world
pub record ServesAnyhow (old : Board) (hart : ℕ) (on : Resumption) (new : Board) : Type 0 where
  pub up : IsUp old hart
  pub state : new ≡ record old {
    running = λ h. if h == hart then gone_on on (old.running h) else old.running h;
  }

-- then any running enclave can lose its registers
abbrev pub LosesRegisters : Type 0
LosesRegisters =
    (old : Board) (hart id : ℕ) → IsUp old hart → old.monitor.worlds hart ≡ InEnclave id
    → (on : Resumption) × (new : Board) × ServesAnyhow old hart on new
    × (new.running hart ≢ old.running hart)
