-- Traps that lack one of their duties, and what fails after them.
use Rattle.std.specs.Prelude.{◌≡◌, ◌≢◌, ℕ, ◌==◌, if◌then◌else◌, List, [], ◌∷◌, ◌++◌}
use Rattle.platforms.specs.Platform.{IsLayout, PlatformLayout}
use Rattle.sbi_decode.specs.Registers.{RegisterFile}
use Rattle.sbi_decode.specs.Runners.{Runner, EnclaveOf}
use Rattle.sbi_decode.specs.declared.world.World.TheVariants.{Host, Enclave as InEnclave}
use Rattle.monitor_core.specs.Changes.{is_same}
use Rattle.monitor_core.specs.Switches.{HasExited}
use Rattle.trap_server.specs.Boot.{IsFirstAnswer}
use Rattle.trap_server.specs.declared.trap.Trap.{Trap}
use Rattle.trap_server.specs.declared.trap.TrapEvent.TheVariants.{Stop}
use Rattle.board.specs.Board.{Board, BoardEvent, BoardRun, DoesTrap, HasEnded, computed}
use Rattle.board.specs.Held.{CanConfine}

-- a board with other integer registers on one hart
abbrev pub with_file : Board → ℕ → RegisterFile → Board
with_file board hart file = record board {
  running = λ h. if h == hart then file else board.running h;
}

-- a trap with registers that the hart does not have
abbrev pub ComesAnyhow : Board → Trap → List ℕ → List ℕ → List ℕ → List ℕ → Board → Type 0
ComesAnyhow old trap frame read question answered new = (file : RegisterFile)
    × DoesTrap (with_file old trap.hart file) trap frame read question answered new

-- then an enclave can lose its registers: wherever the timer stops one, it could have computed
-- something before, of which nothing is left
abbrev pub LosesAtTrap : Type 0
LosesAtTrap =
    (layout : PlatformLayout) (opened : List ℕ) (events : List BoardEvent) (old : Board)
    (trap : Trap) (frame read question answered : List ℕ) (new : Board) (id : ℕ)
    → BoardRun layout opened events old → IsLayout layout → IsFirstAnswer layout opened
    → ((hart : ℕ) → CanConfine (old.csrs hart))
    → DoesTrap old trap frame read question answered new → trap.event ≡ Stop
    → old.monitor.worlds trap.hart ≡ InEnclave id
    → (HasExited old.monitor new.monitor id → ⊥)
    → (file : RegisterFile) × (mid : Board)
    × BoardRun layout opened (events ++ computed trap.hart file (old.floats trap.hart) ∷ []) mid
    × ComesAnyhow mid trap frame read question answered new
    × (new.monitor.registers (EnclaveOf id) ≢ mid.running trap.hart)

-- a trap after which a hart resumes with any registers
abbrev pub ResumesAnyhow : Board → Trap → List ℕ → List ℕ → List ℕ → List ℕ → Board → Type 0
ResumesAnyhow old trap frame read question answered new = (done : Board)
    × DoesTrap old trap frame read question answered done
    × (new ≡ with_file done trap.hart (new.running trap.hart))

-- then a host can have an enclave's registers: wherever it comes back after one
abbrev pub ShowsRegisters : Type 0
ShowsRegisters =
    (layout : PlatformLayout) (opened : List ℕ) (events : List BoardEvent) (old : Board)
    (trap : Trap) (frame read question answered : List ℕ) (done : Board) (id : ℕ)
    → BoardRun layout opened events old → DoesTrap old trap frame read question answered done
    → old.monitor.worlds trap.hart ≡ InEnclave id → done.monitor.worlds trap.hart ≡ Host
    → (new : Board) × ResumesAnyhow old trap frame read question answered new
    × (new.monitor.worlds trap.hart ≡ Host) × (new.running trap.hart ≡ old.running trap.hart)

-- a trap that keeps anything as the floating-point registers of an enclave that ends
abbrev pub EndsAnyhow : Runner → Board → Trap → List ℕ → List ℕ → List ℕ → List ℕ → Board
    → Type 0
EndsAnyhow who old trap frame read question answered new = (done : Board)
    × DoesTrap old trap frame read question answered done
    × HasEnded old.monitor done.monitor who
    × (new ≡ record done { kept = λ r. if is_same r who then new.kept who else done.kept r })

-- then these registers can stay in the monitor's memory: wherever an enclave exits
abbrev pub KeepsSecrets : Type 0
KeepsSecrets =
    (layout : PlatformLayout) (opened : List ℕ) (events : List BoardEvent) (old : Board)
    (trap : Trap) (frame read question answered : List ℕ) (done : Board) (id : ℕ)
    → BoardRun layout opened events old → DoesTrap old trap frame read question answered done
    → old.monitor.worlds trap.hart ≡ InEnclave id
    → HasEnded old.monitor done.monitor (EnclaveOf id)
    → (new : Board) × EndsAnyhow (EnclaveOf id) old trap frame read question answered new
    × (new.kept (EnclaveOf id) ≡ old.floats trap.hart)
