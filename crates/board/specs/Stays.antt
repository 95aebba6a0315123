-- Invariants between two traps: the pages of an enclave that has not been entered.
use Rattle.std.specs.Prelude.{◌≡◌, ℕ, ◌/◌, List, None, true, ⊤}
use Rattle.measurement.specs.Requests.{is_private}
use Rattle.platforms.specs.Platform.{IsLayout, PlatformLayout}
use Rattle.enclave_table.specs.Enclaves.{Live, enclave_at}
use Rattle.enclave_table.specs.declared.enclave.Enclave.{Enclave}
use Rattle.enclave_table.specs.declared.enclave.Stage.TheVariants.{Fresh}
use Rattle.trap_server.specs.Boot.{IsFirstAnswer}
use Rattle.trap_server.specs.declared.trap.Trap.{Trap}
use Rattle.board.specs.Board.{Board, BoardEvent, BoardRun, DoesTrap, HappensOn, trapped}
use Rattle.board.specs.Held.{CanConfine}
use Rattle.board.specs.Headline.{IsPrivateByte}

-- any event except a trap that the loop serves
abbrev pub IsNoTrap : BoardEvent → Type 0
IsNoTrap (trapped trap frame read question answered) = ⊥
IsNoTrap _ = ⊤

-- any number of events without a trap of the loop, on any harts
pub data RunsOn (old : Board) : Board → Type 0 where
  begins : RunsOn old old
  goes_on : {mid new : Board} → RunsOn old mid → (event : BoardEvent) → IsNoTrap event
      → HappensOn event mid new → RunsOn old new

-- no byte of a private page of an enclave that has not been entered changes
abbrev pub KeepsFreshPages : Board → Board → Type 0
KeepsFreshPages old new = (id byte : ℕ) (e : Enclave) → IsPrivateByte old id e byte
    → e.state ≡ Fresh → new.memory byte ≡ old.memory byte

-- after any events, the pages of each enclave that has not been entered do not change until the
-- next trap
abbrev pub FreshPagesStay : Type 0
FreshPagesStay =
    (layout : PlatformLayout) (opened : List ℕ) (events : List BoardEvent) (old new : Board)
    → BoardRun layout opened events old → IsLayout layout → IsFirstAnswer layout opened
    → ((hart : ℕ) → CanConfine (old.csrs hart))
    → RunsOn old new → KeepsFreshPages old new

-- if a trap creates an enclave, after any events, its pages do not change during that trap and
-- until the next one
abbrev pub NewPagesStay : Type 0
NewPagesStay =
    (layout : PlatformLayout) (opened : List ℕ) (events : List BoardEvent) (old mid new : Board)
    (trap : Trap) (frame read question answered : List ℕ)
    → BoardRun layout opened events old → IsLayout layout → IsFirstAnswer layout opened
    → ((hart : ℕ) → CanConfine (old.csrs hart))
    → DoesTrap old trap frame read question answered mid → RunsOn mid new
    → (id byte : ℕ) (e : Enclave) → enclave_at old.monitor.table.enclaves id ≡ None
    → Live mid.monitor.table id e → is_private e.parts (byte / 4096) ≡ true
    → new.memory byte ≡ old.memory byte
