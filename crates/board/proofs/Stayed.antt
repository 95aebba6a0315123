-- The pages of an enclave that was not entered stay until the next trap, by induction over what happens.
use Rattle.std.proofs.Common.{◌≡◌, ◌∙◌, ℕ, ◌/◌, List, [], ◌∷◌, ◌++◌, true, refl, ap, subst, sym}
use Rattle.measurement.specs.Requests.{is_private}
use Rattle.platforms.specs.Platform.{IsLayout, PlatformLayout}
use Rattle.enclave_table.specs.Enclaves.{Live}
use Rattle.enclave_table.specs.declared.enclave.Enclave.{Enclave}
use Rattle.monitor_core.specs.States.{MonitorState}
use Rattle.trap_server.specs.Boot.{IsFirstAnswer}
use Rattle.trap_server.specs.declared.trap.Trap.{Trap}
use Rattle.board.specs.Board.{Board, BoardEvent, BoardRun, DoesTrap, HappensOn, IsMemoryByte, access, aside, computed, happened, parks, saved, starts}
use Rattle.board.specs.Board.{trapped, wrote}
use Rattle.board.specs.Headline.{IsPrivateByte, LeavesOthers}
use Rattle.board.specs.Held.{CanConfine}
use Rattle.board.specs.Stays.{IsNoTrap, KeepsFreshPages, RunsOn, begins, goes_on}
use Rattle.board.proofs.Boards.{BoardHolds}
use Rattle.board.proofs.Fresh.{stays_over_access, stays_over_creation}
use Rattle.board.proofs.Here.{call_there, served_here}
use Rattle.board.proofs.Made.{Absent}
use Rattle.board.proofs.New.{new_said}
use Rattle.board.proofs.Private.{private_memory}
use Rattle.board.proofs.Quiet.{aside_kept, computed_kept, csrs_stay, parks_kept, starts_kept, wrote_kept}

module _ (law : BoardHolds) (layout : PlatformLayout) (opened : List ℕ) (rules : IsLayout layout) (answer : IsFirstAnswer layout opened) where
  -- where a board came to while its worlds ran on: after some events, and the monitor is as it was
  record Reached (old new : Board) : Type 0 where
    events : List BoardEvent
    run : BoardRun layout opened events new
    monitor : new.monitor ≡ old.monitor
    csrs : new.csrs ≡ old.csrs
    keeps : KeepsFreshPages old new

  -- a byte that was private is so where the monitor is the same
  still_private : (old mid : Board) (id byte : ℕ) (e : Enclave) → mid.monitor ≡ old.monitor → IsPrivateByte old id e byte → IsPrivateByte mid id e byte
  still_private old mid id byte e same own = (subst (λ (m : MonitorState). Live m.table id e) (sym same) own.0, own.1)

  abbrev Confine : Board → Type 0
  Confine board = (hart : ℕ) → CanConfine (board.csrs hart)

  can_still : (old new : Board) → new.csrs ≡ old.csrs → Confine old → Confine new
  can_still old new same can hart = subst (λ cs. CanConfine (cs hart)) (sym same) (can hart)

  -- an event that is no access
  quiet : (old mid new : Board) (event : BoardEvent) (hart : ℕ) (r : Reached old mid) → Confine old → HappensOn event mid new → LeavesOthers mid hart new
      → Reached old new
  quiet old mid new event hart r can x k = record {
    events = r.events ++ event ∷ [];
    run = happened r.run event x;
    monitor = k.monitor ∙ r.monitor;
    csrs = csrs_stay event mid new x ∙ r.csrs;
    keeps = λ id byte e own fresh.
        let sound = (law layout opened r.events mid r.run rules answer (can_still old mid r.csrs can)).table in
        let here = still_private old mid id byte e r.monitor own in
        k.memory byte (subst (λ (m : MonitorState). IsMemoryByte m.table.layout byte) (sym k.monitor)
        (private_memory mid.monitor.table id byte e sound here.0 here.1))
        ∙ r.keeps id byte e own fresh;
  }

  next : (old mid new : Board) (event : BoardEvent) → IsNoTrap event → Confine old → Reached old mid → HappensOn event mid new → Reached old new
  next old mid new (access hart a value said) none can r x =
      let before = law layout opened r.events mid r.run rules answer (can_still old mid r.csrs can) in
      let after = happened r.run (access hart a value said) x in
      let csrs = csrs_stay (access hart a value said) mid new x ∙ r.csrs in
      let k = (law layout opened (r.events ++ access hart a value said ∷ []) new after rules answer (can_still old new csrs can)).each.1 in
      record {
        events = r.events ++ access hart a value said ∷ [];
        run = after;
        monitor = ap (λ (b : Board). b.monitor) x.state ∙ r.monitor;
        csrs = csrs;
        keeps = λ id byte e own fresh.
            stays_over_access mid hart a said new before.worlds x.up.known k id byte e (still_private old mid id byte e r.monitor own) fresh
            ∙ r.keeps id byte e own fresh;
      }
  next old mid new (computed hart file floats) none can r x =
      let placed = (law layout opened r.events mid r.run rules answer (can_still old mid r.csrs can)).worlds in
      quiet old mid new (computed hart file floats) hart r can x (computed_kept mid hart file floats new placed x).0
  next old mid new (wrote hart words) none can r x = quiet old mid new (wrote hart words) hart r can x (wrote_kept mid hart words new x).0
  next old mid new (aside hart on) none can r x = quiet old mid new (aside hart on) hart r can x (aside_kept mid hart on new x).0
  next old mid new (parks hart) none can r x = quiet old mid new (parks hart) hart r can x (parks_kept mid hart new x)
  next old mid new (starts hart file words) none can r x =
      let placed = (law layout opened r.events mid r.run rules answer (can_still old mid r.csrs can)).worlds in
      quiet old mid new (starts hart file words) hart r can x (starts_kept mid hart file words new placed x).0
  next old mid new (trapped trap frame read question answered) none can r x = absurd none

  reached : (events : List BoardEvent) (old new : Board) → BoardRun layout opened events old → Confine old → RunsOn old new → Reached old new
  reached events old _ run can begins = record { events = events; run = run; monitor = refl; csrs = refl; keeps = λ id byte e own fresh. refl }
  reached events old _ run can (goes_on {mid = mid} {new = new} before event none happens) =
      next old mid new event none can (reached events old mid run can before) happens

  pub fresh_stay : (events : List BoardEvent) (old new : Board) → BoardRun layout opened events old → Confine old → RunsOn old new
      → KeepsFreshPages old new
  fresh_stay events old new run can on = (reached events old new run can on).keeps

  pub new_stay : (events : List BoardEvent) (old mid new : Board) (trap : Trap) (frame read question answered : List ℕ) → BoardRun layout opened events old
      → Confine old → DoesTrap old trap frame read question answered mid → RunsOn mid new → (id byte : ℕ) (e : Enclave) → Absent old.monitor.table id
      → Live mid.monitor.table id e → is_private e.parts (byte / 4096) ≡ true → new.memory byte ≡ old.memory byte
  new_stay events old mid new trap frame read question answered run can x on id byte e none live own =
      let before = law layout opened events old run rules answer can in
      let confine = can_still old mid x.duties.csrs can in
      let after = happened run (trapped trap frame read question answered) x in
      let now = law layout opened (events ++ trapped trap frame read question answered ∷ []) mid after rules answer confine in
      let one = served_here old trap frame read question answered mid x.duties in
      let said = new_said trap.event (saved old trap) trap x.duties.changes read question answered mid.monitor before.table (call_there old trap) one
      id e none live in
      fresh_stay (events ++ trapped trap frame read question answered ∷ []) mid new after confine on id byte e (live, own) said.1
      ∙ stays_over_creation old trap frame read question answered mid now.table x.duties now.each.1.0 id byte e none live own
