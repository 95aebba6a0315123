-- A hart that is started without loading the list of the host.
use Rattle.std.specs.Prelude.{◌≡◌, ◌≢◌, ℕ, ◌<◌, ◌==◌, true, false, if◌then◌else◌, List, Ok}
use Rattle.pmp_encoding.specs.declared.region.Entry.{Entry}
use Rattle.pmp_match.specs.Accesses.{Reaches}
use Rattle.pmp_match.specs.Judgement.{Judges}
use Rattle.pmp_match.specs.declared.access.Access.{Access}
use Rattle.pmp_match.specs.declared.access.Mode.TheVariants.{Machine}
use Rattle.board.specs.Board.{Board, DoesAccess, HasEntries}
use Rattle.board.specs.Headline.{IsMonitorByte}

-- a parked hart is started with whatever list it has
pub record StartsAnyhow (old : Board) (hart : ℕ) (new : Board) : Type 0 where
  pub known : hart < old.monitor.table.layout.harts
  pub was_parked : old.parked hart ≡ true
  pub state : new ≡ record old { parked = λ h. if h == hart then false else old.parked h }

-- then its world can access the monitor's pages if its list allows that, and no premise restricts
-- the list of a parked hart
abbrev pub OpensMonitor : Type 0
OpensMonitor =
    (old : Board) (hart byte value : ℕ) (a : Access) (entries : List Entry)
    → hart < old.monitor.table.layout.harts → old.parked hart ≡ true → HasEntries old hart entries
    → a.mode ≢ Machine → Judges entries a (Ok tt) → Reaches a byte → IsMonitorByte old byte
    → (new after : Board) × StartsAnyhow old hart new × DoesAccess new hart a value (Ok tt) after
