-- A board whose traps take time: other harts run between two steps of a trap.
use Rattle.std.specs.Prelude.{◌≡◌, ◌≢◌, ◌⊎◌, ℕ, ◌*◌, ◌/◌, ◌==◌, true, if◌then◌else◌, List, []}
use Rattle.std.specs.Prelude.{◌++◌, ◌∷◌, length}
use Rattle.platforms.specs.Platform.{IsLayout, PlatformLayout}
use Rattle.hart_sim.specs.Memory.{bytes_at, in_range}
use Rattle.trap_server.specs.Words.{word_at}
use Rattle.trap_server.specs.PageDigest.{IsPageFrame}
use Rattle.trap_server.specs.Boot.{IsFirstAnswer}
use Rattle.trap_server.specs.declared.trap.Trap.{Trap}
use Rattle.board.specs.Board.{Board, BoardEvent, BoardRun, HappensOn, IsBooted, TrapDuties}
use Rattle.board.specs.Board.{access, aside, computed, parks, starts, trapped, wrote}
use Rattle.board.specs.Headline.{BoardHeadline}
use Rattle.board.specs.Held.{CanConfine}
use Rattle.board.specs.Stays.{IsNoTrap}

-- an event on another hart that needs no lock: an access, a computation, a write of control words,
-- or a trap that is served without the loop. Other traps, and starts and stops of harts, wait for
-- the lock: a waiting hart makes no event
abbrev pub IsElsewhere : ℕ → BoardEvent → Type 0
IsElsewhere hart (access other a value said) = other ≢ hart
IsElsewhere hart (computed other file floats) = other ≢ hart
IsElsewhere hart (wrote other words) = other ≢ hart
IsElsewhere hart (aside other on) = other ≢ hart
IsElsewhere hart (parks other) = ⊥
IsElsewhere hart (starts other file words) = ⊥
IsElsewhere hart (trapped trap frame read question answered) = ⊥

-- some bytes of these pages are zeroed
pub record ZeroesSome (first count : ℕ) (old new : Board) : Type 0 where
  pub state : new ≡ record old { memory = new.memory }
  pub bytes : (byte : ℕ) → (new.memory byte ≡ old.memory byte)
      ⊎ ((new.memory byte ≡ 0) × (in_range first count (byte / 4096) ≡ true))

-- other harts run while the hart with the lock zeroes pages, piece by piece
pub data Zeroes (hart first count : ℕ) (old : Board) : List BoardEvent → Board → Type 0 where
  none_yet : Zeroes hart first count old [] old
  meanwhile : {events : List BoardEvent} {mid new : Board} → Zeroes hart first count old events mid
      → (event : BoardEvent) → IsElsewhere hart event → HappensOn event mid new
      → Zeroes hart first count old (events ++ event ∷ []) new
  zeroes : {events : List BoardEvent} {mid new : Board} → Zeroes hart first count old events mid
      → ZeroesSome first count mid new → Zeroes hart first count old events new

-- the frame of a page contains the bytes of memory, whichever page it is
abbrev pub HasPage : (ℕ → ℕ) → List ℕ → Type 0
HasPage memory frame = (page : ℕ) (bytes : List ℕ) → IsPageFrame frame page bytes
    → bytes ≡ bytes_at memory (page * 4096) 4096

-- the hart of an event that needs no lock has the list that it has after the trap. A hart whose
-- list changes is stopped first, and makes no event before it has loaded the new one
abbrev pub HasItsList : Board → Board → BoardEvent → Type 0
HasItsList done now (access other a value said) = now.loaded other ≡ done.loaded other
HasItsList done now (computed other file floats) = now.loaded other ≡ done.loaded other
HasItsList done now (wrote other words) = now.loaded other ≡ done.loaded other
HasItsList done now (aside other on) = now.loaded other ≡ done.loaded other
HasItsList done now _ = ⊥

-- one hart loads the list that it has after the trap
abbrev pub loaded_on : ℕ → Board → Board → Board
loaded_on other done board = record board {
  loaded = λ h. if h == other then done.loaded h else board.loaded h;
}

-- once the lists of a trap are stored, harts load theirs, one by one and in any order, other harts
-- run, and the hart with the lock reads pages, each as it is in memory at that moment
pub data OthersRun (hart : ℕ) (done old : Board) : List BoardEvent → List ℕ → Board → Type 0 where
  rests : OthersRun hart done old [] [] old
  loads : {events : List BoardEvent} {read : List ℕ} {mid : Board}
      → OthersRun hart done old events read mid
      → (other : ℕ) → OthersRun hart done old events read (loaded_on other done mid)
  runs : {events : List BoardEvent} {read : List ℕ} {mid new : Board}
      → OthersRun hart done old events read mid
      → (event : BoardEvent) → IsElsewhere hart event → HasItsList done mid event
      → HappensOn event mid new → OthersRun hart done old (events ++ event ∷ []) read new
  reads : {events : List BoardEvent} {read : List ℕ} {mid : Board}
      → OthersRun hart done old events read mid
      → (frame : List ℕ) → length frame ≡ 4112 → HasPage mid.memory frame
      → OthersRun hart done old events (read ++ frame) mid

-- the first part of the effects of a trap: pages are zeroed, and lists of entries are stored. The
-- harts are stopped that have to load another list
abbrev pub changed_lists : Board → Board → Board
changed_lists old done = record old {
  memory = done.memory;
  lists = done.lists;
}

-- the last part of the effects of a trap on a hart, when each hart has loaded its list: the
-- monitor's state with its register sets, and the registers of that hart and of suspended worlds,
-- change
abbrev pub answered_on : ℕ → Board → Board → Board
answered_on hart done board = record board {
  monitor = done.monitor;
  loaded = done.loaded;
  running = λ h. if h == hart then done.running h else board.running h;
  floats = λ h. if h == hart then done.floats h else board.floats h;
  kept = done.kept;
  control = λ h. if h == hart then done.control h else board.control h;
  hosts = λ h. if h == hart then done.hosts h else board.hosts h;
}

-- a trap that takes time. The hart that traps holds the lock and makes no event until the answer
pub record TakesTime (old : Board) (before : List BoardEvent) (trap : Trap)
    (frame read question answered : List ℕ) (others : List BoardEvent) (new : Board) :
    Type 0 where
  -- the pages that the answer names are zeroed while other harts run with the old lists
  pub ready : Board
  pub zeroing : Zeroes trap.hart (word_at answered 6) (word_at answered 7) old before ready
  -- the lists are stored, and the pages are zero then. All steps from this one on together fulfil
  -- the duties at a trap
  pub done : Board
  pub duties : TrapDuties ready trap frame read question answered done
  -- harts load their lists, and the pages that were asked for are read, while other harts run
  pub last : Board
  pub between : OthersRun trap.hart done (changed_lists ready done) others read last
  pub each : (hart : ℕ) → last.loaded hart ≡ done.loaded hart
  -- the trap is answered
  pub answers : new ≡ answered_on trap.hart done last

-- events on such a board, after boot. A trap is listed at the moment when its lists change
pub data TimedRun (layout : PlatformLayout) (opened : List ℕ) : List BoardEvent → Board
    → Type 0 where
  boots : (board : Board) → IsBooted layout opened board → TimedRun layout opened [] board
  happens : {events : List BoardEvent} {old new : Board} → TimedRun layout opened events old
      → (event : BoardEvent) → IsNoTrap event → HappensOn event old new
      → TimedRun layout opened (events ++ event ∷ []) new
  traps : {events before others : List BoardEvent} {old new : Board}
      → TimedRun layout opened events old
      → (trap : Trap) (frame read question answered : List ℕ)
      → TakesTime old before trap frame read question answered others new
      → TimedRun layout opened
      (((events ++ before) ++ trapped trap frame read question answered ∷ []) ++ others) new

-- each run of such a board is a run of a board whose traps take no time, with the same events, the
-- same verdicts, and the same board at the end
abbrev pub TimeIsUnseen : Type 0
TimeIsUnseen =
    (layout : PlatformLayout) (opened : List ℕ) (events : List BoardEvent) (board : Board)
    → TimedRun layout opened events board → IsLayout layout → IsFirstAnswer layout opened
    → ((hart : ℕ) → CanConfine (board.csrs hart))
    → (run : BoardRun layout opened events board) × BoardHeadline layout opened events board run
