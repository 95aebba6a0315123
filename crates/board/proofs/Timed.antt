-- A board whose traps take time is one whose traps take none: what other harts do in between does not see the last step.
use Rattle.std.proofs.Common.{◌≡◌, ◌≢◌, ◌∙◌, inl, inr, ℕ, ◌+◌, ◌*◌, ◌/◌, ◌<◌, ◌≤◌, ◌==◌, nat_le, nat_lt, true, false, if◌then◌else◌, List, [], ◌∷◌, ◌++◌}
use Rattle.std.proofs.Common.{append_assoc, append-nil, refl, ap, ap₂, sym, subst, arith}
use Rattle.std.proofs.lemmas.Bool.{and_from, both_ways, eq-eqb, eqb-true, le-leb, lt-ltb, ne_eqb}
use Rattle.pmp_encoding.specs.Limits.{limit_number}
use Rattle.pmp_encoding.specs.Lists.{MeansList}
use Rattle.measurement.specs.Digests.{pages_from}
use Rattle.measurement.specs.Requests.{is_private}
use Rattle.platforms.specs.Platform.{IsLayout, PlatformLayout}
use Rattle.sbi_decode.specs.Registers.{RegisterFile}
use Rattle.sbi_decode.specs.Runners.{Runner}
use Rattle.enclave_table.specs.Enclaves.{Live}
use Rattle.enclave_table.specs.Tables.{IsTable}
use Rattle.enclave_table.specs.Views.{current_view}
use Rattle.enclave_table.specs.declared.enclave.Enclave.{Enclave}
use Rattle.enclave_table.specs.declared.enclave.Stage.TheVariants.{Fresh}
use Rattle.monitor_core.proofs.Cases.{both}
use Rattle.monitor_core.specs.States.{MonitorState, opening_monitor}
use Rattle.monitor_core.specs.Worlds.{ArePlaced}
use Rattle.hart_sim.specs.Memory.{bytes_at}
use Rattle.trap_server.specs.Boot.{IsFirstAnswer}
use Rattle.trap_server.specs.Firmware.{FirmwareHeadline, HasFewest, KeepsTrap, loaded_pairs}
use Rattle.trap_server.specs.PageDigest.{ArePages, IsPageFrame, next_page, no_page}
use Rattle.trap_server.specs.Runs.{ServesTraps, next_trap}
use Rattle.trap_server.specs.Sets.{with_sets}
use Rattle.trap_server.specs.Words.{word_at}
use Rattle.trap_server.specs.declared.trap.Trap.{Trap}
use Rattle.board.specs.Board.{Board, BoardEvent, BoardRun, HappensOn, HasMemory, IsMemoryByte, IsUp, MayGoOn, MayWrite, ReadsMemory, TrapDuties}
use Rattle.board.specs.Board.{access, aside, booted, computed, gone_on, happened, memory_after, parks, saved, starts, trapped, wrote}
use Rattle.board.specs.Headline.{read_on, written_on}
use Rattle.board.specs.Held.{CanConfine}
use Rattle.board.specs.Timed.{HasItsList, IsElsewhere, OthersRun, TimedRun, answered_on, boots, changed_lists, happens, loads, reads, rests, runs, traps}
use Rattle.board.proofs.Accessed.{StepsPromise, access_kept}
use Rattle.board.proofs.Asked.{frames_of_memory}
use Rattle.board.proofs.Boards.{BoardHolds, trap_banks}
use Rattle.board.proofs.Fresh.{none_gone, same_bytes, stays_over_access}
use Rattle.board.proofs.Here.{call_there, served_here}
use Rattle.board.proofs.New.{read_new}
use Rattle.board.proofs.PageFrames.{ends, next, no_frame}
use Rattle.board.proofs.Private.{private_memory}
use Rattle.board.proofs.Quiet.{csrs_stay, put_far}
use Rattle.board.proofs.Trapped.{all_stay, memory_is}
use Rattle.board.proofs.Zeroing.{duties_there, not_yet, unzeroed, zeroes_csrs}

-- what the firmware's theorem says
abbrev FirmwareHolds : Type 0
FirmwareHolds =
    (layout : PlatformLayout) (opened read written : List ℕ) (s : MonitorState) (served : ServesTraps (opening_monitor layout) read written s)
    → IsLayout layout → IsFirstAnswer layout opened → FirmwareHeadline layout opened read written s served

-- what is put on two harts, in either order
swap : {A : Type 0} (h g k : ℕ) (x y z : A) → g ≢ h → (if k == h then x else (if k == g then y else z)) ≡ (if k == g then y else (if k == h then x else z))
swap h g k x y z differ = both (k == h)
    (λ yes.
    let off : (k == g) ≡ false = ne_eqb k g (λ same. differ (sym same ∙ eqb-true k h yes)) in
    ap (λ b. if b then x else (if k == g then y else z)) yes
    ∙ sym (ap (λ b. if b then y else (if k == h then x else z)) off ∙ ap (λ b. if b then x else z) yes))
    (λ no. ap (λ b. if b then x else (if k == g then y else z)) no ∙ sym (ap (λ b. if k == g then y else (if b then x else z)) no))

-- the same where what is put goes by what is there
swap_by : {A : Type 0} (h g k : ℕ) (x z : A) (f : A → A) → g ≢ h
    → (if k == h then x else (if k == g then f z else z)) ≡ (if k == g then f (if k == h then x else z) else (if k == h then x else z))
swap_by h g k x z f differ = both (k == h)
    (λ yes.
    let off : (k == g) ≡ false = ne_eqb k g (λ same. differ (sym same ∙ eqb-true k h yes)) in
    ap (λ b. if b then x else (if k == g then f z else z)) yes
    ∙ sym (ap (λ b. if b then f (if k == h then x else z) else (if k == h then x else z)) off ∙ ap (λ b. if b then x else z) yes))
    (λ no. ap (λ b. if b then x else (if k == g then f z else z)) no
    ∙ sym (ap (λ b. if k == g then f (if b then x else z) else (if b then x else z)) no))

-- the last step of a trap on a hart, and the board on which other harts run
module _ (h : ℕ) (done : Board) where
  abbrev after : Board → Board
  after board = answered_on h done board

  -- the harts are the same, and the worlds of the others
  record Agrees (board : Board) : Type 0 where
    layout : done.monitor.table.layout ≡ board.monitor.table.layout
    worlds : (g : ℕ) → g ≢ h → done.monitor.worlds g ≡ board.monitor.worlds g

  up_after : (board : Board) (g : ℕ) → Agrees board → IsUp board g → IsUp (after board) g
  up_after board g a up = record { known = subst (λ l. g < l.harts) (sym a.layout) up.known; started = up.started }

  memory_stays : (board : Board) (bytes : ℕ → ℕ) → Agrees board → HasMemory board bytes → HasMemory (after board) bytes
  memory_stays board bytes a memory byte there = memory byte (subst (λ l. IsMemoryByte l byte) a.layout there)

  agrees_on : (old new : Board) → new.monitor ≡ old.monitor → Agrees old → Agrees new
  agrees_on old new same a = record {
    layout = a.layout ∙ sym (ap (λ (m : MonitorState). m.table.layout) same);
    worlds = λ g differ. a.worlds g differ ∙ sym (ap (λ (m : MonitorState). m.worlds g) same);
  }

  -- an event of another hart happens after the last step as before it
  moved : (event : BoardEvent) (old new : Board) → Agrees old → IsElsewhere h event → HasItsList done old event → HappensOn event old new
      → HappensOn event (after old) (after new) × Agrees new
  moved (access g a value said) old new agrees differ its x =
      let now = agrees_on old new (ap (λ (b : Board). b.monitor) x.state) agrees in (
        record {
          up = up_after old g agrees x.up;
          below = x.below;
          entries = x.entries;
          loaded = subst (λ l. MeansList (loaded_pairs (done.loaded g) 0 (limit_number l.limit)) x.entries) (sym agrees.layout)
              (subst (λ bytes. MeansList (loaded_pairs bytes 0 (limit_number old.monitor.table.layout.limit)) x.entries) its x.loaded);
          judged = x.judged;
          memory = memory_stays new (memory_after said old.memory a value) now x.memory;
          state = ap after x.state;
        },
        now,
      )
  moved (computed g file floats) old new agrees differ its x =
      let now = agrees_on old new (ap (λ (b : Board). b.monitor) x.state) agrees in (
        record {
          up = up_after old g agrees x.up;
          memory = memory_stays new old.memory now x.memory;
          state = ap after x.state ∙ (λ i. record (after old) {
            memory = new.memory;
            running = λ k. swap h g k (done.running k) file (old.running k) differ i;
            floats = λ k. swap h g k (done.floats k) floats (old.floats k) differ i;
          });
        },
        now,
      )
  moved (wrote g words) old new agrees differ its x =
      let now = agrees_on old new (ap (λ (b : Board). b.monitor) x.state) agrees in (
        record {
          up = up_after old g agrees x.up;
          may = subst (λ w. MayWrite w ((after old).control g) words) (sym (agrees.worlds g differ))
              (subst (λ had. MayWrite (old.monitor.worlds g) had words) (sym (put_far h g (done.control g) (old.control g) differ)) x.may);
          can = x.can;
          memory = memory_stays new old.memory now x.memory;
          state = ap after x.state ∙ (λ i. record (after old) {
            memory = new.memory;
            control = λ k. swap h g k (done.control k) words (old.control k) differ i;
          });
        },
        now,
      )
  moved (aside g on) old new agrees differ its x =
      let now = agrees_on old new (ap (λ (b : Board). b.monitor) x.state) agrees in (
        record {
          up = up_after old g agrees x.up;
          may = subst (λ w. MayGoOn w on) (sym (agrees.worlds g differ)) x.may;
          memory = memory_stays new old.memory now x.memory;
          state = ap after x.state ∙ (λ i. record (after old) {
            memory = new.memory;
            running = λ k. swap_by h g k (done.running k) (old.running k) (gone_on on) differ i;
          });
        },
        now,
      )
  moved (parks g) old new agrees none its x = absurd none
  moved (starts g file words) old new agrees none its x = absurd none
  moved (trapped trap frame read question answered) old new agrees none its x = absurd none

-- what is put on a hart that has it
put_same : {A : Type 0} (h k : ℕ) (f g : ℕ → A) → (k ≢ h → f k ≡ g k) → (if k == h then f k else g k) ≡ f k
put_same h k f g same = both (k == h)
    (λ yes. ap (λ b. if b then f k else g k) yes)
    (λ no. ap (λ b. if b then f k else g k) no ∙ sym (same (λ is. both_ways (k == h) no (eq-eqb k h is))))

-- both steps at once are the trap
at_once : (old : Board) (trap : Trap) (frame read question answered : List ℕ) (done : Board) → TrapDuties old trap frame read question answered done
    → answered_on trap.hart done (changed_lists old done) ≡ done
at_once old trap frame read question answered done x = λ i. record done {
  parked = sym x.parked i;
  csrs = sym x.csrs i;
  running = λ k. put_same trap.hart k done.running old.running (x.running.others k) i;
  floats = λ k. put_same trap.hart k done.floats old.floats (x.floats.harts k) i;
  control = λ k. put_same trap.hart k done.control old.control (x.control.harts k) i;
  hosts = λ k. put_same trap.hart k done.hosts old.hosts (x.control.others k) i;
}

-- an event of another hart leaves which are parked
parked_stay : (h : ℕ) (event : BoardEvent) (old new : Board) → IsElsewhere h event → HappensOn event old new → new.parked ≡ old.parked
parked_stay h (access g a value said) old new differ x = ap (λ (b : Board). b.parked) x.state
parked_stay h (computed g file floats) old new differ x = ap (λ (b : Board). b.parked) x.state
parked_stay h (wrote g words) old new differ x = ap (λ (b : Board). b.parked) x.state
parked_stay h (aside g on) old new differ x = ap (λ (b : Board). b.parked) x.state
parked_stay h (parks g) old new none x = absurd none
parked_stay h (starts g file words) old new none x = absurd none
parked_stay h (trapped trap frame read question answered) old new none x = absurd none

-- what holds of a board that a trap leaves, whichever pages it read
record Leaves (layout : PlatformLayout) (h : ℕ) (done start : Board) : Type 0 where
  agrees : Agrees h done start
  banks : (g : ℕ) → g < layout.harts → done.parked g ≡ false
      → HasFewest (done.loaded g) layout.limit (current_view done.monitor.table (done.monitor.worlds g))

module _ (steps : StepsPromise) (layout : PlatformLayout) (h : ℕ) (done : Board) (sound : IsTable done.monitor.table) (placed : ArePlaced done.monitor)
    (platform : done.monitor.table.layout ≡ layout)
    (banks : (g : ℕ) → g < layout.harts → done.parked g ≡ false
    → HasFewest (done.loaded g) layout.limit (current_view done.monitor.table (done.monitor.worlds g))) where
  -- a byte of a private page of an enclave that was not entered
  abbrev IsFreshByte : ℕ → Type 0
  IsFreshByte byte = (id : ℕ) × (e : Enclave) × Live done.monitor.table id e × (e.state ≡ Fresh) × (is_private e.parts (byte / 4096) ≡ true)

  in_memory : (byte : ℕ) → IsFreshByte byte → IsMemoryByte done.monitor.table.layout byte
  in_memory byte own = private_memory done.monitor.table own.0 byte own.1 sound own.2 own.4

  -- no event of another hart changes it
  still : (event : BoardEvent) (old new : Board) → old.parked ≡ done.parked → IsElsewhere h event
      → HappensOn event (answered_on h done old) (answered_on h done new) → (byte : ℕ) → IsFreshByte byte → new.memory byte ≡ old.memory byte
  still (access g a value said) old new parked differ x byte own =
      let low : g < layout.harts = subst (λ l. g < l.harts) platform x.up.known in
      let up : done.parked g ≡ false = sym (ap (λ p. p g) parked) ∙ x.up.started in
      let fewest = subst (λ l. HasFewest (done.loaded g) l.limit (current_view done.monitor.table (done.monitor.worlds g))) (sym platform)
      (banks g low up) in
      let k = access_kept steps (answered_on h done old) g a value said (answered_on h done new) sound fewest x in
      stays_over_access (answered_on h done old) g a said (answered_on h done new) placed x.up.known k own.0 byte own.1 (own.2, own.4) own.3
  still (computed g file floats) old new parked differ x byte own = x.memory byte (in_memory byte own)
  still (wrote g words) old new parked differ x byte own = x.memory byte (in_memory byte own)
  still (aside g on) old new parked differ x byte own = x.memory byte (in_memory byte own)
  still (parks g) old new parked none x byte own = absurd none
  still (starts g file words) old new parked none x byte own = absurd none
  still (trapped trap frame read question answered) old new parked none x byte own = absurd none

  -- what other harts leave of a board from which they run
  record Along (start board : Board) : Type 0 where
    agrees : Agrees h done board
    parked : board.parked ≡ done.parked
    keeps : (byte : ℕ) → IsFreshByte byte → board.memory byte ≡ start.memory byte

  along : (start : Board) (events : List BoardEvent) (read : List ℕ) (board : Board) → Agrees h done start → start.parked ≡ done.parked
      → OthersRun h done start events read board → Along start board
  along start _ _ _ a parked rests = record { agrees = a; parked = parked; keeps = λ byte own. refl }
  along start _ _ _ a parked (loads {events = so_far} {read = read} {mid = mid} others other) =
      let before = along start so_far read mid a parked others in
      record { agrees = record { layout = before.agrees.layout; worlds = before.agrees.worlds }; parked = before.parked; keeps = before.keeps }
  along start _ _ _ a parked (runs {events = so_far} {read = read} {mid = mid} {new = new} others event differ its x) =
      let before = along start so_far read mid a parked others in
      let next = moved h done event mid new before.agrees differ its x in
      record {
        agrees = next.1;
        parked = parked_stay h event mid new differ x ∙ before.parked;
        keeps = λ byte own. still event mid new before.parked differ next.0 byte own ∙ before.keeps byte own;
      }
  along start _ _ _ a parked (reads {events = so_far} {read = read} {mid = mid} others frame size has) =
      along start so_far read mid a parked others

  -- pages that are read in between are as they were, if they are private to an enclave that was not entered
  as_they_were : (start : Board) (events : List BoardEvent) (read : List ℕ) (board : Board) → Agrees h done start → start.parked ≡ done.parked
      → OthersRun h done start events read board → (memory : ℕ → ℕ) → ((byte : ℕ) → IsFreshByte byte → start.memory byte ≡ memory byte)
      → (first all : ℕ) (known : List ℕ) (pages : List (List ℕ)) → known ≡ read → ArePages first all known pages
      → ((byte : ℕ) → first ≤ byte / 4096 → byte / 4096 < first + all → IsFreshByte byte)
      → (from many : ℕ) (these : List ℕ) (got : List (List ℕ)) → these ≡ read → ArePages from many these got
      → got ≡ pages_from (λ page. bytes_at memory (page * 4096) 4096) from many
  as_they_were start _ _ _ a parked rests memory same first all known pages is are fresh from _ _ _ that no_page = refl
  as_they_were start _ _ _ a parked rests memory same first all known pages is are fresh from _ _ _ that
      (next_page {read = r} these frame bytes frame_is) = no_frame r frame frame_is.size that
  as_they_were start _ _ _ a parked (loads {events = so_far} {read = read} {mid = mid} others other) memory same first all known pages is are fresh from
      many these got that got_are =
      as_they_were start so_far read mid a parked others memory same first all known pages is are fresh from many these got that got_are
  as_they_were start _ _ _ a parked (runs {events = so_far} {read = read} {mid = mid} {new = new} others event differ its x) memory same first all known
      pages is are fresh from many these got that got_are =
      as_they_were start so_far read mid a parked others memory same first all known pages is are fresh from many these got that got_are
  as_they_were start _ _ _ a parked (reads {read = read} others frame size has) memory same first _ _ _ is no_page fresh from many these got that
      got_are = no_frame read frame size (sym is)
  as_they_were start _ _ _ a parked (reads {read = read} others frame size has) memory same first _ _ _ is
      (next_page {read = r} are other bytes other_is) fresh from _ _ _ that no_page = no_frame read frame size (sym that)
  as_they_were start _ _ _ a parked (reads {events = so_far} {read = read} {mid = mid} others frame size has) memory same first _ _ _ is
      (next_page {count = count} {read = r} {pages = pages} are other bytes other_is) fresh from _ _ _ that
      (next_page {count = many} {read = r2} {pages = got} got_are this these this_is) =
      let known = ends r read other frame (other_is.size ∙ sym size) is in
      let own = ends r2 read this frame (this_is.size ∙ sym size) that in
      let page : from + many ≡ first + count = sym this_is.number ∙ ap (λ f. word_at f 1) (own.1 ∙ sym known.1) ∙ other_is.number in
      let was = along start so_far read mid a parked others in
      let held : these ≡ bytes_at mid.memory ((from + many) * 4096) 4096 = has (from + many) these
      (subst (λ f. IsPageFrame f (from + many) these) own.1 this_is) in
      let stays : bytes_at mid.memory ((from + many) * 4096) 4096 ≡ bytes_at memory ((from + many) * 4096) 4096 =
      same_bytes mid.memory memory ((from + many) * 4096) 4096 (λ byte low high.
      let here : byte / 4096 ≡ first + count = omega (arith, low, high, page) in
      let its = fresh byte (omega (arith, here)) (omega (arith, here)) in
      was.keeps byte its ∙ same byte its) in
      subst (λ n. got ++ these ∷ [] ≡ pages_from (λ page. bytes_at memory (page * 4096) 4096) from n) (next many)
      (ap₂ (λ ps b. ps ++ b ∷ [])
      (as_they_were start so_far read mid a parked others memory same first count r pages known.0 are
      (λ byte low high. fresh byte low (omega (arith, high))) from many r2 got own.0 got_are)
      (held ∙ stays))

module _ (law : BoardHolds) (firmware : FirmwareHolds) (steps : StepsPromise) (layout : PlatformLayout) (opened : List ℕ) (rules : IsLayout layout)
    (answer : IsFirstAnswer layout opened) where
  abbrev Run : List BoardEvent → Board → Type 0
  Run events board = BoardRun layout opened events board

  abbrev Confine : Board → Type 0
  Confine board = (hart : ℕ) → CanConfine (board.csrs hart)

  confine_by : (old new : Board) → new.csrs ≡ old.csrs → Confine new → Confine old
  confine_by old new same can hart = subst (λ cs. CanConfine (cs hart)) same (can hart)

  -- what a trap leaves, and the pages that were read in it
  trapped_there : (events : List BoardEvent) (old done : Board) (run : Run events old) → Confine old → (trap : Trap)
      (frame read question answered : List ℕ) → TrapDuties old trap frame read question answered done
      → (others : List BoardEvent) (last : Board) → OthersRun trap.hart done (changed_lists old done) others read last
      → Leaves layout trap.hart done (changed_lists old done) × ReadsMemory old.memory read
  trapped_there events old done run can trap frame read question answered x others last between =
      let before = law layout opened events old run rules answer can in
      let f = firmware layout opened (read_on run ++ (frame ++ read)) (written_on run ++ (answered ++ question)) done.monitor
      (next_trap before.served.served trap frame read question answered x.changes done.monitor x.size x.is_trap x.served) rules answer in
      let k : KeepsTrap (saved old trap) trap x.changes read question answered done.monitor =
      subst (λ (sets : Runner → RegisterFile). KeepsTrap (saved old trap) trap x.changes read question answered (with_sets done.monitor sets))
      (sym x.sets) (f.each.1 (saved old trap).registers (call_there old trap)) in
      let one = served_here old trap frame read question answered done x in
      let agrees : Agrees trap.hart done (changed_lists old done) = record {
        layout = f.platform ∙ sym before.platform;
        worlds = λ g differ. k.stays g differ;
      } in
      let banks = trap_banks firmware steps layout opened rules answer (read_on run) (written_on run) old done trap frame read question answered before.served
      x k f before.banks in (
        record { agrees = agrees; banks = banks },
        elim (read_new trap.event (saved old trap) trap x.changes read question answered done.monitor before.table (call_there old trap) one) [
          | inl none ↦ subst (ReadsMemory old.memory) (sym none) (frames_of_memory old.memory 0 0)
          | inr new ↦ λ from many got are.
              as_they_were steps layout trap.hart done f.table f.worlds f.platform banks (changed_lists old done) others read last agrees (sym x.parked)
              between old.memory
              (λ byte own. memory_is old trap frame read question answered done x k byte
              (in_memory steps layout trap.hart done f.table f.worlds f.platform banks byte own)
              ∙ all_stay k.cleared old.monitor done.monitor old.memory byte k.zeroes (λ other gone.
              none_gone trap.event (saved old trap) trap x.changes read question answered done.monitor new.id new.made new.free new.live one
              other gone.0 gone.1 gone.2))
              (new.made.parts.base / 4096) (new.made.parts.text_pages + new.made.parts.data_pages) read new.pages refl new.are
              (λ byte low high. (new.id, new.made, new.live, new.fresh, is_its new.made byte low high)) from many read got refl are
        ],
      )
    where
      is_its : (e : Enclave) (byte : ℕ) → e.parts.base / 4096 ≤ byte / 4096
          → byte / 4096 < e.parts.base / 4096 + (e.parts.text_pages + e.parts.data_pages) → is_private e.parts (byte / 4096) ≡ true
      is_its e byte low high =
          let first = e.parts.base / 4096 in
          let count = e.parts.text_pages + e.parts.data_pages in
          and_from (nat_le first (byte / 4096)) (nat_lt (byte / 4096) (first + count)) (le-leb first (byte / 4096) low)
          (lt-ltb (byte / 4096) (first + count) high)

  -- what other harts do
  others_run : (h : ℕ) (done start : Board) (events others : List BoardEvent) (read : List ℕ) (last : Board) → Agrees h done start
      → Run events (answered_on h done start) → OthersRun h done start others read last → Run (events ++ others) (answered_on h done last) × Agrees h done last
  others_run h done start events _ _ _ a run rests = (subst (λ all. Run all (answered_on h done start)) (sym (append-nil events)) run, a)
  others_run h done start events _ _ _ a run (loads {events = so_far} {read = read} {mid = mid} others other) =
      let before = others_run h done start events so_far read mid a run others in (
        before.0,
        record { layout = before.1.layout; worlds = before.1.worlds },
      )
  others_run h done start events _ _ _ a run (runs {events = so_far} {read = read} {mid = mid} {new = new} others event differ its x) =
      let before = others_run h done start events so_far read mid a run others in
      let next = moved h done event mid new before.1 differ its x in (
        subst (λ all. Run all (answered_on h done new)) (append_assoc events so_far (event ∷ [])) (happened before.0 event next.0),
        next.1,
      )
  others_run h done start events _ _ _ a run (reads {events = so_far} {read = read} {mid = mid} others frame size has) =
      others_run h done start events so_far read mid a run others

  others_csrs : (h : ℕ) (done start : Board) (others : List BoardEvent) (read : List ℕ) (last : Board) → OthersRun h done start others read last
      → last.csrs ≡ start.csrs
  others_csrs h done start _ _ _ rests = refl
  others_csrs h done start _ _ _ (loads {events = so_far} {read = read} {mid = mid} others other) = others_csrs h done start so_far read mid others
  others_csrs h done start _ _ _ (runs {events = so_far} {read = read} {mid = mid} {new = new} others event differ its x) =
      csrs_stay event mid new x ∙ others_csrs h done start so_far read mid others
  others_csrs h done start _ _ _ (reads {events = so_far} {read = read} {mid = mid} others frame size has) =
      others_csrs h done start so_far read mid others

  pub unseen : (events : List BoardEvent) (board : Board) → TimedRun layout opened events board → Confine board → Run events board
  unseen _ _ (boots board x) can = booted board x
  unseen _ _ (happens {events = events} {old = old} {new = new} run event quiet x) can =
      happened (unseen events old run (confine_by old new (csrs_stay event old new x) can)) event x
  unseen _ _ (traps {events = events} {before = before} {others = others} {old = old} {new = new} run trap frame read question answered t) can =
      let first = word_at answered 6 in
      let count = word_at answered 7 in
      let same : new.csrs ≡ t.ready.csrs = ap (λ (b : Board). b.csrs) t.answers
      ∙ others_csrs trap.hart t.done (changed_lists t.ready t.done) others read t.last t.between in
      let confine = confine_by t.ready new same can in
      let was = unseen events old run (confine_by old t.ready (zeroes_csrs trap.hart first count old before t.ready t.zeroing) confine) in
      let begun = not_yet trap.hart first count layout opened old events before t.ready was t.zeroing in
      let start = unzeroed trap.hart first count t.ready begun.0 in
      let x = duties_there t.ready begun.0 trap frame read question answered t.done t.duties in
      let there = trapped_there (events ++ before) start t.done begun.1 confine trap frame read question answered x others t.last t.between in
      let event = trapped trap frame read question answered in
      let trapping = happened begun.1 event (record { duties = x; pages = there.1 }) in
      let after_lists = subst (Run ((events ++ before) ++ event ∷ [])) (sym (at_once start trap frame read question answered t.done x)) trapping in
      let all = others_run trap.hart t.done (changed_lists start t.done) ((events ++ before) ++ event ∷ []) others read t.last there.0.agrees after_lists
      t.between in
      subst (Run (((events ++ before) ++ event ∷ []) ++ others)) (sym t.answers) all.0
