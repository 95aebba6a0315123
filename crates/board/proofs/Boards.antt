-- What holds after every list of events on a board, by induction over them.
use Rattle.std.proofs.Common.{◌≡◌, ◌∙◌, ℕ, zero, suc, ◌<◌, ◌≤◌, ◌==◌, ◌&&◌, ◌/◌, ◌%◌, ◌^◌, nat_lt, true, false, if◌then◌else◌, List, [], ◌∷◌, ◌++◌}
use Rattle.std.proofs.Common.{drop, append-nil, refl, ap, sym, subst}
use Rattle.std.proofs.lemmas.Bool.{eqb-true}
use Rattle.platforms.specs.Platform.{IsLayout, PlatformLayout}
use Rattle.enclave_table.specs.Enclaves.{Live}
use Rattle.enclave_table.specs.Views.{current_view}
use Rattle.monitor_core.proofs.Cases.{both}
use Rattle.monitor_core.proofs.Currents.{none_live}
use Rattle.monitor_core.proofs.Put.{put_there}
use Rattle.monitor_core.specs.Answers.{world_number}
use Rattle.monitor_core.specs.States.{MonitorState, opening_monitor}
use Rattle.monitor_core.specs.Switches.{runner_on}
use Rattle.sbi_decode.specs.Registers.{RegisterFile}
use Rattle.sbi_decode.specs.Runners.{Runner}
use Rattle.sbi_decode.specs.declared.world.World.{World}
use Rattle.sbi_decode.specs.declared.world.World.TheVariants.{Host, Enclave as InEnclave}
use Rattle.trap_server.specs.declared.trap.Trap.{Trap}
use Rattle.trap_server.specs.Boot.{IsFirstAnswer}
use Rattle.trap_server.specs.Firmware.{AreThose, FirmwareHeadline, HasFewest, IsThere, KeepsTrap, list_after, list_last, loaded_after}
use Rattle.trap_server.specs.Runs.{ServesTraps, next_trap, no_trap}
use Rattle.trap_server.specs.Sets.{with_sets}
use Rattle.trap_server.specs.Words.{word_at}
use Rattle.trap_server.proofs.Firmware.{next_bank}
use Rattle.board.specs.Board.{Board, BoardEvent, BoardRun, HappensOn, IsBooted, access, aside, booted, computed, happened, parks, saved, starts}
use Rattle.board.specs.Board.{TrapDuties, trapped, wrote}
use Rattle.board.specs.Headline.{AreMeasured, BoardHeadline, EachKeeps, HaveOwnControl, IsServed, Keeps, LeavesOthers}
use Rattle.board.specs.Headline.{control_by, host_control, read_on, written_on, wrote_last}
use Rattle.board.specs.Held.{CanConfine, CanHold}
use Rattle.board.proofs.Accessed.{StepsPromise, access_kept}
use Rattle.board.proofs.Control.{starts_host, starts_legal, starts_own, wrote_host, wrote_legal, wrote_own}
use Rattle.board.proofs.ControlKept.{control_kept}
use Rattle.board.proofs.Floats.{runs_there}
use Rattle.board.proofs.FloatsKept.{floats_kept, next_is}
use Rattle.board.proofs.Fresh.{measured_access, measured_quiet, measured_trap}
use Rattle.board.proofs.Here.{call_there}
use Rattle.board.proofs.Quiet.{aside_kept, computed_kept, csrs_stay, parks_kept, starts_kept, wrote_kept}
use Rattle.board.proofs.Trapped.{trap_kept}

-- what the theorem of a board says
abbrev pub BoardHolds : Type 0
BoardHolds = (layout : PlatformLayout) (opened : List ℕ) (events : List BoardEvent) (board : Board) (run : BoardRun layout opened events board)
    → IsLayout layout → IsFirstAnswer layout opened → ((hart : ℕ) → CanConfine (board.csrs hart)) → BoardHeadline layout opened events board run

-- what the firmware's theorem says
abbrev FirmwareHolds : Type 0
FirmwareHolds =
    (layout : PlatformLayout) (opened read written : List ℕ) (s : MonitorState) (served : ServesTraps (opening_monitor layout) read written s)
    → IsLayout layout → IsFirstAnswer layout opened → FirmwareHeadline layout opened read written s served

-- lists that were the same are so after an answer, and what a hart has loaded
pub same_after :
    (answered : List ℕ) (a b : ℕ → List ℕ) → ((world : ℕ) → a world ≡ b world) → (world : ℕ) → list_after answered a world ≡ list_after answered b world
same_after answered a b same zero = ap (λ bytes. if nat_lt 0 (word_at answered 9) then drop 184 answered else bytes) (same 0)
same_after answered a b same (suc n) = ap (λ bytes. if word_at answered 9 == 2 && word_at answered 4 == suc n then drop 768 answered else bytes) (same (suc n))

same_loaded : (answered : List ℕ) (a b : ℕ → List ℕ) (before : List ℕ) (hart : ℕ) → ((world : ℕ) → a world ≡ b world)
    → loaded_after answered a before hart ≡ loaded_after answered b before hart
same_loaded answered a b before hart same =
    let named = word_at answered 1 == hart in
    let woken = word_at answered 8 / 2 ^ hart % 2 == 1 in
    ap (λ bytes. if named then bytes else (if woken then a 0 else before)) (same (word_at answered 2))
    ∙ ap (λ bytes. if named then b (word_at answered 2) else (if woken then bytes else before)) (same 0)

-- the hart has loaded entries of its world's view
abbrev HasBank : PlatformLayout → Board → ℕ → Type 0
HasBank layout board hart = HasFewest (board.loaded hart) layout.limit (current_view board.monitor.table (board.monitor.worlds hart))

-- so has each that is not parked
abbrev HaveBanks : PlatformLayout → Board → Type 0
HaveBanks layout board = (hart : ℕ) → hart < layout.harts → board.parked hart ≡ false → HasBank layout board hart

-- each host has control words that its hart can hold
abbrev AreLegal : Board → Type 0
AreLegal board = (hart : ℕ) → CanHold (board.csrs hart) (host_control board hart)

module _ (law : FirmwareHolds) (steps : StepsPromise) (layout : PlatformLayout) (opened : List ℕ) (rules : IsLayout layout)
    (answer : IsFirstAnswer layout opened) where
  abbrev Served : List ℕ → List ℕ → Board → Type 0
  Served read written board = IsServed layout opened read written board

  abbrev Holds : (events : List BoardEvent) (board : Board) → BoardRun layout opened events board → Type 0
  Holds events board run = BoardHeadline layout opened events board run

  -- what the firmware's theorem says of the traps of a run
  firmware : (read written : List ℕ) (board : Board) (x : Served read written board) → FirmwareHeadline layout opened read written board.monitor x.served
  firmware read written board x = law layout opened read written board.monitor x.served rules answer

  -- the headline of a board whose traps were served
  headline : (events : List BoardEvent) (board : Board) (run : BoardRun layout opened events board) → Served (read_on run) (written_on run) board
      → HaveBanks layout board → ((hart : ℕ) → host_control board hart ≡ wrote_last run hart) → AreLegal board → HaveOwnControl board → AreMeasured board
      → EachKeeps run → Holds events board run
  headline events board run served banks hosts legal control measured each =
      let f = firmware (read_on run) (written_on run) board served in
      record {
        served = served;
        table = f.table;
        platform = f.platform;
        worlds = f.worlds;
        awake = f.awake;
        floats = λ hart low. sym (runs_there board hart f.worlds (subst (λ l. hart < l.harts) (sym f.platform) low));
        banks = banks;
        hosts = hosts;
        legal = legal;
        control = control;
        measured = measured;
        each = each;
      }

  -- traps lead to a state, and these lists are kept after them
  abbrev IsKept : List ℕ → List ℕ → (ℕ → List ℕ) → MonitorState → Type 0
  IsKept read written lists s = (served : ServesTraps (opening_monitor layout) read written s) × ((world : ℕ) → lists world ≡ list_last opened served world)

  -- no event but a trap reads and writes
  quiet_served : (read written : List ℕ) (board : Board) → Served read written board → Served (read ++ []) (written ++ []) board
  quiet_served read written board x = subst (λ r. Served r (written ++ []) board) (sym (append-nil read))
      (subst (λ w. Served read w board) (sym (append-nil written)) x)

  -- an event that leaves the monitor and the lists
  still_served : (read written : List ℕ) (old new : Board) → new.monitor ≡ old.monitor → ((world : ℕ) → new.lists world ≡ old.lists world)
      → Served read written old → Served (read ++ []) (written ++ []) new
  still_served read written old new monitor lists x =
      let kept = subst (λ (m : MonitorState). IsKept read written old.lists m) (sym monitor) (x.served, x.keeps) in
      quiet_served read written new (record { served = kept.0; keeps = λ world. lists world ∙ kept.1 world })

  -- what an event leaves that is no access and no trap of the loop
  by_quiet : (events : List BoardEvent) (old new : Board) (run : BoardRun layout opened events old) (event : BoardEvent) (happens : HappensOn event old new)
      (hart : ℕ) → Holds events old run → Served (read_on (happened run event happens)) (written_on (happened run event happens)) new
      → LeavesOthers old hart new → HaveBanks layout new → ((h : ℕ) → host_control new h ≡ control_by event old h (host_control old h)) → AreLegal new
      → HaveOwnControl new → Keeps event old new → Holds (events ++ event ∷ []) new (happened run event happens)
  by_quiet events old new run event happens hart before served others banks hosts legal control kept =
      let f = firmware (read_on (happened run event happens)) (written_on (happened run event happens)) new served in
      headline (events ++ event ∷ []) new (happened run event happens) served banks
      (λ h. hosts h ∙ ap (control_by event old h) (before.hosts h)) legal control
      (measured_quiet old new f.table others.monitor others.memory before.measured) (before.each, kept)

  -- a trap more
  abbrev next_served :
      (came gone : List ℕ) (old : Board) (trap : Trap) (frame read question answered : List ℕ) (new : Board) → Served came gone old
      → TrapDuties old trap frame read question answered new → Served (came ++ (frame ++ read)) (gone ++ (answered ++ question)) new
  next_served came gone old trap frame read question answered new before x = record {
    served = next_trap before.served trap frame read question answered x.changes new.monitor x.size x.is_trap x.served;
    keeps = λ world. x.keeps world ∙ same_after answered old.lists (list_last opened before.served) before.keeps world;
  }

  -- the lists that a board keeps are right
  lists_right : (read written : List ℕ) (board : Board) (x : Served read written board) (world : World) → IsThere board.monitor.table world
      → HasFewest (board.lists (world_number world)) layout.limit (current_view board.monitor.table world)
  lists_right read written board x world there = subst (λ bytes. HasFewest bytes layout.limit (current_view board.monitor.table world))
      (sym (x.keeps (world_number world))) ((firmware read written board x).lists world there)

  -- and what each hart has loaded after a trap
  pub trap_banks : (read written : List ℕ) (old new : Board) (trap : Trap) (frame more question answered : List ℕ)
      (before : Served read written old) (x : TrapDuties old trap frame more question answered new)
      → KeepsTrap (saved old trap) trap x.changes more question answered new.monitor
      → FirmwareHeadline layout opened (read ++ (frame ++ more)) (written ++ (answered ++ question)) new.monitor
      (next_served read written old trap frame more question answered new before x).served
      → HaveBanks layout old → HaveBanks layout new
  trap_banks read written old new trap frame more question answered before x k f banks hart low up =
      let was = firmware read written old before in
      let platform : old.monitor.table.layout ≡ layout = was.platform in
      let under : hart < old.monitor.table.layout.harts = subst (λ l. hart < l.harts) (sym platform) low in
      let most : old.monitor.table.layout.harts ≤ 4 = subst (λ l. l.harts ≤ 4) (sym platform) rules.four_harts in
      let started : old.parked hart ≡ false = sym (ap (λ p. p hart) x.parked) ∙ up in
      let right = subst (λ l. HasFewest (old.loaded hart) l.limit (current_view old.monitor.table (old.monitor.worlds hart))) (sym platform)
      (banks hart low started) in
      let lists : (world : World) → IsThere old.monitor.table world
      → HasFewest (old.lists (world_number world)) old.monitor.table.layout.limit (current_view old.monitor.table world) = λ world there.
      subst (λ l. HasFewest (old.lists (world_number world)) l.limit (current_view old.monitor.table world)) (sym platform)
      (lists_right read written old before world there) in
      let bank = next_bank (saved old trap) trap x.changes more question answered new.monitor old.lists k (f.platform ∙ sym platform) f.table f.worlds lists
      (old.loaded hart) hart x.is_trap.known most under right in
      subst (λ bytes. HasFewest bytes layout.limit (current_view new.monitor.table (new.monitor.worlds hart)))
      (sym (x.loads hart started ∙ same_loaded answered new.lists (list_after answered old.lists) (old.loaded hart) hart x.keeps))
      (subst (λ l. HasFewest (loaded_after answered (list_after answered old.lists) (old.loaded hart) hart) l.limit
      (current_view new.monitor.table (new.monitor.worlds hart))) f.platform bank)

  by_event : (events : List BoardEvent) (old new : Board) (run : BoardRun layout opened events old) (event : BoardEvent) (happens : HappensOn event old new)
      → ((hart : ℕ) → CanConfine (old.csrs hart)) → Holds events old run → Holds (events ++ event ∷ []) new (happened run event happens)
  by_event events old new run (access hart a value said) x can before =
      let under : hart < layout.harts = subst (λ l. hart < l.harts) before.platform x.up.known in
      let fewest = subst (λ l. HasFewest (old.loaded hart) l.limit (current_view old.monitor.table (old.monitor.worlds hart))) (sym before.platform)
      (before.banks hart under x.up.started) in
      let kept = access_kept steps old hart a value said new before.table fewest x in
      headline (events ++ access hart a value said ∷ []) new (happened run (access hart a value said) x)
      (still_served (read_on run) (written_on run) old new (ap (λ (b : Board). b.monitor) x.state) (λ world. ap (λ (b : Board). b.lists world) x.state)
      before.served)
      (subst (HaveBanks layout) (sym x.state) before.banks) (λ h. ap (λ b. host_control b h) x.state ∙ before.hosts h)
      (subst AreLegal (sym x.state) before.legal) (subst HaveOwnControl (sym x.state) before.control)
      (measured_access old hart a said new before.worlds x.up.known (ap (λ (b : Board). b.monitor) x.state) kept before.measured) (before.each, kept)
  by_event events old new run (computed hart file floats) x can before =
      let kept = computed_kept old hart file floats new before.worlds x in
      by_quiet events old new run (computed hart file floats) x hart before
      (still_served (read_on run) (written_on run) old new kept.0.monitor (λ world. ap (λ (b : Board). b.lists world) x.state) before.served) kept.0
      (subst (HaveBanks layout) (sym x.state) before.banks) (λ h. ap (λ b. host_control b h) x.state) (subst AreLegal (sym x.state) before.legal)
      (subst HaveOwnControl (sym x.state) before.control) kept
  by_event events old new run (wrote hart words) x can before =
      let kept = wrote_kept old hart words new x in
      by_quiet events old new run (wrote hart words) x hart before
      (still_served (read_on run) (written_on run) old new kept.0.monitor (λ world. ap (λ (b : Board). b.lists world) x.state) before.served) kept.0
      (subst (HaveBanks layout) (sym x.state) before.banks) (wrote_host old hart words new x)
      (λ h. wrote_legal old hart words new x h (before.legal h)) (wrote_own old hart words new x before.control) kept
  by_event events old new run (aside hart on) x can before =
      let kept = aside_kept old hart on new x in
      by_quiet events old new run (aside hart on) x hart before
      (still_served (read_on run) (written_on run) old new kept.0.monitor (λ world. ap (λ (b : Board). b.lists world) x.state) before.served) kept.0
      (subst (HaveBanks layout) (sym x.state) before.banks) (λ h. ap (λ b. host_control b h) x.state) (subst AreLegal (sym x.state) before.legal)
      (subst HaveOwnControl (sym x.state) before.control) kept
  by_event events old new run (parks hart) x can before =
      let kept = parks_kept old hart new x in
      by_quiet events old new run (parks hart) x hart before
      (still_served (read_on run) (written_on run) old new kept.monitor (λ world. ap (λ (b : Board). b.lists world) x.state) before.served) kept
      (subst (HaveBanks layout) (sym x.state) (λ h low up. before.banks h low (both (h == hart)
      (λ yes. let z : true ≡ false = sym (ap (λ b. if b then true else old.parked h) yes) ∙ up in absurd cc)
      (λ no. sym (ap (λ b. if b then true else old.parked h) no) ∙ up))))
      (λ h. ap (λ b. host_control b h) x.state) (subst AreLegal (sym x.state) before.legal) (subst HaveOwnControl (sym x.state) before.control) kept
  by_event events old new run (starts hart file words) x can before =
      let kept = starts_kept old hart file words new before.worlds x in
      let bank : HasFewest (old.lists 0) layout.limit (current_view old.monitor.table (old.monitor.worlds hart)) =
      subst (λ w. HasFewest (old.lists 0) layout.limit (current_view old.monitor.table w)) (sym x.host)
      (lists_right (read_on run) (written_on run) old before.served Host tt) in
      by_quiet events old new run (starts hart file words) x hart before
      (still_served (read_on run) (written_on run) old new kept.0.monitor (λ world. ap (λ (b : Board). b.lists world) x.state) before.served) kept.0
      (subst (HaveBanks layout) (sym x.state) (λ h low up. both (h == hart)
      (λ yes. subst (λ b. HasFewest (if b then old.lists 0 else old.loaded h) layout.limit (current_view old.monitor.table (old.monitor.worlds h))) (sym yes)
      (subst (λ n. HasFewest (old.lists 0) layout.limit (current_view old.monitor.table (old.monitor.worlds n))) (sym (eqb-true h hart yes)) bank))
      (λ no. subst (λ b. HasFewest (if b then old.lists 0 else old.loaded h) layout.limit (current_view old.monitor.table (old.monitor.worlds h))) (sym no)
      (before.banks h low (sym (ap (λ b. if b then false else old.parked h) no) ∙ up)))))
      (starts_host old hart file words new x) (λ h. starts_legal old hart file words new x h (before.legal h))
      (starts_own old hart file words new x before.control) kept
  by_event events old new run (trapped trap frame read question answered) x can before =
      let d = x.duties in
      let next = next_served (read_on run) (written_on run) old trap frame read question answered new before.served d in
      let f = firmware (read_on run ++ (frame ++ read)) (written_on run ++ (answered ++ question)) new next in
      let k : KeepsTrap (saved old trap) trap d.changes read question answered new.monitor =
      subst (λ (sets : Runner → RegisterFile). KeepsTrap (saved old trap) trap d.changes read question answered (with_sets new.monitor sets))
      (sym d.sets) (f.each.1 (saved old trap).registers (call_there old trap)) in
      let layouts = f.platform ∙ sym before.platform in
      let harts = ap (λ l. l.harts) layouts in
      let kept = trap_kept old trap frame read question answered new before.table f.table layouts d x.pages k in
      let floats = floats_kept old trap frame read question answered new harts before.table f.table before.worlds f.worlds d k in
      let control = control_kept old trap frame read question answered new harts f.table f.worlds (can trap.hart) (before.legal trap.hart) d k in
      headline (events ++ trapped trap frame read question answered ∷ []) new (happened run (trapped trap frame read question answered) x) next
      (trap_banks (read_on run) (written_on run) old new trap frame read question answered before.served d k f before.banks)
      (λ h. control.0.hosts h ∙ before.hosts h)
      (λ h. subst (λ cs. CanHold (cs h) (host_control new h)) (sym d.csrs) (subst (CanHold (old.csrs h)) (sym (control.0.hosts h)) (before.legal h)))
      (control.1 before.control) (measured_trap old trap frame read question answered new before.table f.table d kept before.measured) (
        before.each,
        (
          kept,
          floats,
          record {
            registers = k.registers;
            came = λ lived. subst (λ (file : RegisterFile). AreThose trap.event file (new.monitor.registers (runner_on old.monitor trap.hart)))
                (put_there old.monitor trap.hart trap.registers ∙ d.came) (k.came lived);
            resumes = d.running.resumes ∙ ap new.monitor.registers (next_is old trap frame read question answered new harts f.table f.worlds d k);
            others = d.running.others;
          },
          control.0,
        ),
      )

  -- a board right after boot
  begins : (board : Board) (x : IsBooted layout opened board) → Holds [] board (booted board x)
  begins board x =
      let kept = subst (λ (m : MonitorState). IsKept [] [] (λ world. drop 184 opened) m) (sym x.monitor) (no_trap, λ world. refl) in
      let served : Served [] [] board = record { served = kept.0; keeps = λ world. x.lists world ∙ kept.1 world } in
      let in_host : (hart : ℕ) → board.monitor.worlds hart ≡ Host = λ hart. ap (λ (m : MonitorState). m.worlds hart) x.monitor in
      let is_control : (hart : ℕ) → host_control board hart ≡ board.control hart = λ hart.
      ap (λ (m : MonitorState). host_control (record board { monitor = m }) hart) x.monitor in
      headline [] board (booted board x) served
      (λ hart low up. subst (λ bytes. HasFewest bytes layout.limit (current_view board.monitor.table (board.monitor.worlds hart)))
      (x.lists 0 ∙ sym (x.loaded hart up))
      (subst (λ w. HasFewest (board.lists 0) layout.limit (current_view board.monitor.table w)) (sym (in_host hart))
      (lists_right [] [] board served Host tt)))
      is_control (λ hart. subst (CanHold (board.csrs hart)) (sym (is_control hart)) (x.control hart))
      (λ hart id is. absurd (let z : Host ≡ InEnclave id = sym (in_host hart) ∙ is in cc))
      (λ id e live fresh. absurd (none_live layout id e (subst (λ (m : MonitorState). Live m.table id e) x.monitor live))) tt

  pub board_kept : (events : List BoardEvent) (board : Board) (run : BoardRun layout opened events board) → ((hart : ℕ) → CanConfine (board.csrs hart))
      → BoardHeadline layout opened events board run
  board_kept _ _ (booted board x) can = begins board x
  board_kept _ _ (happened {events = events} {old = old} {new = new} run event happens) can =
      let was : (hart : ℕ) → CanConfine (old.csrs hart) = λ hart. subst (λ cs. CanConfine (cs hart)) (csrs_stay event old new happens) (can hart) in
      by_event events old new run event happens was (board_kept events old run was)
