-- A trap on a board that is as a state of the model.
use Rattle.std.proofs.Common.{ℕ, ◌≡◌, ◌∙◌, ◌+◌, ◌/◌, ◌<◌, ◌≤◌, ◌^◌, ◌==◌, Bool, true, false, if◌then◌else◌, List, [], ◌∷◌, ◌++◌}
use Rattle.std.proofs.Common.{Option, Some, None, IfSome, option_map, unwrap_or, append_assoc, refl, ap, sym, subst}
use Rattle.pmp_encoding.specs.declared.pages.PageRange.{PageRange}
use Rattle.pmp_encoding.specs.declared.region.Entry.{Entry}
use Rattle.pmp_match.specs.Meaning.{Needs}
use Rattle.platforms.specs.Platform.{PlatformLayout}
use Rattle.sbi_decode.specs.Registers.{RegisterFile}
use Rattle.sbi_decode.specs.Runners.{Runner, runner_of}
use Rattle.enclave_table.specs.Views.{current_view}
use Rattle.monitor_core.specs.Changes.{with_running}
use Rattle.monitor_core.specs.SetChanges.{changed}
use Rattle.monitor_core.specs.States.{MonitorState}
use Rattle.monitor_core.specs.declared.set_changes.SetChanges.{SetChanges}
use Rattle.trap_server.specs.Sets.{AreThere, with_sets}
use Rattle.monitor_core.specs.Answers.{world_number}
use Rattle.monitor_core.specs.declared.answer.Answer.{Answer}
use Rattle.monitor_core.proofs.Equal.{equal}
use Rattle.hart_sim.specs.Memory.{in_range, zeroed}
use Rattle.hart_sim.specs.States.{MachineState}
use Rattle.trap_server.specs.declared.answer.NewLists.{NewLists}
use Rattle.trap_server.specs.Answered.{AreLists, IsAnswer, head_of, marks_of, status_word, unmarked}
use Rattle.trap_server.specs.Answers.{front_bytes, lists_bytes, pages_of}
use Rattle.trap_server.specs.Firmware.{list_after, loaded_after}
use Rattle.trap_server.specs.Given.{said_words}
use Rattle.trap_server.specs.Service.{ServesAs, given_at}
use Rattle.trap_server.specs.Words.{word_at}
use Rattle.trap_server.specs.declared.trap.TrapEvent.{TrapEvent}
use Rattle.trap_server.specs.declared.trap.Trap.{Trap}
use Rattle.trap_server.specs.declared.words.ControlWords.{ControlWords}
use Rattle.board.specs.Board.{BoardEvent, BoardRun, DoesCompute, ReadsMemory, computed, framed, happened, no_floats, runner_by, trapped}
use Rattle.board.proofs.Control.{control_after, control_changes, hosts_after}
use Rattle.board.proofs.Named.{Says, named, says, whole}
use Rattle.board.proofs.TrapFrames.{frame_is, frame_size, trap_frame, trap_on}
use Rattle.board.proofs.Trapped.{none_in}
use Rattle.board.proofs.OnBoards.{OnBoard, Waits, any_csrs, board_of, monitor_of}
use Rattle.board.proofs.Quiet.{put_far, put_here}

-- the register sets that a trap finds on a board that is as a state
abbrev pub found : (layout : PlatformLayout) (opened : List ℕ) (seen : List BoardEvent) (old : MachineState) (hart : ℕ) (file : RegisterFile)
    → OnBoard layout opened seen old → Runner → RegisterFile
found layout opened seen old hart file on = (with_running (monitor_of old on.registers on.marked) hart file).registers

-- the trap, with the control words that the hart has
abbrev pub trap_at : (layout : PlatformLayout) (opened : List ℕ) (seen : List BoardEvent) (kind : TrapEvent) (old : MachineState) (hart : ℕ)
    (file : RegisterFile) → OnBoard layout opened seen old → Trap
trap_at layout opened seen kind old hart file on = trap_on kind hart file (framed (on.control hart))

-- what a trap on a hart leaves of the monitor, and what it does on the state of a board, whatever the register sets are
pub record TrapLeaves (layout : PlatformLayout) (opened : List ℕ) (seen : List BoardEvent) (kind : TrapEvent) (old new : MachineState) (hart : ℕ)
    (file : RegisterFile) (on : OnBoard layout opened seen old) : Type 0 where
  pub answer : Answer
  pub cleared : Option PageRange
  pub mid : MonitorState
  pub changes : SetChanges
  pub read : List ℕ
  pub question : List ℕ
  pub used : ℕ
  pub which : NewLists
  pub are : List (List Entry)
  pub table : new.table ≡ mid.table
  pub worlds : new.worlds ≡ mid.worlds
  pub bytes : (byte : ℕ) → new.bytes byte ≡ zeroed old.bytes (pages_of cleared).first (pages_of cleared).count byte
  pub inside : IfSome cleared (λ range. range.first + range.count ≤ 2 ^ 44)
  pub waits : (who : Runner) → Waits new who → changed hart changes (found layout opened seen old hart file on) who ≡ new.registers who
  pub needs : Needs (current_view new.table (new.worlds hart)) used
  pub lists : AreLists new.table answer.value which are
  pub reads : ReadsMemory old.bytes read
  pub serves : (answered : List ℕ) (that : MonitorState)
      → ((sets : Runner → RegisterFile) → with_sets that sets ≡ unmarked 4 (with_sets mid sets))
      → IsAnswer that (given_at (monitor_of old on.registers on.marked) that (trap_at layout opened seen kind old hart file on)) hart answer cleared
      (marks_of mid) which changes answered
      → (sets : Runner → RegisterFile)
      → AreThere (monitor_of old on.registers on.marked) (trap_at layout opened seen kind old hart file on) sets
      → ServesAs kind (with_sets (monitor_of old on.registers on.marked) sets) (trap_at layout opened seen kind old hart file on) changes read question
      answered (with_sets that (changed hart changes sets))

-- the same by either way
same_both : (b : Bool) → (if b then no_floats else no_floats) ≡ no_floats
same_both true = refl
same_both false = refl

pub trap_seen :
    (layout : PlatformLayout) (opened : List ℕ) (seen : List BoardEvent) (kind : TrapEvent) (old new : MachineState) (hart : ℕ) (file : RegisterFile)
    (on : OnBoard layout opened seen old) → hart < old.table.layout.harts → (x : TrapLeaves layout opened seen kind old new hart file on)
    → (answered : List ℕ) × OnBoard layout opened (seen ++ computed hart file no_floats ∷ (trapped (trap_at layout opened seen kind old hart file on)
    (trap_frame kind hart file (framed (on.control hart))) x.read x.question answered ∷ [])) new
    × Says answered (world_number (new.worlds hart)) (status_word x.answer.status) x.answer.value x.used
trap_seen layout opened seen kind old new hart file on known x =
    let host = framed (on.control hart) in
    let trap = trap_on kind hart file host in
    let sets = changed hart x.changes (found layout opened seen old hart file on) in
    let that = monitor_of new sets (unmarked 4 x.mid).marked in
    let same : (all : Runner → RegisterFile) → with_sets that all ≡ unmarked 4 (with_sets x.mid all) = λ all. equal (record {
      table = x.table;
      worlds = λ h. ap (λ w. w h) x.worlds;
      registers = λ who. refl;
      marked = λ h. refl;
    }) in
    let before = monitor_of old on.registers on.marked in
    let given = given_at before that trap in
    let head = head_of that hart x.answer x.used x.cleared (marks_of x.mid) x.which given in
    let answered = whole head x.changes x.are given in
    let is_answer : IsAnswer that given hart x.answer x.cleared (marks_of x.mid) x.which x.changes answered = record {
      used = x.used;
      needs = x.needs;
      front = front_bytes head x.changes ++ lists_bytes x.are;
      puts = record { are = x.are; lists = x.lists; put = refl };
      ends = refl;
    } in
    let words = named that given hart x.answer x.cleared (marks_of x.mid) x.which x.changes answered is_answer x.inside in
    let lists : ℕ → List ℕ = list_after answered on.lists in
    let loaded : ℕ → List ℕ = λ h. loaded_after answered lists (on.loaded h) h in
    let who = runner_of hart (old.worlds hart) in
    let next = runner_by hart (word_at answered 2) in
    let event = trapped trap (trap_frame kind hart file host) x.read x.question answered in
    let came : ℕ → RegisterFile = λ h. if h == hart then file else on.running h in
    let running : ℕ → RegisterFile = λ h. if h == hart then sets next else came h in
    let mid = board_of old on.registers on.marked on.lists on.loaded came on.control on.hosts in
    let computes : DoesCompute (board_of old on.registers on.marked on.lists on.loaded on.running on.control on.hosts) hart file no_floats mid = record {
      up = record { known = known; started = refl };
      memory = λ byte there. refl;
      state = λ i. record mid { floats = λ h. sym (same_both (h == hart)) i };
    } in
    let control : ℕ → ControlWords = control_after any_csrs hart who next (said_words answered) on.control on.hosts in
    let hosts : ℕ → ControlWords = hosts_after hart (said_words answered) on.control on.hosts in (
      answered,
      record {
        registers = sets;
        marked = (unmarked 4 x.mid).marked;
        lists = lists;
        loaded = loaded;
        running = running;
        control = control;
        hosts = hosts;
        runs = subst (λ all. BoardRun layout opened all (board_of new sets (unmarked 4 x.mid).marked lists loaded running control hosts))
            (append_assoc seen (computed hart file no_floats ∷ []) (event ∷ []))
            (happened (happened on.runs (computed hart file no_floats) computes) event (record {
              pages = x.reads;
              duties = record {
                size = frame_size kind hart file host;
                is_trap = frame_is kind hart file host old.table.layout.harts known;
                started = refl;
                came = sym (put_here hart file (on.running hart));
                host = λ host_trapped. refl;
                changes = x.changes;
                served = λ all there. x.serves answered that same is_answer all there;
                sets = refl;
                cleared = λ byte there.
                    x.bytes byte ∙ sym (ap (λ first. zeroed old.bytes first (word_at answered 7) byte) words.0
                    ∙ ap (λ count. zeroed old.bytes (pages_of x.cleared).first count byte) words.1);
                keeps = λ world. refl;
                loads = λ h up. refl;
                parked = refl;
                csrs = refl;
                running = record {
                  resumes = put_here hart (sets next) (came hart);
                  others = λ other differ. put_far hart other (sets next) (came other) differ;
                };
                floats = record {
                  goes_on = λ same. refl;
                  leaves = λ differ lives. refl;
                  ends = λ other ended. refl;
                  enters = λ differ. refl;
                  made = λ other said. refl;
                  harts = λ other differ. refl;
                  others = λ other differ none lives. refl;
                };
                control = control_changes mid
                    (board_of new sets (unmarked 4 x.mid).marked lists loaded running control hosts) hart who next (said_words answered)
                    (refl {a = control}) (refl {a = hosts});
              };
            }));
        waits = x.waits;
      },
      says head x.changes x.are given,
    )

-- memory as the model clears it
pub clears : (pages : Option PageRange) (memory : ℕ → ℕ) (byte : ℕ)
    → (if unwrap_or (option_map (λ (range : PageRange). in_range range.first range.count (byte / 4096)) pages) false then 0 else memory byte)
    ≡ zeroed memory (pages_of pages).first (pages_of pages).count byte
clears None memory byte = sym (ap (λ b. if b then 0 else memory byte) (none_in (byte / 4096)))
clears (Some range) memory byte = refl
