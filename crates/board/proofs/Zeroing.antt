-- Pages that are made zero while other harts run: as if they were made zero later, all at once.
use Rattle.std.proofs.Common.{◌≡◌, ◌∙◌, inl, inr, ℕ, ◌-◌, ◌/◌, Bool, true, false, if◌then◌else◌, List, [], ◌∷◌, ◌++◌, Result, Ok, Err}
use Rattle.std.proofs.Common.{append_assoc, append-nil, refl, ap, sym, subst}
use Rattle.pmp_encoding.specs.Registers.{byte_of}
use Rattle.pmp_match.specs.declared.access.Access.{Access}
use Rattle.pmp_match.specs.declared.access.Kind.{Kind}
use Rattle.pmp_match.specs.declared.access.Kind.TheVariants.{Fetch, Load, Store}
use Rattle.pmp_match.specs.declared.cause.Cause.{Cause}
use Rattle.platforms.specs.Platform.{PlatformLayout}
use Rattle.monitor_core.proofs.Cases.{both}
use Rattle.hart_sim.specs.Memory.{in_range, zeroed}
use Rattle.trap_server.specs.Words.{word_at}
use Rattle.trap_server.specs.declared.trap.Trap.{Trap}
use Rattle.board.specs.Board.{Board, BoardEvent, BoardRun, HappensOn, HasMemory, IsUp, TrapDuties, access, aside, computed, happened, memory_after, parks}
use Rattle.board.specs.Board.{put_by, starts, trapped, wrote}
use Rattle.board.specs.Timed.{IsElsewhere, Zeroes, ZeroesSome, meanwhile, none_yet, zeroes}
use Rattle.board.proofs.Quiet.{csrs_stay}

-- a byte after an access goes by that byte before it
put_at : (kind : Kind) (m n : ℕ → ℕ) (a : Access) (value byte : ℕ) → m byte ≡ n byte → put_by kind m a value byte ≡ put_by kind n a value byte
put_at Fetch m n a value byte same = same
put_at Load m n a value byte same = same
put_at Store m n a value byte same = ap (λ v. if in_range a.address a.size byte then byte_of value (byte - a.address) else v) same

after_at : (said : Result (Unit {0}) Cause) (m n : ℕ → ℕ) (a : Access) (value byte : ℕ) → m byte ≡ n byte
    → memory_after said m a value byte ≡ memory_after said n a value byte
after_at (Err cause) m n a value byte same = same
after_at (Ok done) m n a value byte same = put_at a.kind m n a value byte same

module _ (h first count : ℕ) where
  -- whether a byte is of these pages
  abbrev named : ℕ → Bool
  named byte = in_range first count (byte / 4096)

  -- memory in which the bytes of these pages are others
  abbrev mix : (ℕ → ℕ) → (ℕ → ℕ) → ℕ → ℕ
  mix pages rest byte = if named byte then pages byte else rest byte

  abbrev pub unzeroed : Board → (ℕ → ℕ) → Board
  unzeroed board pages = record board { memory = mix pages board.memory }

  rest_same : (pages m n : ℕ → ℕ) (byte : ℕ) → m byte ≡ n byte → mix pages m byte ≡ mix pages n byte
  rest_same pages m n byte same = ap (λ v. if named byte then pages byte else v) same

  up_still : (board : Board) (pages : ℕ → ℕ) (g : ℕ) → IsUp board g → IsUp (unzeroed board pages) g
  up_still board pages g up = record { known = up.known; started = up.started }

  -- memory after an access, by the one memory and the other
  access_mixed : (old new : Board) (pages : ℕ → ℕ) (a : Access) (value : ℕ) (said : Result (Unit {0}) Cause)
      → HasMemory new (memory_after said old.memory a value)
      → HasMemory (unzeroed new (memory_after said pages a value)) (memory_after said (mix pages old.memory) a value)
  access_mixed old new pages a value said memory byte there =
      let rest = old.memory in
      let now = memory_after said pages a value in
      both (named byte)
      (λ yes. ap (λ b. if b then now byte else new.memory byte) yes
      ∙ after_at said pages (mix pages rest) a value byte (sym (ap (λ b. if b then pages byte else rest byte) yes)))
      (λ no. ap (λ b. if b then now byte else new.memory byte) no ∙ memory byte there
      ∙ after_at said rest (mix pages rest) a value byte (sym (ap (λ b. if b then pages byte else rest byte) no)))

  -- an event of another hart happens on a board whose pages are others
  moved : (event : BoardEvent) (old new : Board) (pages : ℕ → ℕ) → IsElsewhere h event → HappensOn event old new
      → (now : ℕ → ℕ) × HappensOn event (unzeroed old pages) (unzeroed new now)
  moved (access g a value said) old new pages differ x =
      let now = memory_after said pages a value in (
        now,
        record {
          up = up_still old pages g x.up;
          below = x.below;
          entries = x.entries;
          loaded = x.loaded;
          judged = x.judged;
          memory = access_mixed old new pages a value said x.memory;
          state = ap (λ (b : Board). record b { memory = mix now new.memory }) x.state;
        },
      )
  moved (computed g file floats) old new pages differ x = (
    pages,
    record {
      up = up_still old pages g x.up;
      memory = λ byte there. rest_same pages new.memory old.memory byte (x.memory byte there);
      state = ap (λ (b : Board). record b { memory = mix pages new.memory }) x.state;
    },
  )
  moved (wrote g words) old new pages differ x = (
    pages,
    record {
      up = up_still old pages g x.up;
      may = x.may;
      can = x.can;
      memory = λ byte there. rest_same pages new.memory old.memory byte (x.memory byte there);
      state = ap (λ (b : Board). record b { memory = mix pages new.memory }) x.state;
    },
  )
  moved (aside g on) old new pages differ x = (
    pages,
    record {
      up = up_still old pages g x.up;
      may = x.may;
      memory = λ byte there. rest_same pages new.memory old.memory byte (x.memory byte there);
      state = ap (λ (b : Board). record b { memory = mix pages new.memory }) x.state;
    },
  )
  moved (parks g) old new pages none x = absurd none
  moved (starts g file words) old new pages none x = absurd none
  moved (trapped trap frame read question answered) old new pages none x = absurd none

  -- a zero is not seen there
  zero_unseen : (old new : Board) (pages : ℕ → ℕ) → ZeroesSome first count old new → unzeroed new pages ≡ unzeroed old pages
  zero_unseen old new pages x =
      let same : (byte : ℕ) → mix pages new.memory byte ≡ mix pages old.memory byte = λ byte. elim (x.bytes byte) [
        | inl stays ↦ rest_same pages new.memory old.memory byte stays
        | inr zero ↦ ap (λ b. if b then pages byte else new.memory byte) zero.1 ∙ sym (ap (λ b. if b then pages byte else old.memory byte) zero.1)
      ] in
      ap (λ (b : Board). record b { memory = mix pages new.memory }) x.state ∙ (λ i. record old { memory = λ byte. same byte i })

  mix_same : (b : Bool) (v : ℕ) → (if b then v else v) ≡ v
  mix_same true v = refl
  mix_same false v = refl

  -- what other harts do meanwhile happens on a board on which no page was made zero yet
  pub not_yet : (layout : PlatformLayout) (opened : List ℕ) (start : Board) (events before : List BoardEvent) (ready : Board)
      → BoardRun layout opened events start → Zeroes h first count start before ready
      → (pages : ℕ → ℕ) × BoardRun layout opened (events ++ before) (unzeroed ready pages)
  not_yet layout opened start events _ _ run none_yet =
      let same : start ≡ unzeroed start start.memory = λ i. record start { memory = λ byte. sym (mix_same (named byte) (start.memory byte)) i } in (
        start.memory,
        subst (λ all. BoardRun layout opened all (unzeroed start start.memory)) (sym (append-nil events)) (subst (BoardRun layout opened events) same run),
      )
  not_yet layout opened start events _ _ run (meanwhile {events = so_far} {mid = mid} {new = new} others event differ x) =
      let was = not_yet layout opened start events so_far mid run others in
      let next = moved event mid new was.0 differ x in (
        next.0,
        subst (λ all. BoardRun layout opened all (unzeroed new next.0)) (append_assoc events so_far (event ∷ [])) (happened was.1 event next.1),
      )
  not_yet layout opened start events _ _ run (zeroes {events = so_far} {mid = mid} {new = new} others x) =
      let was = not_yet layout opened start events so_far mid run others in
      (was.0, subst (BoardRun layout opened (events ++ so_far)) (sym (zero_unseen mid new was.0 x)) was.1)

  pub zeroes_csrs : (start : Board) (before : List BoardEvent) (ready : Board) → Zeroes h first count start before ready → ready.csrs ≡ start.csrs
  zeroes_csrs start _ _ none_yet = refl
  zeroes_csrs start _ _ (meanwhile {events = so_far} {mid = mid} {new = new} others event differ x) =
      csrs_stay event mid new x ∙ zeroes_csrs start so_far mid others
  zeroes_csrs start _ _ (zeroes {events = so_far} {mid = mid} {new = new} others x) =
      ap (λ (b : Board). b.csrs) x.state ∙ zeroes_csrs start so_far mid others

  zeroed_same : (pages rest : ℕ → ℕ) (byte : ℕ) → zeroed rest first count byte ≡ zeroed (mix pages rest) first count byte
  zeroed_same pages rest byte = both (named byte)
      (λ yes. ap (λ b. if b then 0 else rest byte) yes ∙ sym (ap (λ b. if b then 0 else mix pages rest byte) yes))
      (λ no. ap (λ b. if b then 0 else rest byte) no ∙ sym (ap (λ b. if b then 0 else mix pages rest byte) no
      ∙ ap (λ b. if b then pages byte else rest byte) no))

-- the duties at a trap are the same there
pub duties_there : (old : Board) (pages : ℕ → ℕ) (trap : Trap) (frame read question answered : List ℕ) (done : Board)
    → TrapDuties old trap frame read question answered done
    → TrapDuties (unzeroed trap.hart (word_at answered 6) (word_at answered 7) old pages) trap frame read question answered done
duties_there old pages trap frame read question answered done x = record {
  size = x.size;
  is_trap = x.is_trap;
  started = x.started;
  came = x.came;
  host = x.host;
  changes = x.changes;
  served = x.served;
  sets = x.sets;
  cleared = λ byte there. x.cleared byte there ∙ zeroed_same trap.hart (word_at answered 6) (word_at answered 7) pages old.memory byte;
  keeps = x.keeps;
  loads = x.loads;
  parked = x.parked;
  running = record { resumes = x.running.resumes; others = x.running.others };
  floats = record {
    goes_on = x.floats.goes_on;
    leaves = x.floats.leaves;
    enters = x.floats.enters;
    made = x.floats.made;
    ends = x.floats.ends;
    harts = x.floats.harts;
    others = x.floats.others;
  };
  control = record {
    gets = x.control.gets;
    leaves = x.control.leaves;
    goes_on = x.control.goes_on;
    comes_back = x.control.comes_back;
    waits = x.control.waits;
    harts = x.control.harts;
    others = x.control.others;
  };
  csrs = x.csrs;
}
