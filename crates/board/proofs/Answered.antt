-- What holds of the words of each answer.
use Rattle.std.proofs.Common.{◌≡◌, ◌≢◌, ◌⊎◌, ◌∙◌, inl, inr, ℕ, zero, suc, ◌+◌, ◌*◌, ◌%◌, ◌^◌, ◌<◌, ◌≤◌, ◌==◌, Bool, false, if◌then◌else◌}
use Rattle.std.proofs.Common.{List, [], ◌∷◌, ◌++◌, length, drop, Option, Some, None, IfSome, refl, ap, sym, subst, arith, lit<, lit≤, length-append}
use Rattle.byteorder.specs.Numbers.{little_number-reads_back}
use Rattle.pmp_encoding.specs.Limits.{limit_number}
use Rattle.pmp_encoding.specs.declared.pages.PageRange.{PageRange}
use Rattle.pmp_encoding.proofs.Filled.{limit_most}
use Rattle.pmp_match.specs.Meaning.{Needs}
use Rattle.measurement.specs.declared.request.Create.{Create}
use Rattle.platforms.specs.Platform.{IsLayout, PlatformLayout}
use Rattle.sbi_decode.specs.Calls.{call_of}
use Rattle.sbi_decode.specs.Registers.{RegisterFile}
use Rattle.sbi_decode.specs.Runners.{Runner}
use Rattle.sbi_decode.specs.declared.calls.Call.{Call}
use Rattle.sbi_decode.specs.declared.calls.Call.TheVariants as calls
use Rattle.sbi_decode.specs.declared.world.World.{World}
use Rattle.sbi_decode.specs.declared.world.World.TheVariants.{Host, Enclave as InEnclave}
use Rattle.enclave_table.specs.Tables.{IsCurrent, IsTable}
use Rattle.enclave_table.specs.Views.{current_view}
use Rattle.enclave_table.specs.Enclaves.{EnclaveTable}
use Rattle.enclave_table.proofs.Places.{live_above, live_inside}
use Rattle.monitor_core.proofs.Cases.{both}
use Rattle.std.proofs.lemmas.Bool.{both_ways, eq-eqb}
use Rattle.monitor_core.specs.Answers.{world_number}
use Rattle.monitor_core.specs.Changes.{past_call, with_running}
use Rattle.monitor_core.specs.Measured.{asked_in}
use Rattle.monitor_core.specs.SetChanges.{changed}
use Rattle.monitor_core.specs.States.{MonitorState, opening_monitor, running_registers}
use Rattle.monitor_core.specs.Steps.{DoesCall, Interrupts}
use Rattle.monitor_core.specs.declared.answer.Answer.{Answer}
use Rattle.monitor_core.specs.declared.set_changes.ChangeKind.{ChangeKind}
use Rattle.monitor_core.specs.declared.set_changes.ChangeKind.TheVariants as kinds
use Rattle.monitor_core.specs.declared.set_changes.SetChanges.{SetChanges}
use Rattle.trap_server.specs.Answered.{IsAnswer, marks_of, new_lists, unmarked}
use Rattle.trap_server.specs.Answers.{control_count, front_bytes, given_bytes, kind_number, list_count, lists_bytes, pages_of, wake_word}
use Rattle.trap_server.specs.Boot.{IsFirstAnswer}
use Rattle.trap_server.specs.Firmware.{FirmwareHeadline, KeepsTrap}
use Rattle.trap_server.specs.Given.{words_given}
use Rattle.trap_server.specs.Runs.{ServesTraps, next_trap, no_trap}
use Rattle.trap_server.specs.Service.{ServesAs, given_at}
use Rattle.trap_server.specs.Sets.{with_sets}
use Rattle.trap_server.specs.Words.{word_at}
use Rattle.trap_server.specs.declared.answer.NewLists.{NewLists}
use Rattle.trap_server.specs.declared.answer.NewLists.TheVariants as lists
use Rattle.trap_server.specs.declared.host_words.HostWords.{HostWords}
use Rattle.trap_server.specs.declared.trap.Trap.{Trap}
use Rattle.trap_server.specs.declared.trap.TrapEvent.{TrapEvent}
use Rattle.trap_server.specs.declared.trap.TrapEvent.TheVariants as traps
use Rattle.trap_server.specs.declared.words.ControlWords.{ControlWords}
use Rattle.trap_server.proofs.LoadedBytes.{front_length, hart_back, wake_back}
use Rattle.trap_server.proofs.Said.{ends, head, lists_length, put_all, says_control_count, says_count}
use Rattle.board.specs.Answers.{AreWellFormed, IsWellFormed}
use Rattle.board.proofs.Named.{Says, named, says, whole_is}

-- what the firmware's theorem says
abbrev FirmwareHolds : Type 0
FirmwareHolds =
    (layout : PlatformLayout) (opened read written : List ℕ) (s : MonitorState) (served : ServesTraps (opening_monitor layout) read written s)
    → IsLayout layout → IsFirstAnswer layout opened → FirmwareHeadline layout opened read written s served

-- a call that leaves no list marks no hart
marks_stay :
    (call : Option Call) (digests : Create → List ℕ) (s : MonitorState) (hart : ℕ) (answer : Answer) (pages : Option PageRange) (new : MonitorState)
    → DoesCall call digests s hart answer pages new → new_lists (asked_in call) answer pages ≡ lists.Nothing → (h : ℕ) → new.marked h ≡ s.marked h
marks_stay None digests s hart answer pages new x none h = ap (λ y. y.marked h) x.state
marks_stay (Some (calls.Create base text_pages data_pages shared_base shared_count entry_offset)) digests s hart answer pages new (inl x) none h =
    let asked = asked_in (Some (calls.Create base text_pages data_pages shared_base shared_count entry_offset)) in
    let told = subst (λ (a : Answer). new_lists asked a None ≡ lists.Nothing) x.3.told
    (subst (λ o. new_lists asked answer o ≡ lists.Nothing) x.3.zeroes none) in
    absurd (let z : lists.HostAndMade ≡ lists.Nothing = told in cc)
marks_stay (Some (calls.Create base text_pages data_pages shared_base shared_count entry_offset)) digests s hart answer pages new (inr x) none h =
    ap (λ y. y.marked h) x.2.state
marks_stay (Some (calls.Destroy id)) digests s hart answer pages new (inl x) none h =
    let told = subst (λ o. new_lists None answer o ≡ lists.Nothing) x.3.zeroes none in
    absurd (let z : lists.Host ≡ lists.Nothing = told in cc)
marks_stay (Some (calls.Destroy id)) digests s hart answer pages new (inr x) none h = ap (λ y. y.marked h) x.2.state
marks_stay (Some (calls.Run id)) digests s hart answer pages new (inl x) none h = ap (λ y. y.marked h) x.4.state
marks_stay (Some (calls.Run id)) digests s hart answer pages new (inr x) none h = ap (λ y. y.marked h) x.2.state
marks_stay (Some calls.Stop) digests s hart answer pages new (inl x) none h = ap (λ y. y.marked h) x.3.state
marks_stay (Some calls.Stop) digests s hart answer pages new (inr x) none h = ap (λ y. y.marked h) x.2.state
marks_stay (Some (calls.Resume id)) digests s hart answer pages new (inl x) none h = ap (λ y. y.marked h) x.4.state
marks_stay (Some (calls.Resume id)) digests s hart answer pages new (inr x) none h = ap (λ y. y.marked h) x.2.state
marks_stay (Some (calls.Exit value)) digests s hart answer pages new (inl x) none h = ap (λ y. y.marked h) x.3.state
marks_stay (Some (calls.Exit value)) digests s hart answer pages new (inr x) none h = ap (λ y. y.marked h) x.2.state
marks_stay (Some (calls.Measure id k)) digests s hart answer pages new (inl x) none h = ap (λ y. y.marked h) x.2.state
marks_stay (Some (calls.Measure id k)) digests s hart answer pages new (inr x) none h = ap (λ y. y.marked h) x.2.state

irq_marks : (world : World) (s : MonitorState) (hart : ℕ) (new : MonitorState) → Interrupts world s hart new → (h : ℕ) → new.marked h ≡ s.marked h
irq_marks Host s hart new x h = ap (λ y. y.marked h) x
irq_marks (InEnclave id) s hart new x h = ap (λ y. y.marked h) x.2

-- no hart of four is marked
abbrev Unmarked : MonitorState → Type 0
Unmarked s = (h : ℕ) → h < 4 → s.marked h ≡ false

other_below : (h n : ℕ) → h < suc n → h ≢ n → h < n
other_below h n low differ = omega (arith, low, differ)

taken : (n : ℕ) (s : MonitorState) (h : ℕ) → h < n → (unmarked n s).marked h ≡ false
taken zero s h low = absurd (omega (arith, low))
taken (suc n) s h low = both (h == n)
    (λ yes. ap (λ b. if b then false else (unmarked n s).marked h) yes)
    (λ no. ap (λ b. if b then false else (unmarked n s).marked h) no ∙ taken n s h (other_below h n low (λ same. both_ways (h == n) no (eq-eqb h n same))))

no_wake : (a b c d : Bool) → a ≡ false → b ≡ false → c ≡ false → d ≡ false → wake_word (a ∷ (b ∷ (c ∷ (d ∷ [])))) ≡ 0
no_wake a b c d one two three four =
    ap (λ x. wake_word (x ∷ (b ∷ (c ∷ (d ∷ []))))) one ∙ ap (λ x. wake_word (false ∷ (x ∷ (c ∷ (d ∷ []))))) two
    ∙ ap (λ x. wake_word (false ∷ (false ∷ (x ∷ (d ∷ []))))) three ∙ ap (λ x. wake_word (false ∷ (false ∷ (false ∷ (x ∷ []))))) four

-- a trap whose answer has no list makes no page zero and wakes no hart
pub record IsQuiet (answered : List ℕ) : Type 0 where
  cleared : word_at answered 7 ≡ 0
  woken : word_at answered 8 ≡ 0

-- where there are as many lists
no_lists : (new : NewLists) → list_count new ≡ 0 → new ≡ lists.Nothing
no_lists lists.Nothing is = refl
no_lists lists.Host is = let z : 1 ≡ 0 = is in absurd (omega (arith, z))
no_lists lists.HostAndMade is = let z : 2 ≡ 0 = is in absurd (omega (arith, z))

two_lists : (new : NewLists) → list_count new ≡ 2 → new ≡ lists.HostAndMade
two_lists lists.Nothing is = let z : 0 ≡ 2 = is in absurd (omega (arith, z))
two_lists lists.Host is = let z : 1 ≡ 2 = is in absurd (omega (arith, z))
two_lists lists.HostAndMade is = refl

most_lists : (new : NewLists) → list_count new ≤ 2
most_lists lists.Nothing = lit≤ tt
most_lists lists.Host = lit≤ tt
most_lists lists.HostAndMade = lit≤ tt

-- pages that are to be made zero leave a list
no_pages : (asked : Option Create) (answer : Answer) (cleared : Option PageRange) → new_lists asked answer cleared ≡ lists.Nothing → cleared ≡ None
no_pages asked answer None none = refl
no_pages asked answer (Some range) none = absurd (let z : lists.Host ≡ lists.Nothing = none in cc)

quiet_by :
    (s : MonitorState) (given : Option ControlWords) (hart : ℕ) (answer : Answer) (cleared : Option PageRange) (mid : MonitorState) (new : NewLists)
    (changes : SetChanges) (bytes : List ℕ) → IsAnswer s given hart answer cleared (marks_of mid) new changes bytes → cleared ≡ None → Unmarked mid
    → IsQuiet bytes
quiet_by s given hart answer cleared mid new changes bytes a none marks = record {
  cleared =
      let inside : IfSome cleared (λ (range : PageRange). range.first + range.count ≤ 2 ^ 44) =
      subst (λ o. IfSome o (λ (range : PageRange). range.first + range.count ≤ 2 ^ 44)) (sym none) tt in
      (named s given hart answer cleared (marks_of mid) new changes bytes a inside).1 ∙ ap (λ o. (pages_of o).count) none;
  woken = ap (λ b. word_at b 8) (put_all s given hart answer cleared (marks_of mid) new changes bytes a)
      ∙ wake_back (head s given hart answer cleared (marks_of mid) new changes bytes a) changes
      (ends s given hart answer cleared (marks_of mid) new changes bytes a)
      ∙ no_wake (mid.marked 0) (mid.marked 1) (mid.marked 2) (mid.marked 3) (marks 0 (lit< tt)) (marks 1 (lit< tt)) (marks 2 (lit< tt)) (marks 3 (lit< tt));
}

quiet_served :
    (event : TrapEvent) (s : MonitorState) (trap : Trap) (changes : SetChanges) (read question answered : List ℕ) (new : MonitorState)
    → call_of (running_registers s trap.hart) ≡ call_of trap.registers → Unmarked s → ServesAs event s trap changes read question answered new
    → (word_at answered 9 ≡ 0 → IsQuiet answered) × Unmarked new
quiet_served traps.Call s trap changes read question answered new there marks x =
    let a = x.answers in
    let file = past_call (running_registers s trap.hart) in
    let given = given_at s new trap in
    let asked = asked_in (call_of trap.registers) in
    let which = new_lists asked x.answer a.cleared in (
      λ none.
          let nothing : which ≡ lists.Nothing = no_lists which
          (sym (says_count new given trap.hart x.answer a.cleared (marks_of a.mid) which changes answered a.goes_on) ∙ none) in
          let same : new_lists (asked_in (call_of file)) x.answer a.cleared ≡ lists.Nothing =
          ap (λ c. new_lists (asked_in c) x.answer a.cleared) there ∙ nothing in
          quiet_by new given trap.hart x.answer a.cleared a.mid which changes answered a.goes_on (no_pages asked x.answer a.cleared nothing)
          (λ h low.
          marks_stay (call_of file) (λ parts. x.digest) (with_running s trap.hart file) trap.hart x.answer a.cleared a.mid a.step same h ∙ marks h low),
      λ h low. ap (λ (y : MonitorState). y.marked h) a.woken ∙ taken 4 a.mid h low,
    )
quiet_served traps.Stop s trap changes read question answered new there marks x = (
  λ none. quiet_by new (given_at s new trap) trap.hart _ None x.mid lists.Nothing changes answered x.goes_on refl
      (λ h low. irq_marks (s.worlds trap.hart) s trap.hart x.mid x.step h ∙ marks h low),
  λ h low. ap (λ (y : MonitorState). y.marked h) x.woken ∙ taken 4 x.mid h low,
)

-- the number of a world
world_small : (table : EnclaveTable) (world : World) → IsTable table → IsCurrent table world → world_number world ≤ 64
world_small table Host right current = lit≤ tt
world_small table (InEnclave id) right current =
    let inside = live_inside table.enclaves id current.0 current.1 in omega (arith, inside, right.places)

-- a kind of change
kind_most : (kind : ChangeKind) → kind_number kind ≤ 4
kind_most kinds.Nothing = lit≤ tt
kind_most kinds.PastCall = lit≤ tt
kind_most kinds.Answer = lit≤ tt
kind_most kinds.Begin = lit≤ tt
kind_most kinds.Clear = lit≤ tt

-- how many control words
given_count : (before after : World) (host : HostWords)
    → ((control_count (words_given before after host) ≡ 9) × (before ≡ Host) × ((id : ℕ) × (after ≡ InEnclave id)))
    ⊎ (control_count (words_given before after host) ≡ 0)
given_count Host Host host = inr refl
given_count Host (InEnclave id) host = inl (refl, refl, (id, refl))
given_count (InEnclave id) after host = inr refl

words_size : (given : Option ControlWords) → length (given_bytes given) ≡ 8 * control_count given
words_size None = refl
words_size (Some words) = refl

-- a number as a word
as_word : (n : ℕ) → n ≤ 64 → n % 2 ^ 64 ≡ n
as_word n low = omega (arith, low)

module _ (law : FirmwareHolds) (layout : PlatformLayout) (opened : List ℕ) (rules : IsLayout layout) (answer : IsFirstAnswer layout opened) where
  -- a trap more
  one : (mid : MonitorState) (trap : Trap) (changes : SetChanges) (read question answered : List ℕ) (new : MonitorState)
      → trap.hart < 4 → IsTable new.table → IsCurrent new.table (new.worlds trap.hart)
      → ((used : ℕ) → Needs (current_view new.table (new.worlds trap.hart)) used
      → used ≤ limit_number layout.limit)
      → KeepsTrap mid trap changes read question answered new → (word_at answered 9 ≡ 0 → IsQuiet answered)
      → IsWellFormed layout mid trap new answered
  one mid trap changes read question answered new four sound current room k quiet =
      let hart = trap.hart in
      let given = given_at mid new trap in
      let a = k.says in
      let front = head new given hart k.answer k.cleared k.woken k.lists changes answered a in
      let rest = ends new given hart k.answer k.cleared k.woken k.lists changes answered a in
      let put = put_all new given hart k.answer k.cleared k.woken k.lists changes answered a in
      let count = says_count new given hart k.answer k.cleared k.woken k.lists changes answered a in
      let words = says_control_count new given hart k.answer k.cleared k.woken k.lists changes answered a in
      let said : Says answered (world_number (new.worlds hart)) front.status k.answer.value a.used =
      subst (λ bytes. Says bytes (world_number (new.worlds hart)) front.status k.answer.value a.used)
      (sym (whole_is new given hart k.answer k.cleared k.woken k.lists changes answered a)) (says front changes a.puts.are given) in
      let small = world_small new.table (new.worlds hart) sound current in
      let fits : a.used ≤ limit_number layout.limit = room a.used a.needs in
      let most : limit_number layout.limit ≤ 64 = limit_most layout.limit in
      let back = λ (n : ℕ) (kind : ChangeKind). little_number-reads_back 8 (kind_number kind) (drop n (front_bytes front changes ++ rest))
      (let low = kind_most kind in omega (arith, low)) in
      let kind_at = λ (n : ℕ) (kind : ChangeKind) (is : word_at (front_bytes front changes ++ rest) n ≡ kind_number kind).
      subst (λ m. m ≤ 4) (sym (ap (λ b. word_at b n) put ∙ is)) (kind_most kind) in
      record {
        lists = subst (λ n. n ≤ 2) (sym count) (most_lists k.lists);
        size =
            let whole = ap length put in
            let parts = length-append (front_bytes front changes) rest in
            let more = length-append (lists_bytes a.puts.are) (given_bytes given) in
            let front_size = front_length front changes in
            let lists_size = lists_length new.table k.answer.value k.lists a.puts.are a.puts.lists in
            let given_size = words_size given in
            omega (arith, whole, parts, more, front_size, lists_size, given_size, count, words);
        hart = ap (λ b. word_at b 1) put ∙ hart_back front changes rest four;
        world = subst (λ n. n ≤ 64) (sym (said.world_is ∙ as_word (world_number (new.worlds hart)) small)) small;
        used = subst (λ n. n ≤ limit_number layout.limit) (sym (said.used_is ∙ as_word a.used (omega (arith, fits, most)))) fits;
        made = λ two.
            let there = k.made (two_lists k.lists (sym count ∙ two)) in
            let above = live_above new.table.enclaves k.answer.value there.0 there.1 in
            let inside = live_inside new.table.enclaves k.answer.value there.0 there.1 in
            let low : k.answer.value ≤ 64 = omega (arith, inside, sound.places) in
            let is = said.value_is ∙ as_word k.answer.value low in
            (subst (λ n. 1 ≤ n) (sym is) above, subst (λ n. n ≤ 64) (sym is) low);
        cleared = λ none. (quiet none).cleared;
        woken = λ none. (quiet none).woken;
        control = elim (given_count (mid.worlds hart) (new.worlds hart) trap.host) [
          | inl enters ↦ inl (words ∙ enters.0, enters.1, enters.2)
          | inr nothing ↦ inr (words ∙ nothing)
        ];
        first = kind_at 11 changes.first.kind (back 96 changes.first.kind);
        second = kind_at 15 changes.second.kind (back 128 changes.second.kind);
        third = kind_at 19 changes.third.kind (back 160 changes.third.kind);
      }

  -- the bounds on used
  pub well_formed : (read written : List ℕ) (s : MonitorState) (served : ServesTraps (opening_monitor layout) read written s)
      → AreWellFormed layout served × Unmarked s
  well_formed _ _ _ no_trap = (tt, λ h low. refl)
  well_formed _ _ _ (next_trap {read = r} {written = w} {mid = mid} served trap frame more question answered changes new size is step) =
      let f = law layout opened (r ++ (frame ++ more)) (w ++ (answered ++ question)) new
      (next_trap served trap frame more question answered changes new size is step) rules answer in
      let was = law layout opened r w mid served rules answer in
      let before = well_formed r w mid served in
      let sets : Runner → RegisterFile = λ who. trap.registers in
      let k = f.each.1 sets refl in
      let quiet = quiet_served trap.event (with_sets mid sets) trap changes more question answered
      (with_sets new (changed trap.hart changes sets)) refl before.1 (step sets refl) in
      let four : trap.hart < 4 =
      let known = is.known in
      let harts = subst (λ l. l.harts ≤ 4) (sym was.platform) rules.four_harts in
      omega (arith, known, harts) in
      let under : trap.hart < new.table.layout.harts = subst (λ l. trap.hart < l.harts) (was.platform ∙ sym f.platform) is.known in
      let bank = f.banks trap.hart (subst (λ l. trap.hart < l.harts) was.platform is.known) in
      let w = one (with_sets mid sets) trap changes more question answered (with_sets new (changed trap.hart changes sets)) four f.table
      (f.worlds.current trap.hart under)
      (λ used needs.
      let least = needs.fewest.least bank.entries bank.fewest.means in
      let room = bank.room in
      let count = needs.count in
      omega (arith, least, room, count)) k quiet.0 in (
        (
          before.0,
          record {
            lists = w.lists;
            size = w.size;
            hart = w.hart;
            world = w.world;
            used = w.used;
            made = w.made;
            cleared = w.cleared;
            woken = w.woken;
            control = w.control;
            first = w.first;
            second = w.second;
            third = w.third;
          },
        ),
        quiet.1,
      )
