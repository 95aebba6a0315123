-- What holds of memory over a trap.
use Rattle.std.proofs.Common.{◌≡◌, ◌∙◌, inl, inr, ℕ, ◌+◌, ◌/◌, ◌≤◌, ◌^◌, true, false, if◌then◌else◌, List, Option, Some, None, IfSome, ap, sym, subst}
use Rattle.std.proofs.Common.{arith}
use Rattle.std.proofs.lemmas.Bool.{false_from_ne_true}
use Rattle.pmp_encoding.specs.declared.pages.PageRange.{PageRange}
use Rattle.pmp_encoding.specs.Views.{in_range}
use Rattle.measurement.specs.Digests.{layout_of}
use Rattle.measurement.specs.Measured.{digest_of}
use Rattle.measurement.specs.Requests.{is_private}
use Rattle.measurement.specs.declared.request.Create.{Create}
use Rattle.sbi_decode.specs.Calls.{call_of}
use Rattle.enclave_table.specs.Enclaves.{Live, enclave_at}
use Rattle.enclave_table.specs.Tables.{IsTable}
use Rattle.enclave_table.specs.declared.enclave.Enclave.{Enclave}
use Rattle.monitor_core.specs.Changes.{past_call, with_running}
use Rattle.monitor_core.specs.Measured.{IsMade, asked_in}
use Rattle.monitor_core.specs.States.{MonitorState, running_registers}
use Rattle.monitor_core.specs.Switches.{IsGone}
use Rattle.monitor_core.specs.declared.answer.Answer.{Answer}
use Rattle.hart_sim.specs.Memory.{measured_in, zeroed}
use Rattle.trap_server.specs.declared.trap.TrapEvent.{TrapEvent}
use Rattle.trap_server.specs.declared.trap.TrapEvent.TheVariants.{Call, Stop}
use Rattle.trap_server.specs.declared.trap.Trap.{Trap}
use Rattle.monitor_core.specs.declared.set_changes.SetChanges.{SetChanges}
use Rattle.trap_server.specs.Answers.{pages_of}
use Rattle.trap_server.specs.Firmware.{AreDestroyed, KeepsTrap}
use Rattle.trap_server.specs.Service.{AsksFor, ServesAs, given_at}
use Rattle.trap_server.specs.Words.{word_at}
use Rattle.board.proofs.Here.{call_there, served_here}
use Rattle.board.specs.Board.{Board, TrapDuties, IsMemoryByte, ReadsMemory, saved}
use Rattle.board.specs.Headline.{KeepsMemory}
use Rattle.board.proofs.Made.{Absent, made_call, made_irq}
use Rattle.board.proofs.Named.{named}
use Rattle.board.proofs.Private.{as_part, private_memory}

-- no page is one of none
pub none_in : (page : ℕ) → in_range 0 0 page ≡ false
none_in page = false_from_ne_true (in_range 0 0 page) (λ yes. absurd (grind (arith, yes)))

-- memory with the pages of a range zero, where there is one
abbrev pub cleared_by : Option PageRange → (ℕ → ℕ) → ℕ → ℕ
cleared_by cleared memory = zeroed memory (pages_of cleared).first (pages_of cleared).count

-- where no enclave is gone no pages are made zero
pub all_stay : (cleared : Option PageRange) (s new : MonitorState) (memory : ℕ → ℕ) (byte : ℕ) → IfSome cleared (AreDestroyed s new)
    → ((id : ℕ) → IsGone s new id → ⊥) → cleared_by cleared memory byte ≡ memory byte
all_stay None s new memory byte d none = ap (λ b. if b then 0 else memory byte) (none_in (byte / 4096))
all_stay (Some range) s new memory byte d none = absurd (none d.1.0 d.1.1)

-- pages that are made zero are private to no enclave that is live before and after
private_stays : (cleared : Option PageRange) (s new : MonitorState) (memory : ℕ → ℕ) (id byte : ℕ) (e f : Enclave) → IsTable s.table
    → IfSome cleared (AreDestroyed s new) → Live s.table id e → is_private e.parts (byte / 4096) ≡ true → Live new.table id f
    → cleared_by cleared memory byte ≡ memory byte
private_stays None s new memory id byte e f right d live own now = ap (λ b. if b then 0 else memory byte) (none_in (byte / 4096))
private_stays (Some range) s new memory id byte e f right d live own now =
    let gone = d.1.1 in
    let outside : in_range range.first range.count (byte / 4096) ≡ false = false_from_ne_true (in_range range.first range.count (byte / 4096)) (λ yes.
    let theirs : is_private gone.0.parts (byte / 4096) ≡ true = ap (λ (r : PageRange). in_range r.first r.count (byte / 4096)) (sym d.1.2) ∙ yes in
    let same : d.1.0 ≡ id = right.alone d.1.0 id gone.0 e (byte / 4096) gone.1 live (as_part gone.0.parts (byte / 4096) theirs)
    (as_part e.parts (byte / 4096) own) in
    let z : None ≡ Some f = sym gone.2 ∙ subst (λ n. enclave_at new.table.enclaves n ≡ Some f) (sym same) now in cc) in
    ap (λ b. if b then 0 else memory byte) outside

-- the digest of an enclave that was made is that of memory
digest_is : (asked : Option Create) (answer : Answer) (question read digest : List ℕ) (memory : ℕ → ℕ) (parts : Create)
    → AsksFor asked answer question read digest → ReadsMemory memory read → IsMade asked answer parts
    → ((one : Create) → IsMade asked answer one → one ≡ parts) → digest ≡ measured_in memory parts
digest_is asked answer question read digest memory parts (inl none) reads m only = absurd (none.2 parts m)
digest_is asked answer question read digest memory parts (inr some) reads m only =
    let one = some.0 in
    let are = reads (one.base / 4096) (one.text_pages + one.data_pages) some.3 some.4 in
    some.5 ∙ ap (digest_of (layout_of one)) are ∙ ap (measured_in memory) (only one some.1)

-- the parts of an enclave that was made are those that were asked for
only_parts : (asked : Option Create) (answer : Answer) (parts one : Create) → IsMade asked answer parts → IsMade asked answer one → one ≡ parts
only_parts None answer parts one m n = absurd m
only_parts (Some asked) answer parts one m n = n.0 ∙ sym m.0

new_digest :
    (event : TrapEvent) (s : MonitorState) (trap : Trap) (changes : SetChanges) (read question answered : List ℕ)
    (new : MonitorState) (memory : ℕ → ℕ) (id : ℕ)
    (e : Enclave) → IsTable s.table → call_of (running_registers s trap.hart) ≡ call_of trap.registers → ReadsMemory memory read → Absent s.table id
    → Live new.table id e → ServesAs event s trap changes read question answered new → e.digest ≡ measured_in memory e.parts
new_digest Call s trap changes read question answered new memory id e right there reads none live x =
    let hart = trap.hart in
    let file = past_call (running_registers s hart) in
    let t = with_running s hart file in
    let a = x.answers in
    let now : Live a.mid.table id e = subst (λ (y : MonitorState). Live y.table id e) a.woken live in
    let made = made_call (call_of file) (λ parts. x.digest) t hart x.answer a.cleared a.mid id e right none now a.step in
    let asked = asked_in (call_of trap.registers) in
    let parts = subst (λ c. IsMade (asked_in c) x.answer e.parts) there made.0 in
    made.1 ∙ digest_is asked x.answer question read x.digest memory e.parts x.asks reads parts (λ one m. only_parts asked x.answer e.parts one parts m)
new_digest Stop s trap changes read question answered new memory id e right there reads none live x =
    let hart = trap.hart in
    let t = s in
    let now : Live x.mid.table id e = subst (λ (y : MonitorState). Live y.table id e) x.woken live in
    absurd (made_irq (s.worlds hart) t hart x.mid id e none now x.step)

-- memory after a trap
pub memory_is :
    (old : Board) (trap : Trap) (frame read question answered : List ℕ) (new : Board) (x : TrapDuties old trap frame read question answered new)
    → (k : KeepsTrap (saved old trap) trap x.changes read question answered new.monitor) → (byte : ℕ) → IsMemoryByte new.monitor.table.layout byte
    → new.memory byte ≡ cleared_by k.cleared old.memory byte
memory_is old trap frame read question answered new x k byte there =
    let inside : IfSome k.cleared (λ range. range.first + range.count ≤ 2 ^ 44) = in_space k.cleared k.zeroes in
    let words = named new.monitor (given_at (saved old trap) new.monitor trap) trap.hart k.answer k.cleared k.woken k.lists x.changes answered k.says inside in
    x.cleared byte there ∙ ap (λ first. zeroed old.memory first (word_at answered 7) byte) words.0
    ∙ ap (λ count. zeroed old.memory (pages_of k.cleared).first count byte) words.1
  where
    in_space : (cleared : Option PageRange) → IfSome cleared (AreDestroyed old.monitor new.monitor)
        → IfSome cleared (λ range. range.first + range.count ≤ 2 ^ 44)
    in_space None d = tt
    in_space (Some range) d = d.0.inside

pub trap_kept :
    (old : Board) (trap : Trap) (frame read question answered : List ℕ) (new : Board) → IsTable old.monitor.table → IsTable new.monitor.table
    → new.monitor.table.layout ≡ old.monitor.table.layout → (x : TrapDuties old trap frame read question answered new)
    → ReadsMemory old.memory read → KeepsTrap (saved old trap) trap x.changes read question answered new.monitor → KeepsMemory old new
trap_kept old trap frame read question answered new right sound layout x pages k =
    let memory = memory_is old trap frame read question answered new x k in
    record {
      private = λ id byte e f own now.
          memory byte (private_memory new.monitor.table id byte f sound now.0 now.1)
          ∙ private_stays k.cleared old.monitor new.monitor old.memory id byte e f right k.zeroes own.0 own.1 now.0;
      zeroes = λ id gone byte own.
          let there = private_memory old.monitor.table id byte gone.0 right gone.1 own in
          memory byte (subst (λ l. IsMemoryByte l byte) (sym layout) there)
          ∙ ap (λ cleared. cleared_by cleared old.memory byte) (k.destroys id gone) ∙ ap (λ b. if b then 0 else old.memory byte) own;
      keeps = λ id gone byte there. memory byte there ∙ ap (λ cleared. cleared_by cleared old.memory byte) (k.destroys id gone);
      stays = λ none byte there. memory byte there ∙ all_stay k.cleared old.monitor new.monitor old.memory byte k.zeroes none;
      digest = λ id e none live.
          let one = served_here old trap frame read question answered new x in
          new_digest trap.event (saved old trap) trap x.changes read question answered new.monitor old.memory id e right (call_there old trap) pages
          none live one;
    }
