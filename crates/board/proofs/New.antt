-- A trap says which enclave is new, and says it of no other.
use Rattle.std.proofs.Common.{◌≡◌, ◌≢◌, ◌⊎◌, ◌∙◌, inl, inr, ℕ, pos, ◌+◌, ◌-◌, ◌/◌, ◌%◌, ◌^◌, ◌<◌, ◌≤◌, List, [], length, Option, Some, None, refl, ap, sym, subst, arith}
use Rattle.std.proofs.lemmas.Option.{same_Some}
use Rattle.pmp_encoding.specs.declared.pages.PageRange.{PageRange}
use Rattle.measurement.specs.Requests.{parts_of}
use Rattle.measurement.specs.declared.request.Create.{Create}
use Rattle.sbi_decode.specs.Calls.{call_of}
use Rattle.sbi_decode.specs.Registers.{RegisterFile}
use Rattle.sbi_decode.specs.Runners.{Runner, EnclaveOf}
use Rattle.sbi_decode.specs.declared.calls.Call.{Call}
use Rattle.sbi_decode.specs.declared.calls.Call.TheVariants as calls
use Rattle.enclave_table.specs.Create.{fresh}
use Rattle.enclave_table.specs.Enclaves.{EnclaveTable, Live, enclave_at, with_enclave}
use Rattle.enclave_table.specs.Refusals.{refusal_number}
use Rattle.enclave_table.specs.Tables.{IsTable}
use Rattle.enclave_table.specs.declared.enclave.Enclave.{Enclave}
use Rattle.enclave_table.specs.declared.enclave.Stage.TheVariants.{Fresh}
use Rattle.enclave_table.specs.declared.refusal.Refusal.{Refusal}
use Rattle.enclave_table.proofs.Places.{set_same}
use Rattle.monitor_core.specs.Answers.{below_zero, world_number}
use Rattle.monitor_core.specs.Changes.{past_call, with_running}
use Rattle.monitor_core.specs.Measured.{IsMade, asked_in}
use Rattle.monitor_core.specs.States.{MonitorState, running_registers}
use Rattle.monitor_core.specs.Steps.{DoesCall}
use Rattle.monitor_core.specs.declared.answer.Answer.{Answer}
use Rattle.trap_server.specs.Answered.{head_of, marks_of, new_lists, status_word}
use Rattle.trap_server.specs.PageDigest.{ArePages, question_of}
use Rattle.trap_server.specs.Service.{AnswersCall, ServesAs, ServesCall, given_at}
use Rattle.trap_server.specs.Words.{word_at}
use Rattle.trap_server.specs.declared.trap.TrapEvent.{TrapEvent}
use Rattle.trap_server.specs.declared.trap.TrapEvent.TheVariants as traps
use Rattle.trap_server.specs.declared.trap.Trap.{Trap}
use Rattle.monitor_core.specs.declared.set_changes.SetChanges.{SetChanges}
use Rattle.board.specs.Board.{SaysMade}
use Rattle.board.proofs.Fresh.{placed}
use Rattle.board.proofs.Made.{Absent, made_call, made_irq}
use Rattle.board.proofs.Named.{Says, says, whole_is}

-- a creation that was done is answered with the number of the enclave
pub record IsDone (parts : Create) (s : MonitorState) (answer : Answer) (new : MonitorState) : Type 0 where
  pub id : ℕ
  pub made : Enclave
  pub above : 1 ≤ id
  pub below : id ≤ 64
  pub free : Absent s.table id
  pub told : answer ≡ record { status = pos 0; value = id }
  pub table : new.table ≡ with_enclave s.table id (Some made)
  pub fresh : made.state ≡ Fresh
  pub sized : made.parts ≡ parts

-- frames of the private pages of an enclave that is new
pub record AreNewPages (old new : EnclaveTable) (read : List ℕ) : Type 0 where
  pub id : ℕ
  pub made : Enclave
  pub pages : List (List ℕ)
  pub free : Absent old id
  pub live : Live new id made
  pub fresh : made.state ≡ Fresh
  pub are : ArePages (made.parts.base / 4096) (made.parts.text_pages + made.parts.data_pages) read pages

abbrev pub ReadsNew : EnclaveTable → EnclaveTable → List ℕ → Type 0
ReadsNew old new read = (read ≡ []) ⊎ AreNewPages old new read

-- no refusal has the status of what was done
done_status : (refusal : Refusal) → below_zero (refusal_number refusal) ≢ pos 0
done_status refusal is = cc

ended :
    (call : Option Call) (digests : Create → List ℕ) (s : MonitorState) (hart : ℕ) (answer : Answer) (zero : Option PageRange) (new : MonitorState)
    (parts : Create) → IsMade (asked_in call) answer parts → DoesCall call digests s hart answer zero new → IsDone parts s answer new
ended None digests s hart answer zero new parts m x = absurd m
ended (Some (calls.Create base text_pages data_pages shared_base shared_count entry_offset)) digests s hart answer zero new parts m (inl x) =
    let asked : Create = record {
      base = base;
      text_pages = text_pages;
      data_pages = data_pages;
      shared_base = shared_base;
      shared_count = shared_count;
      entry_offset = entry_offset;
    } in
    let free = x.2.next.free in
    record {
      id = x.0;
      made = fresh digests (parts_of asked);
      above = free.0;
      below = free.1;
      free = free.2;
      told = x.3.told;
      table = ap (λ y. y.table) x.3.state ∙ x.2.added;
      fresh = refl;
      sized = sym m.0;
    }
ended (Some (calls.Create base text_pages data_pages shared_base shared_count entry_offset)) digests s hart answer zero new parts m (inr x) =
    absurd (done_status x.0 (sym (ap (λ (told : Answer). told.status) x.2.told) ∙ m.1))
ended (Some (calls.Destroy k)) digests s hart answer zero new parts m x = absurd m
ended (Some (calls.Run k)) digests s hart answer zero new parts m x = absurd m
ended (Some calls.Stop) digests s hart answer zero new parts m x = absurd m
ended (Some (calls.Resume k)) digests s hart answer zero new parts m x = absurd m
ended (Some (calls.Exit value)) digests s hart answer zero new parts m x = absurd m
ended (Some (calls.Measure k n)) digests s hart answer zero new parts m x = absurd m

-- a number of an enclave is a word
as_word : (id : ℕ) → id ≤ 64 → id % 2 ^ 64 ≡ id
as_word id low = omega (arith, low)

-- a question for pages is not empty
some_question : (parts : Create) → question_of parts ≢ []
some_question parts is = cc

module _ (s : MonitorState) (trap : Trap) (changes : SetChanges) (read question answered : List ℕ) (new : MonitorState)
    (right : IsTable s.table) (there : call_of (running_registers s trap.hart) ≡ call_of trap.registers)
    (x : ServesCall s trap changes read question answered new) where
  abbrev a : AnswersCall s trap changes x.digest x.answer answered new
  a = x.answers

  abbrev file : RegisterFile
  file = past_call (running_registers s trap.hart)

  abbrev t : MonitorState
  t = with_running s trap.hart file

  -- the words of the answer
  words : Says answered (world_number (new.worlds trap.hart)) (status_word x.answer.status) x.answer.value a.goes_on.used
  words = subst (λ bytes. Says bytes (world_number (new.worlds trap.hart)) (status_word x.answer.status) x.answer.value a.goes_on.used)
      (sym (whole_is new (given_at s new trap) trap.hart x.answer a.cleared (marks_of a.mid)
      (new_lists (asked_in (call_of trap.registers)) x.answer a.cleared) changes answered a.goes_on))
      (says (head_of new trap.hart x.answer a.goes_on.used a.cleared (marks_of a.mid)
      (new_lists (asked_in (call_of trap.registers)) x.answer a.cleared) (given_at s new trap)) changes a.goes_on.puts.are (given_at s new trap))

  done : (parts : Create) → IsMade (asked_in (call_of file)) x.answer parts → IsDone parts t x.answer a.mid
  done parts m = ended (call_of file) (λ all. x.digest) t trap.hart x.answer a.cleared a.mid parts m a.step

  value_is : (parts : Create) (d : IsDone parts t x.answer a.mid) → word_at answered 4 ≡ d.id
  value_is parts d = words.value_is ∙ ap (λ (told : Answer). told.value % 2 ^ 64) d.told ∙ as_word d.id d.below

  inside : (parts : Create) (d : IsDone parts t x.answer a.mid) → d.id - 1 < length s.table.enclaves
  inside parts d =
      let above = d.above in
      let below = d.below in
      omega (arith, above, below, right.places)

  call_said : (who : Runner) → SaysMade question answered who
      → (id : ℕ) × (e : Enclave) × (who ≡ EnclaveOf id) × Absent s.table id × Live new.table id e
  call_said who m = elim x.asks [
    | inl none ↦ absurd (m.0 none.0)
    | inr some ↦
        let d = done some.0 (subst (λ c. IsMade (asked_in c) x.answer some.0) (sym there) some.1) in
        let live : Live a.mid.table d.id d.made = ap (λ (table : EnclaveTable). enclave_at table.enclaves d.id) d.table
        ∙ set_same s.table.enclaves d.id (Some d.made) d.above (inside some.0 d) in
        (d.id, d.made, m.1 ∙ ap EnclaveOf (value_is some.0 d), d.free, subst (λ (y : MonitorState). Live y.table d.id d.made) (sym a.woken) live)
  ]

  call_new : (id : ℕ) (e : Enclave) → Absent s.table id → Live new.table id e → SaysMade question answered (EnclaveOf id) × (e.state ≡ Fresh)
  call_new id e none live =
      let now : Live a.mid.table id e = subst (λ (y : MonitorState). Live y.table id e) a.woken live in
      let made = made_call (call_of file) (λ all. x.digest) t trap.hart x.answer a.cleared a.mid id e right none now a.step in
      let asked : question ≢ [] = λ is. elim x.asks [
        | inl nothing ↦ nothing.2 e.parts (subst (λ c. IsMade (asked_in c) x.answer e.parts) there made.0)
        | inr some ↦ some_question some.0 (sym some.2 ∙ is)
      ] in
      let d = done e.parts made.0 in
      elim (placed s.table a.mid.table d.id id (Some d.made) e d.table d.above (inside e.parts d) now) [
        | inl here ↦ (
          (asked, ap EnclaveOf (here.0 ∙ sym (value_is e.parts d))),
          ap (λ (one : Enclave). one.state) (sym (same_Some d.made e here.1)) ∙ d.fresh,
        )
        | inr was ↦ absurd (let z : None ≡ Some e = sym none ∙ was in cc)
      ]

  -- what was read are the pages of an enclave that is new
  call_read : ReadsNew s.table new.table read
  call_read = elim x.asks [
    | inl none ↦ inl none.1
    | inr some ↦
        let d = done some.0 (subst (λ c. IsMade (asked_in c) x.answer some.0) (sym there) some.1) in
        let live : Live a.mid.table d.id d.made = ap (λ (table : EnclaveTable). enclave_at table.enclaves d.id) d.table
        ∙ set_same s.table.enclaves d.id (Some d.made) d.above (inside some.0 d) in
        inr (record {
          id = d.id;
          made = d.made;
          pages = some.3;
          free = d.free;
          live = subst (λ (y : MonitorState). Live y.table d.id d.made) (sym a.woken) live;
          fresh = d.fresh;
          are = subst (λ (p : Create). ArePages (p.base / 4096) (p.text_pages + p.data_pages) read some.3) (sym d.sized) some.4;
        })
  ]

-- what a trap reads, if it reads
pub read_new :
    (event : TrapEvent) (s : MonitorState) (trap : Trap) (changes : SetChanges) (read question answered : List ℕ)
    (new : MonitorState) → IsTable s.table
    → call_of (running_registers s trap.hart) ≡ call_of trap.registers → ServesAs event s trap changes read question answered new
    → ReadsNew s.table new.table read
read_new traps.Call s trap changes read question answered new right there x = call_read s trap changes read question answered new right there x
read_new traps.Stop s trap changes read question answered new right there x = inl x.nothing_read

-- a trap that says it of one is its creation
pub said_new :
    (event : TrapEvent) (s : MonitorState) (trap : Trap) (changes : SetChanges) (read question answered : List ℕ)
    (new : MonitorState) → IsTable s.table
    → call_of (running_registers s trap.hart) ≡ call_of trap.registers → ServesAs event s trap changes read question answered new
    → (who : Runner) → SaysMade question answered who → (id : ℕ) × (e : Enclave) × (who ≡ EnclaveOf id) × Absent s.table id × Live new.table id e
said_new traps.Call s trap changes read question answered new right there x who m =
    call_said s trap changes read question answered new right there x who m
said_new traps.Stop s trap changes read question answered new right there x who m = absurd (m.0 x.nothing_asked)

-- and its creation says it of one that is new, which is Fresh
pub new_said :
    (event : TrapEvent) (s : MonitorState) (trap : Trap) (changes : SetChanges) (read question answered : List ℕ)
    (new : MonitorState) → IsTable s.table
    → call_of (running_registers s trap.hart) ≡ call_of trap.registers → ServesAs event s trap changes read question answered new
    → (id : ℕ) (e : Enclave) → Absent s.table id → Live new.table id e → SaysMade question answered (EnclaveOf id) × (e.state ≡ Fresh)
new_said traps.Call s trap changes read question answered new right there x id e none live =
    call_new s trap changes read question answered new right there x id e none live
new_said traps.Stop s trap changes read question answered new right there x id e none live =
    let now : Live x.mid.table id e = subst (λ (y : MonitorState). Live y.table id e) x.woken live in
    absurd (made_irq (s.worlds trap.hart) s trap.hart x.mid id e none now x.step)
