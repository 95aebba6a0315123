-- An enclave that was made gets another digest: the call and its answer are as they would have been with that one.
use Rattle.std.proofs.Common.{◌≡◌, ◌∙◌, ◌-◌, ◌≤◌, inl, inr, ℕ, pos, Bool, List, length, Option, Some, None, ap, sym, refl, subst, arith}
use Rattle.std.proofs.lemmas.List.{length-set, set-set}
use Rattle.pmp_encoding.specs.declared.pages.PageRange.{PageRange}
use Rattle.pmp_encoding.specs.declared.region.Entry.{Entry}
use Rattle.measurement.specs.Requests.{parts_of}
use Rattle.measurement.specs.declared.request.Create.{Create}
use Rattle.platforms.specs.CheckLists.{AllPass}
use Rattle.sbi_decode.specs.Calls.{call_of}
use Rattle.sbi_decode.specs.declared.calls.Call.{Call}
use Rattle.sbi_decode.specs.declared.calls.Call.TheVariants as calls
use Rattle.sbi_decode.specs.declared.world.World.{World}
use Rattle.sbi_decode.specs.declared.world.World.TheVariants.{Host, Enclave as InEnclave}
use Rattle.enclave_table.specs.Checks.{create_checks}
use Rattle.enclave_table.specs.Create.{Creates, fresh}
use Rattle.enclave_table.specs.Digests.{with_digest}
use Rattle.enclave_table.specs.Enclaves.{EnclaveTable, Live, enclave_at, with_enclave}
use Rattle.enclave_table.specs.Fewest.{IsListOf}
use Rattle.enclave_table.specs.Tables.{IsTable}
use Rattle.enclave_table.specs.Views.{host_view}
use Rattle.enclave_table.specs.declared.enclave.Enclave.{Enclave}
use Rattle.enclave_table.proofs.Places.{set_same}
use Rattle.enclave_table.proofs.Replaced.{same_host_view}
use Rattle.enclave_table.proofs.SameViews.{fits_same}
use Rattle.monitor_core.specs.Answers.{below_zero}
use Rattle.monitor_core.specs.Changes.{answering, having_digest, marking_others, past_call, with_running}
use Rattle.monitor_core.specs.Measured.{IsMade, asked_in}
use Rattle.monitor_core.specs.States.{MonitorState, running_registers, view_of}
use Rattle.monitor_core.specs.declared.set_changes.SetChanges.{SetChanges}
use Rattle.monitor_core.specs.Steps.{DoesCall, Refuses}
use Rattle.monitor_core.specs.declared.answer.Answer.{Answer}
use Rattle.monitor_core.proofs.Digested.{fewest_digested}
use Rattle.trap_server.specs.Answered.{AreLists, IsAnswer, marks_of, new_lists}
use Rattle.trap_server.specs.declared.answer.NewLists.{NewLists}
use Rattle.trap_server.specs.declared.answer.NewLists.TheVariants as lists
use Rattle.trap_server.specs.PageDigest.{HasParts}
use Rattle.trap_server.specs.Service.{AnswersCall, given_at}
use Rattle.trap_server.specs.declared.trap.Trap.{Trap}
use Rattle.trap_server.specs.declared.words.ControlWords.{ControlWords}

-- ---- a creation that was done

-- the enclave that it made is live, under the id that it was answered with
made_live : (old new : EnclaveTable) (id : ℕ) (e : Enclave) → new ≡ with_enclave old id (Some e) → 1 ≤ id → id ≤ 64 → IsTable new → Live new id e
made_live old new id e added above below is =
    let long : length old.enclaves ≡ 64 =
    sym (length-set old.enclaves (id - 1) (Some e)) ∙ sym (ap (λ (t : EnclaveTable). length t.enclaves) added) ∙ is.places in
    ap (λ (t : EnclaveTable). enclave_at t.enclaves id) added ∙ set_same old.enclaves id (Some e) above (omega (arith, long, above, below))

-- with another digest it is the creation with that digest
creates_remeasured :
    (old new : EnclaveTable) (world : World) (asked : Create) (id : ℕ) (first last : List ℕ) → IsTable new
    → Creates (λ parts. first) old world asked id new
    → Creates (λ parts. last) old world asked id (with_digest new id (fresh (λ parts. first) (parts_of asked)) last)
creates_remeasured old new world asked id first last is made =
    let e : Enclave = fresh (λ parts. first) (parts_of asked) in
    let e' : Enclave = fresh (λ parts. last) (parts_of asked) in
    let live = made_live old new id e made.added made.next.free.0 made.next.free.1 is in
    record {
      passes = made.passes;
      next = made.next;
      added = ap (λ (t : EnclaveTable). with_enclave t id (Some e')) made.added
          ∙ ap (λ slots. record old { enclaves = slots }) (set-set old.enclaves (id - 1) (Some e) (Some e'));
      host_fits = fits_same new.layout.limit (host_view new) (host_view (with_digest new id e last)) (same_host_view new id e e' live refl) made.host_fits;
      enclave_fits = made.enclave_fits;
    }

-- what is asked for is no more than 1024 pages, in the space
made_parts : (table : EnclaveTable) (world : World) (parts : Create) → AllPass (create_checks table world parts) → HasParts parts
made_parts table world parts pass = record { few = pass.1.0.few_private; inside = omega (arith, pass.1.1.0.private.1) }

-- ---- a call that made an enclave

-- one that was refused made none
not_made : {P : Type 0} (number : ℕ) (s : MonitorState) (hart : ℕ) (answer : Answer) (cleared : Option PageRange) (new : MonitorState)
    → Refuses number s hart answer cleared new → answer.status ≡ pos 0 → P
not_made number s hart answer cleared new x done = absurd (let z : below_zero number ≡ pos 0 = sym (ap (λ (a : Answer). a.status) x.told) ∙ done in cc)

-- it passed its checks
pub made_passes :
    (call : Option Call) (digests : Create → List ℕ) (s : MonitorState) (hart : ℕ) (answer : Answer) (cleared : Option PageRange) (new : MonitorState)
    (parts : Create) → DoesCall call digests s hart answer cleared new → IsMade (asked_in call) answer parts
    → AllPass (create_checks s.table (s.worlds hart) parts)
made_passes None digests s hart answer cleared new parts x made = absurd made
made_passes (Some (calls.Create base text_pages data_pages shared_base shared_count entry_offset)) digests s hart answer cleared new parts
    (inl x) made = subst (λ p. AllPass (create_checks s.table (s.worlds hart) p)) (sym made.0) x.2.passes
made_passes (Some (calls.Create base text_pages data_pages shared_base shared_count entry_offset)) digests s hart answer cleared new parts
    (inr x) made = not_made _ s hart answer cleared new x.2 made.1
made_passes (Some (calls.Destroy id)) digests s hart answer cleared new parts x made = absurd made
made_passes (Some (calls.Run id)) digests s hart answer cleared new parts x made = absurd made
made_passes (Some calls.Stop) digests s hart answer cleared new parts x made = absurd made
made_passes (Some (calls.Resume id)) digests s hart answer cleared new parts x made = absurd made
made_passes (Some (calls.Exit value)) digests s hart answer cleared new parts x made = absurd made
made_passes (Some (calls.Measure id k)) digests s hart answer cleared new parts x made = absurd made

-- the enclave is live under the value of the answer, and with another digest the call is the one with that digest
abbrev pub Remeasures : Option Call → MonitorState → ℕ → Answer → Option PageRange → MonitorState → Type 0
Remeasures call s hart answer cleared mid = (e : Enclave) × Live mid.table answer.value e
    × ((digest : List ℕ) → DoesCall call (λ parts. digest) s hart answer cleared (having_digest mid answer.value e digest))

pub call_remeasured :
    (call : Option Call) (first : List ℕ) (s : MonitorState) (hart : ℕ) (answer : Answer) (cleared : Option PageRange) (mid : MonitorState) (parts : Create)
    → IsTable mid.table → DoesCall call (λ parts. first) s hart answer cleared mid → IsMade (asked_in call) answer parts
    → Remeasures call s hart answer cleared mid
call_remeasured None first s hart answer cleared mid parts is x made = absurd made
call_remeasured (Some (calls.Create base text_pages data_pages shared_base shared_count entry_offset)) first s hart answer cleared mid parts is (inl x) made =
    let asked : Create = record {
      base = base;
      text_pages = text_pages;
      data_pages = data_pages;
      shared_base = shared_base;
      shared_count = shared_count;
      entry_offset = entry_offset;
    } in
    let call : Option Call = Some (calls.Create base text_pages data_pages shared_base shared_count entry_offset) in
    let id = x.0 in
    let table = x.1 in
    let e : Enclave = fresh (λ parts. first) (parts_of asked) in
    let Has = λ (m : MonitorState) (n : ℕ). (e : Enclave) × Live m.table n e
    × ((digest : List ℕ) → DoesCall call (λ parts. digest) s hart answer cleared (having_digest m n e digest)) in
    let sound : IsTable table = subst (λ (m : MonitorState). IsTable m.table) x.3.state is in
    let there : Has (marking_others (answering (record s { table = table }) hart 0 id) hart) id = (
      e,
      made_live s.table table id e x.2.added x.2.next.free.0 x.2.next.free.1 sound,
      λ digest. inl (
        id,
        with_digest table id e digest,
        creates_remeasured s.table table (s.worlds hart) asked id first digest sound x.2,
        record { state = refl; told = x.3.told; zeroes = x.3.zeroes },
      ),
    ) in
    subst (λ n. Has mid n) (sym (ap (λ (a : Answer). a.value) x.3.told)) (subst (λ m. Has m id) (sym x.3.state) there)
call_remeasured (Some (calls.Create base text_pages data_pages shared_base shared_count entry_offset)) first s hart answer cleared mid parts is
    (inr x) made = not_made _ s hart answer cleared mid x.2 made.1
call_remeasured (Some (calls.Destroy id)) first s hart answer cleared mid parts is x made = absurd made
call_remeasured (Some (calls.Run id)) first s hart answer cleared mid parts is x made = absurd made
call_remeasured (Some calls.Stop) first s hart answer cleared mid parts is x made = absurd made
call_remeasured (Some (calls.Resume id)) first s hart answer cleared mid parts is x made = absurd made
call_remeasured (Some (calls.Exit value)) first s hart answer cleared mid parts is x made = absurd made
call_remeasured (Some (calls.Measure id k)) first s hart answer cleared mid parts is x made = absurd made

-- ---- its answer

-- an answer says nothing of digests
list_digested : (s : MonitorState) (id : ℕ) (e : Enclave) (digest : List ℕ) (world : World) (entries : List Entry) → Live s.table id e
    → IsListOf s.table.layout.limit (view_of s.table world) entries
    → IsListOf s.table.layout.limit (view_of (having_digest s id e digest).table world) entries
list_digested s id e digest world entries live is = record { fewest = fewest_digested s id e digest world entries live is.fewest; room = is.room }

lists_digested : (new : NewLists) (s : MonitorState) (id made : ℕ) (e : Enclave) (digest : List ℕ) (are : List (List Entry)) → Live s.table id e
    → AreLists s.table made new are → AreLists (having_digest s id e digest).table made new are
lists_digested lists.Nothing s id made e digest are live is = is
lists_digested lists.Host s id made e digest are live is = (is.0, list_digested s id e digest Host is.0 live is.1, is.2)
lists_digested lists.HostAndMade s id made e digest are live is = (
  is.0,
  is.1,
  list_digested s id e digest Host is.0 live is.2,
  list_digested s id e digest (InEnclave made) is.1 live is.3,
  is.4,
)

answer_same :
    (s : MonitorState) (id : ℕ) (e : Enclave) (digest : List ℕ) (given : Option ControlWords) (hart : ℕ) (answer : Answer) (cleared : Option PageRange)
    (woken : List Bool) (new : NewLists) (changes : SetChanges) (bytes : List ℕ) → Live s.table id e
    → IsAnswer s given hart answer cleared woken new changes bytes → IsAnswer (having_digest s id e digest) given hart answer cleared woken new changes bytes
answer_same s id e digest given hart answer cleared woken new changes bytes live is = record {
  used = is.used;
  needs = record {
    entries = is.needs.entries;
    fewest = fewest_digested s id e digest (s.worlds hart) is.needs.entries live is.needs.fewest;
    count = is.needs.count;
  };
  front = is.front;
  puts = record {
    are = is.puts.are;
    lists = lists_digested new s id answer.value e digest is.puts.are live is.puts.lists;
    put = is.puts.put;
  };
  ends = is.ends;
}

pub answer_remeasured :
    (s : MonitorState) (trap : Trap) (changes : SetChanges) (first : List ℕ) (answer : Answer) (answered : List ℕ) (now : MonitorState)
    (parts : Create) → call_of (running_registers s trap.hart) ≡ call_of trap.registers
    → IsTable now.table → AnswersCall s trap changes first answer answered now → IsMade (asked_in (call_of trap.registers)) answer parts
    → (e : Enclave) × Live now.table answer.value e × HasParts parts
    × ((digest : List ℕ) → AnswersCall s trap changes digest answer answered (having_digest now answer.value e digest))
answer_remeasured s trap changes first answer answered now parts there is x asked =
    let hart = trap.hart in
    let file = past_call (running_registers s hart) in
    let before = with_running s hart file in
    let made = subst (λ c. IsMade (asked_in c) answer parts) (sym there) asked in
    let sound : IsTable x.mid.table = subst (λ (m : MonitorState). IsTable m.table) x.woken is in
    let r = call_remeasured (call_of file) first before hart answer x.cleared x.mid parts sound x.step made in
    let live : Live now.table answer.value r.0 = subst (λ (m : MonitorState). Live m.table answer.value r.0) (sym x.woken) r.1 in (
      r.0,
      live,
      made_parts s.table (s.worlds hart) parts (made_passes (call_of file) (λ parts. first) before hart answer x.cleared x.mid parts x.step made),
      λ digest. record {
        cleared = x.cleared;
        mid = having_digest x.mid answer.value r.0 digest;
        step = r.2 digest;
        woken = ap (λ (m : MonitorState). having_digest m answer.value r.0 digest) x.woken;
        goes_on = answer_same now answer.value r.0 digest (given_at s now trap) hart answer x.cleared (marks_of x.mid)
            (new_lists (asked_in (call_of trap.registers)) answer x.cleared) changes answered live x.goes_on;
      },
    )
