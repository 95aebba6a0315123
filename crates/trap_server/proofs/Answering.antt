-- A trap that was answered, and what comes after the answer.
use Rattle.std.proofs.Common.{◌≡◌, ◌∙◌, ◌≤◌, inl, inr, ℕ, List, [], ◌++◌, take, Bool, Option, Result, Ok, Err, ap, sym, subst, refl, append-nil}
use Rattle.std.proofs.Common.{None, Some, IfSome, false, is_some}
use Rattle.std.specs.Io.KnownBytes.{Appends}
use Rattle.std.proofs.lemmas.Bool.{true≢false}
use Rattle.std.proofs.KnownBytes.{Appends-trans, Consumes-nil}
use Rattle.pmp_encoding.specs.declared.pages.PageRange.{PageRange}
use Rattle.measurement.specs.Digests.{layout_of}
use Rattle.measurement.specs.Measured.{digest_of}
use Rattle.measurement.specs.declared.request.Create.{Create}
use Rattle.sbi_decode.specs.Calls.{call_of}
use Rattle.enclave_table.specs.Enclaves.{Live}
use Rattle.enclave_table.specs.Tables.{IsTable}
use Rattle.enclave_table.specs.declared.enclave.Enclave.{Enclave}
use Rattle.monitor_core.specs.Changes.{having_digest, past_call, with_running}
use Rattle.monitor_core.specs.Measured.{IsMade, asked_in}
use Rattle.monitor_core.specs.States.{MonitorState, running_registers}
use Rattle.monitor_core.specs.Steps.{DoesCall}
use Rattle.monitor_core.specs.declared.answer.Answer.{Answer}
use Rattle.std.proofs.lemmas.Option.{same_Some}
use Rattle.sbi_decode.specs.Registers.{RegisterFile}
use Rattle.sbi_decode.specs.Runners.{Runner}
use Rattle.monitor_core.specs.SetChanges.{changed}
use Rattle.monitor_core.specs.declared.set_changes.SetChanges.{SetChanges}
use Rattle.trap_server.specs.Sets.{AreThere, with_sets}
use Rattle.trap_server.proofs.Said.{says_changes, says_words}
use Rattle.trap_server.proofs.Bare.{answer_with}
use Rattle.trap_server.specs.Answered.{AreAwake, AreControl, AreWords, IsAnswer, marks_of, new_lists, no_answer, unmarked}
use Rattle.trap_server.specs.PageDigest.{HasParts, question_of}
use Rattle.trap_server.specs.Service.{AnswersCall, ServesAs, ServesStop, given_at}
use Rattle.trap_server.specs.Steps.{AnswersAs, AnswersTrap, CallAnswered, MeasuresMade, Says, Serves, Writes}
use Rattle.trap_server.specs.declared.fault.ServeFault.{ServeFault}
use Rattle.trap_server.specs.declared.trap.Trap.{Trap}
use Rattle.trap_server.specs.declared.trap.TrapEvent.{TrapEvent}
use Rattle.trap_server.specs.declared.trap.TrapEvent.TheVariants.{Call, Stop}
use Rattle.trap_server.specs.declared.words.ControlWords.{ControlWords}
use Rattle.trap_server.specs.declared.answer.NewLists.{NewLists}
use Rattle.trap_server.proofs.Remeasured.{answer_remeasured}
use Rattle.trap_server.proofs.Served.{quiet}

-- the answer was not written whole
unanswered :
    (fault : ServeFault) (Are : List ℕ → Type 0) (trap : Trap) (answer : Answer) (old new : MonitorState)
    (before held holds : Option (List ℕ)) → ((bytes : List ℕ) → Are bytes → AnswersTrap old trap answer bytes)
    → Writes (Err fault) Are held holds → Serves (Err fault) trap old new before before held holds
unanswered fault Are trap answer old new before held holds answers wrote =
    let part = take wrote.3.0 wrote.1 in (
      [],
      part,
      inl (answer, wrote.1, answers wrote.1 wrote.2, wrote.0, refl, (wrote.3.0, wrote.3.1, refl)),
      Consumes-nil before,
      wrote.3.2,
    )

-- ---- an interrupt

pub stop_served :
    (result : Result (Unit {0}) ServeFault) (Are : List ℕ → Type 0) (trap : Trap) (old new : MonitorState)
    (changes : SetChanges) (before held holds : Option (List ℕ)) → trap.event ≡ Stop
    → ((bytes : List ℕ) → Are bytes → (sets : Runner → RegisterFile)
    → ServesStop (with_sets old sets) trap changes [] [] bytes (with_sets new (changed trap.hart changes sets)))
    → ((bytes : List ℕ) → Are bytes → Says bytes changes (given_at old new trap)) → AreAwake new → new.table.layout ≡ old.table.layout
    → Writes result Are held holds → Serves result trap old new before before held holds
stop_served (Ok done) Are trap old new changes before held holds is served said awake layout wrote =
    let bytes = wrote.0 in (
      [],
      [],
      bytes,
      changes,
      λ sets there. subst (λ (e : TrapEvent). ServesAs e (with_sets old sets) trap changes [] [] bytes (with_sets new (changed trap.hart changes sets)))
          (sym is) (served bytes wrote.1 sets),
      said bytes wrote.1,
      awake,
      layout,
      Consumes-nil before,
      subst (Appends held holds) (sym (append-nil bytes)) wrote.2,
    )
stop_served (Err fault) Are trap old new changes before held holds is served said awake layout wrote =
    unanswered fault Are trap no_answer old new before held holds
    (λ bytes are. record {
      changes = changes;
      new = new;
      answers = λ sets there. subst (λ (e : TrapEvent). AnswersAs e (with_sets old sets) trap changes no_answer bytes
          (with_sets new (changed trap.hart changes sets))) (sym is) (refl, served bytes are sets);
    }) wrote

-- ---- a call

-- the call was served, and each hart woken that was marked
pub call_answered :
    (s mid now : MonitorState) (trap : Trap) (changes : SetChanges) (digest : List ℕ) (answer : Answer)
    (cleared : Option PageRange) (woken : List Bool) (new : NewLists) (given : Option ControlWords) (harts : ℕ) (bytes : List ℕ) → trap.event ≡ Call
    → ((sets : Runner → RegisterFile) → let old = with_sets s sets in let file = past_call (running_registers old trap.hart) in
    AreThere s trap sets → DoesCall (call_of file) (λ parts. digest) (with_running old trap.hart file) trap.hart answer cleared
    (with_sets mid (changed trap.hart changes sets)))
    → mid.table.layout ≡ s.table.layout → IsTable mid.table → harts ≡ s.table.layout.harts → harts ≤ 4 → now ≡ unmarked 4 mid → woken ≡ marks_of mid
    → new ≡ new_lists (asked_in (call_of trap.registers)) answer cleared → AreWords changes → given ≡ given_at s now trap → IfSome given AreControl
    → IsAnswer now given trap.hart answer cleared woken new changes bytes → CallAnswered s now trap answer bytes
call_answered s mid now trap changes digest answer cleared woken new given harts bytes is step layout sound number most n w l fit gives control says =
    let few : mid.table.layout.harts ≤ 4 = subst (λ l. l.harts ≤ 4) (sym layout) (subst (λ k. k ≤ 4) number most) in
    let lists = new_lists (asked_in (call_of trap.registers)) answer cleared in
    let known = subst (λ (g : Option ControlWords). IsAnswer now g trap.hart answer cleared (marks_of mid) lists changes bytes) gives
    (subst (λ (ls : NewLists). IsAnswer now given trap.hart answer cleared (marks_of mid) ls changes bytes) l
    (subst (λ (ws : List Bool). IsAnswer now given trap.hart answer cleared ws new changes bytes) w says)) in
    record {
      changes = changes;
      digest = digest;
      is_call = is;
      answers = λ sets there. record {
        cleared = cleared;
        mid = with_sets mid (changed trap.hart changes sets);
        step = step sets there;
        woken = ap (λ (m : MonitorState). with_sets m (changed trap.hart changes sets)) n;
        goes_on = answer_with now (changed trap.hart changes sets) (given_at s now trap) trap.hart answer cleared (marks_of mid) lists changes bytes known;
      };
      said = (
        says_changes now given trap.hart answer cleared woken new changes bytes says fit,
        says_words now given trap.hart answer cleared woken new changes bytes control says ∙ gives,
      );
      table = subst (λ (x : MonitorState). IsTable x.table) (sym n) sound;
      awake = quiet mid now n few;
      layout = ap (λ (x : MonitorState). x.table.layout) n ∙ layout;
    }

as_trap :
    (old now : MonitorState) (trap : Trap) (answer : Answer) (answered : List ℕ)
    → CallAnswered old now trap answer answered → AnswersTrap old trap answer answered
as_trap old now trap answer answered a = record {
  changes = a.changes;
  new = now;
  answers = λ sets there. subst (λ (e : TrapEvent). AnswersAs e (with_sets old sets) trap a.changes answer answered
      (with_sets now (changed trap.hart a.changes sets))) (sym a.is_call) (a.digest, a.answers sets there);
}

-- its answer was not written whole
pub call_unanswered :
    (fault : ServeFault) (Are : List ℕ → Type 0) (trap : Trap) (answer : Answer) (old now : MonitorState)
    (before held holds : Option (List ℕ)) → ((bytes : List ℕ) → Are bytes → CallAnswered old now trap answer bytes)
    → Writes (Err fault) Are held holds → Serves (Err fault) trap old now before before held holds
call_unanswered fault Are trap answer old now before held holds answers wrote =
    unanswered fault Are trap answer old now before held holds (λ bytes are. as_trap old now trap answer bytes (answers bytes are)) wrote

-- who asks for no creation has made none
pub none_asked : (asked : Option Create) (answer : Answer) → is_some asked ≡ false → (parts : Create) → IsMade asked answer parts → ⊥
none_asked None answer is parts made = made
none_asked (Some asked) answer is parts made = true≢false is

-- it made no enclave
pub nothing_made :
    (old now : MonitorState) (trap : Trap) (answer : Answer) (bytes : List ℕ) (before held holds : Option (List ℕ))
    → CallAnswered old now trap answer bytes → ((parts : Create) → IsMade (asked_in (call_of trap.registers)) answer parts → ⊥)
    → Appends held holds bytes → Serves (Ok tt) trap old now before before held holds
nothing_made old now trap answer bytes before held holds a none wrote = (
  [],
  [],
  bytes,
  a.changes,
  λ sets there. subst (λ (e : TrapEvent). ServesAs e (with_sets old sets) trap a.changes [] [] bytes (with_sets now (changed trap.hart a.changes sets)))
      (sym a.is_call) (record { digest = a.digest; answer = answer; answers = a.answers sets there; asks = inl (refl, refl, none) }),
  a.said,
  a.awake,
  a.layout,
  Consumes-nil before,
  subst (Appends held holds) (sym (append-nil bytes)) wrote,
)

-- it made one, as with the sets that have the registers of the trap
made_there :
    (old now : MonitorState) (trap : Trap) (answer : Answer) (bytes : List ℕ) (parts : Create)
    → CallAnswered old now trap answer bytes → IsMade (asked_in (call_of trap.registers)) answer parts
    → (e : Enclave) × Live now.table answer.value e × HasParts parts
made_there old now trap answer bytes parts a made =
    let sets : Runner → RegisterFile = λ who. trap.registers in
    let r = answer_remeasured (with_sets old sets) trap a.changes a.digest answer bytes (with_sets now (changed trap.hart a.changes sets)) parts refl
    a.table (a.answers sets refl) made in (r.0, r.1, r.2)

-- which is live, and whose pages can be asked for
pub made_to_measure :
    (old now : MonitorState) (trap : Trap) (answer : Answer) (bytes : List ℕ) (parts : Create)
    → CallAnswered old now trap answer bytes → IsMade (asked_in (call_of trap.registers)) answer parts
    → ((e : Enclave) × Live now.table answer.value e) × HasParts parts
made_to_measure old now trap answer bytes parts a made =
    let r = made_there old now trap answer bytes parts a made in ((r.0, r.1), r.2)

-- and which was measured, or the loop ends
pub made_measured :
    (result : Result (Unit {0}) ServeFault) (old now new : MonitorState) (trap : Trap) (answer : Answer) (bytes : List ℕ)
    (parts : Create) (before after held middle holds : Option (List ℕ)) → CallAnswered old now trap answer bytes
    → IsMade (asked_in (call_of trap.registers)) answer parts → Appends held middle bytes
    → MeasuresMade result parts answer.value now new before after middle holds → Serves result trap old new before after held holds
made_measured (Ok done) old now new trap answer bytes parts before after held middle holds a made wrote m =
    let made_one = made_there old now trap answer bytes parts a made in
    let e = made_one.0 in
    let live = made_one.1 in
    let digest = digest_of (layout_of parts) m.1 in
    let question = question_of parts in
    let served : Serves (Ok tt) trap old (having_digest now answer.value e digest) before after held holds = (
      m.0,
      question,
      bytes,
      a.changes,
      λ sets there.
          let after = changed trap.hart a.changes sets in
          let all = answer_remeasured (with_sets old sets) trap a.changes a.digest answer bytes (with_sets now after) parts there a.table
          (a.answers sets there) made in
          subst (λ (event : TrapEvent). ServesAs event (with_sets old sets) trap a.changes m.0 question bytes
          (with_sets (having_digest now answer.value e digest) after)) (sym a.is_call) (record {
            digest = digest;
            answer = answer;
            answers = subst (λ (f : Enclave). AnswersCall (with_sets old sets) trap a.changes digest answer bytes
                (having_digest (with_sets now after) answer.value f digest)) (same_Some all.0 e (sym all.1 ∙ live)) (all.3 digest);
            asks = inr (parts, made, refl, m.1, m.2, refl);
          }),
      a.said,
      a.awake,
      a.layout,
      m.4,
      Appends-trans held middle holds bytes question wrote m.5,
    ) in
    subst (λ n. Serves (Ok tt) trap old n before after held holds) (sym (m.3 e live)) served
made_measured (Err fault) old now new trap answer bytes parts before after held middle holds a made wrote m = (
  m.0,
  bytes ++ m.1,
  inr (parts, bytes, m.1, (a.is_call, answer, made, as_trap old now trap answer bytes a), m.2, refl),
  m.3,
  Appends-trans held middle holds bytes m.1 wrote m.4,
)
