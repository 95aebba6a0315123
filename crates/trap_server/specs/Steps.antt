-- The effect of each part of the loop, on success and on failure.
use Rattle.std.specs.Prelude.{◌≡◌, ◌⊎◌, ℕ, ◌+◌, ◌/◌, List, [], ◌++◌, Option}
use Rattle.std.specs.Prelude.{Result, Ok, Err}
use Rattle.std.specs.Io.KnownBytes.{Appends, Consumes}
use Rattle.text_lines.specs.Writings.{TakesPart}
use Rattle.enclave_table.specs.Enclaves.{Live}
use Rattle.enclave_table.specs.Tables.{IsTable}
use Rattle.enclave_table.specs.declared.enclave.Enclave.{Enclave}
use Rattle.measurement.specs.Digests.{layout_of}
use Rattle.measurement.specs.Measured.{digest_of}
use Rattle.measurement.specs.declared.request.Create.{Create}
use Rattle.sbi_decode.specs.Calls.{call_of}
use Rattle.monitor_core.specs.Changes.{having_digest}
use Rattle.monitor_core.specs.Measured.{IsMade, asked_in}
use Rattle.monitor_core.specs.States.{MonitorState}
use Rattle.monitor_core.specs.declared.answer.Answer.{Answer}
use Rattle.trap_server.specs.Answered.{AreAwake, no_answer}
use Rattle.trap_server.specs.EndFrames.{end_bytes}
use Rattle.trap_server.specs.Ends.{BreaksOff, IsPart}
use Rattle.trap_server.specs.Given.{said_words}
use Rattle.trap_server.specs.PageDigest.{ArePages, BreaksAtPage, StopsAtPage, question_of}
use Rattle.trap_server.specs.Service.{AnswersCall, ServesAll, ServesStop, given_at}
use Rattle.trap_server.specs.Sets.{AreThere, said_changes, with_sets}
use Rattle.sbi_decode.specs.Registers.{RegisterFile}
use Rattle.sbi_decode.specs.Runners.{Runner}
use Rattle.monitor_core.specs.SetChanges.{changed}
use Rattle.monitor_core.specs.declared.set_changes.SetChanges.{SetChanges}
use Rattle.trap_server.specs.declared.end.EndReason.TheVariants.{NotUnderstood}
use Rattle.trap_server.specs.declared.fault.ServeFault.{ServeFault}
use Rattle.trap_server.specs.declared.fault.ServeFault.TheVariants as faults
use Rattle.trap_server.specs.declared.trap.Trap.{Trap}
use Rattle.trap_server.specs.declared.trap.TrapEvent.{TrapEvent}
use Rattle.trap_server.specs.declared.trap.TrapEvent.TheVariants.{Call, Stop}
use Rattle.trap_server.specs.declared.words.ControlWords.{ControlWords}

-- bytes of a kind were written, or a part of them if the sink failed
abbrev pub Writes : Result (Unit {0}) ServeFault → (List ℕ → Type 0) → Option (List ℕ)
    → Option (List ℕ) → Type 0
Writes (Ok done) Are held holds = (bytes : List ℕ) × Are bytes × Appends held holds bytes
Writes (Err fault) Are held holds = (fault ≡ faults.Write) × (bytes : List ℕ) × Are bytes
    × TakesPart bytes held holds

-- a trap is answered according to its event, whatever digest a new enclave will get
abbrev pub AnswersAs : TrapEvent → MonitorState → Trap → SetChanges → Answer → List ℕ
    → MonitorState → Type 0
AnswersAs Call s trap changes answer answered new = (digest : List ℕ)
    × AnswersCall s trap changes digest answer answered new
AnswersAs Stop s trap changes answer answered new = (answer ≡ no_answer)
    × ServesStop s trap changes [] [] answered new

-- a trap is answered
pub record AnswersTrap (s : MonitorState) (trap : Trap) (answer : Answer) (answered : List ℕ) :
    Type 0 where
  pub changes : SetChanges
  pub new : MonitorState
  pub answers : (sets : Runner → RegisterFile) → AreThere s trap sets
      → AnswersAs trap.event (with_sets s sets) trap changes answer answered
      (with_sets new (changed trap.hart changes sets))

-- a call that created an enclave of these parts is answered, so that its private pages are
-- requested
abbrev pub AnswersMade : MonitorState → Trap → Create → List ℕ → Type 0
AnswersMade s trap parts answered = (trap.event ≡ Call) × (answer : Answer)
    × IsMade (asked_in (call_of trap.registers)) answer parts × AnswersTrap s trap answer answered

-- the reason why the loop ends after it created an enclave of these parts and answered the call,
-- with its input and output since: its pages were requested, and then a frame was not that of the
-- next page, or a read failed within it; or a write failed, in the request or in the last frame
abbrev pub StopsMeasuring : ServeFault → Create → List ℕ → List ℕ → Option (List ℕ) → Type 0
StopsMeasuring (faults.Refused NotUnderstood) parts read rest after = StopsAtPage parts read after
    × (rest ≡ question_of parts ++ end_bytes NotUnderstood)
StopsMeasuring (faults.Refused _) parts read rest after = ⊥
StopsMeasuring faults.Read parts read rest after = BreaksAtPage parts read
    × (rest ≡ question_of parts)
StopsMeasuring faults.Write parts read rest after =
    ((read ≡ []) × IsPart rest (question_of parts))
    ⊎ (StopsAtPage parts read after
    × BreaksOff rest (question_of parts) (end_bytes NotUnderstood))

-- the reason why the loop ends at a trap that was read, with its input and output for that trap: a
-- write failed in the answer; or the trap was answered, and the loop ends while it measures the new
-- enclave
abbrev pub StopsTrap : ServeFault → MonitorState → Trap → List ℕ → List ℕ → Option (List ℕ)
    → Type 0
StopsTrap fault s trap read rest after =
    ((answer : Answer) × (answered : List ℕ) × AnswersTrap s trap answer answered
    × (fault ≡ faults.Write) × (read ≡ []) × IsPart rest answered)
    ⊎ ((parts : Create) × (answered more : List ℕ) × AnswersMade s trap parts answered
    × StopsMeasuring fault parts read more after × (rest ≡ answered ++ more))

-- the bytes of an answer contain the changes of register sets and the given control words
abbrev pub Says : List ℕ → SetChanges → Option ControlWords → Type 0
Says answered changes given = (said_changes answered ≡ changes) × (said_words answered ≡ given)

-- a trap was served and answered, or the loop ends for a reason
abbrev pub Serves : Result (Unit {0}) ServeFault → Trap → MonitorState → MonitorState
    → Option (List ℕ) → Option (List ℕ) → Option (List ℕ) → Option (List ℕ) → Type 0
Serves (Ok done) trap old new before after held holds =
    (read question answered : List ℕ) × (changes : SetChanges)
    × ServesAll old trap changes read question answered new
    × Says answered changes (given_at old new trap) × AreAwake new
    × (new.table.layout ≡ old.table.layout) × Consumes before after read
    × Appends held holds (answered ++ question)
Serves (Err fault) trap old new before after held holds =
    (read rest : List ℕ) × StopsTrap fault old trap read rest after
    × Consumes before after read × Appends held holds rest

-- a call was answered, and the monitor is now in a state in which a new enclave has some digest
pub record CallAnswered (old now : MonitorState) (trap : Trap) (answer : Answer)
    (answered : List ℕ) : Type 0 where
  pub changes : SetChanges
  pub digest : List ℕ
  pub is_call : trap.event ≡ Call
  pub answers : (sets : Runner → RegisterFile) → AreThere old trap sets
      → AnswersCall (with_sets old sets) trap changes digest answer answered
      (with_sets now (changed trap.hart changes sets))
  pub said : Says answered changes (given_at old now trap)
  pub table : IsTable now.table
  pub awake : AreAwake now
  pub layout : now.table.layout ≡ old.table.layout

-- a call was answered and the answer written; or the loop ends
abbrev pub AnswersFirst : Result Answer ServeFault → Trap → MonitorState → MonitorState
    → Option (List ℕ) → Option (List ℕ) → Type 0
AnswersFirst (Ok answer) trap old now held holds = (answered : List ℕ)
    × CallAnswered old now trap answer answered × Appends held holds answered
AnswersFirst (Err fault) trap old now held holds = (before : Option (List ℕ))
    → Serves (Err fault) trap old now before before held holds

-- the pages of a new enclave were requested and read, and it has their digest; or the loop ends
abbrev pub MeasuresMade : Result (Unit {0}) ServeFault → Create → ℕ → MonitorState → MonitorState
    → Option (List ℕ) → Option (List ℕ) → Option (List ℕ) → Option (List ℕ) → Type 0
MeasuresMade (Ok done) parts id old new before after held holds =
    (read : List ℕ) × (pages : List (List ℕ))
    × ArePages (parts.base / 4096) (parts.text_pages + parts.data_pages) read pages
    × ((e : Enclave) → Live old.table id e
    → new ≡ having_digest old id e (digest_of (layout_of parts) pages))
    × Consumes before after read × Appends held holds (question_of parts)
MeasuresMade (Err fault) parts id old new before after held holds =
    (read rest : List ℕ) × StopsMeasuring fault parts read rest after × Consumes before after read
    × Appends held holds rest
