-- The service of a trap.
use Rattle.std.specs.Prelude.{◌≡◌, ◌⊎◌, ℕ, ◌+◌, ◌/◌, List, [], Option, None}
use Rattle.pmp_encoding.specs.declared.pages.PageRange.{PageRange}
use Rattle.measurement.specs.Digests.{layout_of}
use Rattle.measurement.specs.Measured.{digest_of}
use Rattle.measurement.specs.declared.request.Create.{Create}
use Rattle.sbi_decode.specs.Calls.{call_of}
use Rattle.monitor_core.specs.declared.answer.Answer.{Answer}
use Rattle.sbi_decode.specs.Registers.{RegisterFile}
use Rattle.sbi_decode.specs.Runners.{Runner}
use Rattle.monitor_core.specs.States.{MonitorState, running_registers}
use Rattle.monitor_core.specs.SetChanges.{changed}
use Rattle.monitor_core.specs.declared.set_changes.SetChanges.{SetChanges}
use Rattle.trap_server.specs.Sets.{AreThere, with_sets}
use Rattle.trap_server.specs.Traps.{IsTrapFrame}
use Rattle.monitor_core.specs.Changes.{past_call, with_running}
use Rattle.monitor_core.specs.Measured.{IsMade, asked_in}
use Rattle.monitor_core.specs.Steps.{DoesCall, Interrupts}
use Rattle.trap_server.specs.declared.words.ControlWords.{ControlWords}
use Rattle.trap_server.specs.Given.{words_given}
use Rattle.trap_server.specs.declared.trap.TrapEvent.{TrapEvent}
use Rattle.trap_server.specs.declared.trap.TrapEvent.TheVariants.{Call, Stop}
use Rattle.trap_server.specs.declared.trap.Trap.{Trap}
use Rattle.trap_server.specs.PageDigest.{ArePages, question_of}
use Rattle.trap_server.specs.declared.answer.NewLists.TheVariants as renewed
use Rattle.trap_server.specs.Answered.{IsAnswer, marks_of, new_lists, no_answer, unmarked}

-- the control words given at a trap, by the states before and after it
abbrev pub given_at : MonitorState → MonitorState → Trap → Option ControlWords
given_at s new trap = words_given (s.worlds trap.hart) (new.worlds trap.hart) trap.host

-- a call of the world on a hart is a step of the monitor, in which a creation gets this digest;
-- then each marked hart is woken, and the answer is written
pub record AnswersCall (s : MonitorState) (trap : Trap) (changes : SetChanges) (digest : List ℕ)
    (answer : Answer) (answered : List ℕ) (new : MonitorState) : Type 0 where
  pub cleared : Option PageRange
  pub mid : MonitorState
  pub step : let file = past_call (running_registers s trap.hart) in
      DoesCall (call_of file) (λ parts. digest) (with_running s trap.hart file) trap.hart answer
      cleared mid
  pub woken : new ≡ unmarked 4 mid
  pub goes_on : IsAnswer new (given_at s new trap) trap.hart answer cleared (marks_of mid)
      (new_lists (asked_in (call_of trap.registers)) answer cleared) changes answered

-- after an enclave was created, its private pages are requested and read once, by rising number,
-- and the digest is that of its layout and these pages; otherwise nothing is requested or read
abbrev pub AsksFor : Option Create → Answer → List ℕ → List ℕ → List ℕ → Type 0
AsksFor asked answer question read digest =
    ((question ≡ []) × (read ≡ []) × ((parts : Create) → IsMade asked answer parts → ⊥))
    ⊎ ((parts : Create) × IsMade asked answer parts
    × (question ≡ question_of parts) × (pages : List (List ℕ))
    × ArePages (parts.base / 4096) (parts.text_pages + parts.data_pages) read pages
    × (digest ≡ digest_of (layout_of parts) pages))

-- a call is answered, and then a new enclave gets the digest of the pages that were read
pub record ServesCall (s : MonitorState) (trap : Trap) (changes : SetChanges)
    (read question answered : List ℕ) (new : MonitorState) : Type 0 where
  pub digest : List ℕ
  pub answer : Answer
  pub answers : AnswersCall s trap changes digest answer answered new
  pub asks : AsksFor (asked_in (call_of trap.registers)) answer question read digest

-- an interrupt is a step of the monitor
pub record ServesStop (s : MonitorState) (trap : Trap) (changes : SetChanges)
    (read question answered : List ℕ) (new : MonitorState) : Type 0 where
  pub mid : MonitorState
  pub nothing_asked : question ≡ []
  pub nothing_read : read ≡ []
  pub step : Interrupts (s.worlds trap.hart) s trap.hart mid
  pub woken : new ≡ unmarked 4 mid
  pub goes_on : IsAnswer new (given_at s new trap) trap.hart no_answer None (marks_of mid)
      renewed.Nothing changes answered

-- a trap is served according to its event
abbrev pub ServesAs : TrapEvent → MonitorState → Trap → SetChanges → List ℕ → List ℕ → List ℕ
    → MonitorState → Type 0
ServesAs Call s trap changes read question answered new =
    ServesCall s trap changes read question answered new
ServesAs Stop s trap changes read question answered new =
    ServesStop s trap changes read question answered new

-- a trap is served so for all register sets that contain its call, and the answer describes the
-- changes of the sets
abbrev pub ServesAll : MonitorState → Trap → SetChanges → List ℕ → List ℕ → List ℕ → MonitorState
    → Type 0
ServesAll s trap changes read question answered new =
    (sets : Runner → RegisterFile) → AreThere s trap sets
    → ServesAs trap.event (with_sets s sets) trap changes read question answered
    (with_sets new (changed trap.hart changes sets))

-- two traps with the same frame differ only in registers that the frame does not contain, and are
-- served alike
abbrev pub FramesTell : Type 0
FramesTell =
    (frame : List ℕ) (harts : ℕ) (one other : Trap) → IsTrapFrame frame harts one
    → IsTrapFrame frame harts other → (s : MonitorState) (changes : SetChanges)
    (read question answered : List ℕ) (new : MonitorState)
    → ServesAll s one changes read question answered new
    → ServesAll s other changes read question answered new
