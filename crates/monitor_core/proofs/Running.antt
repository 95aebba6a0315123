-- Registers that are put on a hart: put twice, the last stay. And a call of those that were put.
use Rattle.std.proofs.Common.{◌≡◌, ℕ, Bool, true, false, List, Option, if◌then◌else◌, refl, subst}
use Rattle.pmp_encoding.specs.declared.pages.PageRange.{PageRange}
use Rattle.measurement.specs.declared.request.Create.{Create}
use Rattle.sbi_decode.specs.Calls.{call_of}
use Rattle.sbi_decode.specs.Registers.{RegisterFile}
use Rattle.sbi_decode.specs.Runners.{runner_of}
use Rattle.monitor_core.specs.declared.answer.Answer.{Answer}
use Rattle.monitor_core.specs.Changes.{is_same, past_call, with_running}
use Rattle.monitor_core.specs.Frames.{KeepsOthers, LoadsAnew}
use Rattle.monitor_core.specs.States.{MonitorState, running_registers}
use Rattle.monitor_core.specs.Steps.{DoesCall}
use Rattle.monitor_core.proofs.Equal.{equal}
use Rattle.monitor_core.proofs.Put.{put_there}

last_choice : (b : Bool) (first last rest : RegisterFile) → (if b then last else if b then first else rest) ≡ (if b then last else rest)
last_choice true first last rest = refl
last_choice false first last rest = refl

pub running_over : (s : MonitorState) (hart : ℕ) (first last : RegisterFile) → with_running (with_running s hart first) hart last ≡ with_running s hart last
running_over s hart first last = equal (record {
  table = refl;
  worlds = λ h. refl;
  registers = λ who. last_choice (is_same who (runner_of hart (s.worlds hart))) first last (s.registers who);
  marked = λ h. refl;
})

-- the call of registers that were put there before
pub call_there : (s mid new : MonitorState) (hart : ℕ) (file : RegisterFile) (digests : Create → List ℕ) (answer : Answer) (zero : Option PageRange)
    → mid ≡ with_running s hart file
    → (let there = past_call (running_registers mid hart) in DoesCall (call_of there) digests (with_running mid hart there) hart answer zero new)
    → DoesCall (call_of (past_call file)) digests (with_running s hart (past_call file)) hart answer zero new
call_there s mid new hart file digests answer zero put step =
    subst (λ m. DoesCall (call_of (past_call file)) digests m hart answer zero new) (running_over s hart file (past_call file))
    (subst (λ f. DoesCall (call_of (past_call f)) digests (with_running (with_running s hart file) hart (past_call f)) hart answer zero new)
    (put_there s hart file)
    (subst (λ m. DoesCall (call_of (past_call (running_registers m hart))) digests
    (with_running m hart (past_call (running_registers m hart))) hart answer zero new) put step))

-- what was so after they were put is so as it was before
pub others_put : (s mid new : MonitorState) (hart : ℕ) (file : RegisterFile) → mid ≡ with_running s hart file → KeepsOthers mid new hart
    → KeepsOthers s new hart
others_put s mid new hart file put kept =
    let k = subst (λ m. KeepsOthers m new hart) put kept in
    record { worlds = k.worlds; awake = k.awake; views = k.views }

anew_put : (load : Bool) (s new : MonitorState) (hart : ℕ) (file : RegisterFile) → LoadsAnew load (with_running s hart file) new hart
    → LoadsAnew load s new hart
anew_put true s new hart file anew = anew
anew_put false s new hart file anew = anew

pub loads_put : (load : Bool) (s mid new : MonitorState) (hart : ℕ) (file : RegisterFile) → mid ≡ with_running s hart file → LoadsAnew load mid new hart
    → LoadsAnew load s new hart
loads_put load s mid new hart file put anew = anew_put load s new hart file (subst (λ m. LoadsAnew load m new hart) put anew)
