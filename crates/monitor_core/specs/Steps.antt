-- The possible answers to a call or an interrupt on a hart, and the resulting states.
use Rattle.std.specs.Prelude.{◌≡◌, ◌⊎◌, ℕ, ◌-◌, ◌^◌, pos, List, Option, None, Some}
use Rattle.enclave_table.specs.Enclaves.{EnclaveTable, Live, with_enclave}
use Rattle.platforms.specs.CheckLists.{FailsFirst}
use Rattle.enclave_table.specs.Refusals.{refusal_number, RefusesBy}
use Rattle.enclave_table.specs.Create.{Creates, OutgrowsByCreate}
use Rattle.enclave_table.specs.Destroy.{Destroys}
use Rattle.enclave_table.specs.Lives.{Enters, Leaves}
use Rattle.enclave_table.specs.Checks.{host_checks, leave_checks, word_checks, create_checks}
use Rattle.enclave_table.specs.Checks.{MayDestroy, state_before}
use Rattle.enclave_table.specs.Digests.{AnswersWord}
use Rattle.measurement.specs.declared.request.Create.{Create}
use Rattle.enclave_table.specs.declared.enclave.Enclave.{Enclave}
use Rattle.enclave_table.specs.declared.life.Entering.{Entering}
use Rattle.enclave_table.specs.declared.life.Entering.TheVariants as ways
use Rattle.enclave_table.specs.declared.enclave.Stage.TheVariants.{Fresh, Stopped, Exited}
use Rattle.enclave_table.specs.declared.refusal.Refusal.{Refusal}
use Rattle.pmp_encoding.specs.declared.pages.PageRange.{PageRange}
use Rattle.sbi_decode.specs.declared.world.World.{World}
use Rattle.sbi_decode.specs.declared.world.World.TheVariants.{Host, Enclave as InEnclave}
use Rattle.sbi_decode.specs.declared.calls.Call.{Call}
use Rattle.sbi_decode.specs.declared.calls.Call.TheVariants as calls
use Rattle.sbi_decode.specs.Runners.{EnclaveOf}
use Rattle.monitor_core.specs.States.{MonitorState}
use Rattle.monitor_core.specs.Changes.{first_registers, in_world, with_registers, answering}
use Rattle.monitor_core.specs.Changes.{marking_others, back_to_host}
use Rattle.monitor_core.specs.Answers.{below_zero}
use Rattle.monitor_core.specs.declared.answer.Answer.{Answer}
use Rattle.measurement.specs.Requests.{parts_of}
use Rattle.enclave_table.specs.Fewest.{NeedsMore}
use Rattle.enclave_table.specs.Views.{host_view}
use Rattle.sbi_decode.specs.Registers.{zeros}

-- a successful call: the state after it, its answer of 0 and a value, and the pages to be zeroed
pub record Done (that : MonitorState) (value : ℕ) (pages : Option PageRange) (answer : Answer)
    (zero : Option PageRange) (new : MonitorState) : Type 0 where
  pub state : new ≡ that
  pub told : answer ≡ record { status = pos 0; value = value }
  pub zeroes : zero ≡ pages

-- a refused call, with the negated number as its status: only a0 and a1 change
pub record Refuses (number : ℕ) (s : MonitorState) (hart : ℕ) (answer : Answer)
    (zero : Option PageRange) (new : MonitorState) : Type 0 where
  pub state : new ≡ answering s hart (2 ^ 64 - number) 0
  pub told : answer ≡ record { status = below_zero number; value = 0 }
  pub zeroes : zero ≡ None

-- a call refused for this reason
abbrev pub Refused : (Refusal → Type 0) → MonitorState → ℕ → Answer → Option PageRange
    → MonitorState → Type 0
Refused Why s hart answer zero new = (refusal : Refusal) × Why refusal
    × Refuses (refusal_number refusal) s hart answer zero new

-- the call that the registers name succeeds or is refused, and an unknown one is refused. Create:
-- adds an enclave with the digest of its parts, and the other harts must load the host's new
-- entries. Destroy: removes an enclave, whose private pages must be zeroed; its registers become
-- zero, and the other harts must reload as for create. Run: enters the enclave at its entry point
-- with its id in a0, and the host's registers are saved. Resume: continues the enclave as it was
-- stopped. Stop: the enclave will continue with 0 in a0 and a1, and the host continues with 1 and
-- 0. Exit: the enclave's registers become zero, and the host continues with 0 and the value.
-- Measure: returns a word of the digest
abbrev pub DoesCall : Option Call → (Create → List ℕ) → MonitorState → ℕ → Answer → Option PageRange
    → MonitorState → Type 0
DoesCall None digests s hart answer zero new = Refuses 2 s hart answer zero new
DoesCall (Some (calls.Create base text_pages data_pages shared_base shared_count entry_offset))
    digests s hart answer zero new =
    let asked : Create = record {
      base = base;
      text_pages = text_pages;
      data_pages = data_pages;
      shared_base = shared_base;
      shared_count = shared_count;
      entry_offset = entry_offset;
    } in
    ((id : ℕ) × (table : EnclaveTable) × Creates digests s.table (s.worlds hart) asked id table
    × Done (marking_others (answering (record s { table = table }) hart 0 id) hart) id None answer
    zero new)
    ⊎ Refused (RefusesBy (create_checks s.table (s.worlds hart) (parts_of asked))
    (OutgrowsByCreate digests s.table asked)) s hart answer zero new
DoesCall (Some (calls.Destroy id)) digests s hart answer zero new =
    ((range : PageRange) × (table : EnclaveTable) × Destroys s.table (s.worlds hart) id range table
    × Done (marking_others (answering
    (with_registers (record s { table = table }) (EnclaveOf id) zeros) hart 0 0) hart) 0
    (Some range) answer zero new)
    ⊎ Refused (RefusesBy (host_checks MayDestroy s.table (s.worlds hart) id)
    (NeedsMore s.table.layout.limit (host_view (with_enclave s.table id None)))) s hart answer
    zero new
DoesCall (Some (calls.Run id)) digests s hart answer zero new =
    ((e : Enclave) × (table : EnclaveTable) × Live s.table id e
    × Enters s.table (s.worlds hart) id Fresh table
    × Done (in_world (with_registers (record s { table = table }) (EnclaveOf id)
    (first_registers id e.parts)) hart (InEnclave id)) 0 None answer zero new)
    ⊎ Refused (FailsFirst (host_checks (λ state. state ≡ Fresh) s.table (s.worlds hart) id)) s hart
    answer zero new
DoesCall (Some calls.Stop) digests s hart answer zero new =
    ((id : ℕ) × (table : EnclaveTable) × Leaves s.table (s.worlds hart) Stopped id table
    × Done (back_to_host (answering (record s { table = table }) hart 0 0) hart 1 0) 0 None answer
    zero new)
    ⊎ Refused (FailsFirst (leave_checks (s.worlds hart))) s hart answer zero new
DoesCall (Some (calls.Resume id)) digests s hart answer zero new =
    ((e : Enclave) × (table : EnclaveTable) × Live s.table id e
    × Enters s.table (s.worlds hart) id Stopped table
    × Done (in_world (record s { table = table }) hart (InEnclave id)) 0 None answer zero new)
    ⊎ Refused (FailsFirst (host_checks (λ state. state ≡ Stopped) s.table (s.worlds hart) id)) s
    hart answer zero new
DoesCall (Some (calls.Exit value)) digests s hart answer zero new =
    ((id : ℕ) × (table : EnclaveTable) × Leaves s.table (s.worlds hart) Exited id table
    × Done (back_to_host (with_registers (record s { table = table }) (EnclaveOf id) zeros) hart 0
    value) value None answer zero new)
    ⊎ Refused (FailsFirst (leave_checks (s.worlds hart))) s hart answer zero new
DoesCall (Some (calls.Measure id k)) digests s hart answer zero new =
    ((word : ℕ) × AnswersWord s.table id k word
    × Done (answering s hart 0 word) word None answer zero new)
    ⊎ Refused (FailsFirst (word_checks s.table id k)) s hart answer zero new

-- an interrupt changes nothing in the host's world, and stops an enclave with its current registers
abbrev pub Interrupts : World → MonitorState → ℕ → MonitorState → Type 0
Interrupts Host s hart new = new ≡ s
Interrupts (InEnclave id) s hart new = (table : EnclaveTable)
    × Leaves s.table (InEnclave id) Stopped id table
    × (new ≡ back_to_host (record s { table = table }) hart 1 0)

-- run and resume as one definition: the registers of the entered enclave, and the call
abbrev pub entering_with : Entering → MonitorState → ℕ → Enclave → MonitorState
entering_with ways.Run s id e = with_registers s (EnclaveOf id) (first_registers id e.parts)
entering_with ways.Resume s id e = s

abbrev pub DoesEnter : Entering → ℕ → MonitorState → ℕ → Answer → Option PageRange → MonitorState
    → Type 0
DoesEnter entering id s hart answer zero new =
    ((e : Enclave) × (table : EnclaveTable) × Live s.table id e
    × Enters s.table (s.worlds hart) id (state_before entering) table
    × Done (in_world (entering_with entering (record s { table = table }) id e) hart
    (InEnclave id)) 0 None answer zero new)
    ⊎ Refused (FailsFirst (host_checks (λ state. state ≡ state_before entering) s.table
    (s.worlds hart) id)) s hart answer zero new
