-- The registers with which a world is left that made a call, or was interrupted.
use Rattle.measurement.specs.declared.request.Create.{Create}
use Rattle.std.proofs.Common.{◌≡◌, ◌≢◌, ◌⊎◌, ◌∙◌, ◌-◌, ◌^◌, inl, inr, ℕ, List, Option, Some, None, if◌then◌else◌, refl, ap, sym, subst}
use Rattle.std.proofs.lemmas.Bool.{eq-eqb}
use Rattle.std.proofs.lemmas.Option.{same_Some}
use Rattle.pmp_encoding.specs.declared.pages.PageRange.{PageRange}
use Rattle.enclave_table.specs.Enclaves.{enclave_at}
use Rattle.enclave_table.specs.Lives.{Leaves}
use Rattle.enclave_table.specs.Refusals.{refusal_number}
use Rattle.enclave_table.specs.Tables.{IsCurrent}
use Rattle.enclave_table.specs.declared.enclave.Enclave.{Enclave}
use Rattle.enclave_table.specs.declared.enclave.Stage.TheVariants.{Running, Exited}
use Rattle.enclave_table.proofs.Places.{live_above, live_inside, set_same}
use Rattle.sbi_decode.specs.Registers.{RegisterFile, with_x, zeros}
use Rattle.sbi_decode.specs.Runners.{Runner, HostOf, EnclaveOf, runner_of}
use Rattle.sbi_decode.specs.declared.calls.Call.{Call}
use Rattle.sbi_decode.specs.declared.calls.Call.TheVariants as calls
use Rattle.sbi_decode.specs.declared.world.World.{World}
use Rattle.sbi_decode.specs.declared.world.World.TheVariants.{Host, Enclave as InEnclave}
use Rattle.monitor_core.specs.declared.answer.Answer.{Answer}
use Rattle.monitor_core.specs.Changes.{answering, back_to_host, first_registers, is_same}
use Rattle.monitor_core.specs.States.{MonitorState, running_registers}
use Rattle.monitor_core.specs.Steps.{DoesCall, Interrupts, Refuses}
use Rattle.monitor_core.specs.Switches.{HasExited, runner_on}
use Rattle.monitor_core.proofs.Put.{same_not, same_self}

-- as they were, or with two words in a0 and a1
abbrev pub Through : RegisterFile → RegisterFile → Type 0
Through file now = (now ≡ file) ⊎ ((first second : ℕ) × (now ≡ with_x (with_x file 10 first) 11 second))

-- an answer in the hart's own registers
told : (s : MonitorState) (hart first second : ℕ) (now : RegisterFile) → now ≡ (answering s hart first second).registers (runner_on s hart)
    → Through (running_registers s hart) now
told s hart first second now is =
    let file = running_registers s hart in
    inr (first, second, is ∙ ap (λ t. if t then with_x (with_x file 10 first) 11 second else file) (same_self (runner_on s hart)))

-- that of a call that is refused
refused : (number : ℕ) (s : MonitorState) (hart : ℕ) (answer : Answer) (zero : Option PageRange) (n : MonitorState) → Refuses number s hart answer zero n
    → Through (running_registers s hart) (n.registers (runner_on s hart))
refused number s hart answer zero n x = told s hart (2 ^ 64 - number) 0 (n.registers (runner_on s hart)) (ap (λ y. y.registers (runner_on s hart)) x.state)

-- a host is no enclave
host_not : (s : MonitorState) (hart id : ℕ) → s.worlds hart ≡ Host → runner_on s hart ≢ EnclaveOf id
host_not s hart id host is = let z : HostOf hart ≡ EnclaveOf id = sym (ap (runner_of hart) host) ∙ is in cc

enclave_not : (s : MonitorState) (hart id : ℕ) → s.worlds hart ≡ InEnclave id → runner_on s hart ≢ HostOf hart
enclave_not s hart id at is = let z : EnclaveOf id ≡ HostOf hart = sym (ap (runner_of hart) at) ∙ is in cc

-- all but the host's stay where the host goes on
back_other : (m : MonitorState) (hart first second : ℕ) (who : Runner) → who ≢ HostOf hart → (back_to_host m hart first second).registers who ≡ m.registers who
back_other m hart first second who other =
    ap (λ t. let runner = runner_of hart (if t then Host else m.worlds hart) in if is_same who runner then with_x
    (with_x (m.registers runner) 10 first) 11 second else m.registers who) (eq-eqb hart hart refl)
    ∙ ap (λ t. if t then with_x (with_x (m.registers (HostOf hart)) 10 first) 11 second else m.registers who) (same_not who (HostOf hart) other)

-- an enclave that exits was Running
exits : (s n : MonitorState) (hart id : ℕ) (l : Leaves s.table (s.worlds hart) Exited id n.table) → IsCurrent s.table (s.worlds hart) → HasExited s n id
exits s n hart id l current =
    let e = l.turned.0 in
    let now : IsCurrent s.table (InEnclave id) = subst (IsCurrent s.table) l.left current in
    let same : e ≡ now.0 = same_Some e now.0 (sym l.turned.1 ∙ now.1) in (
      e,
      record e { state = Exited },
      l.turned.1,
      (λ over. let z : Running ≡ Exited = sym now.2 ∙ ap (λ (x : Enclave). x.state) (sym same) ∙ over in cc),
      ap (λ t. enclave_at t.enclaves id) l.turned.2 ∙ set_same s.table.enclaves id (Some (record e { state = Exited }))
          (live_above s.table.enclaves id e l.turned.1) (live_inside s.table.enclaves id e l.turned.1),
      refl,
    )

pub call_through :
    (call : Option Call) (digests : Create → List ℕ) (s : MonitorState) (hart : ℕ) (answer : Answer) (zero : Option PageRange) (n : MonitorState)
    → IsCurrent s.table (s.worlds hart) → DoesCall call digests s hart answer zero n
    → ((id : ℕ) → runner_on s hart ≡ EnclaveOf id → HasExited s n id → ⊥) → Through (running_registers s hart) (n.registers (runner_on s hart))
call_through None digests s hart answer zero n current x none = refused 2 s hart answer zero n x
call_through (Some (calls.Create base text_pages data_pages shared_base shared_count entry_offset)) digests s hart answer zero n current
    (inl x) none = told s hart 0 x.0 _ (ap (λ y. y.registers (runner_on s hart)) x.3.state)
call_through (Some (calls.Create base text_pages data_pages shared_base shared_count entry_offset)) digests s hart answer zero n current (inr x) none = refused
    (refusal_number x.0) s hart answer zero n x.2
call_through (Some (calls.Destroy id)) digests s hart answer zero n current (inl x) none =
    let me = runner_on s hart in
    let kept = λ (who : Runner). if is_same who (EnclaveOf id) then zeros else s.registers who in
    inr (
      0,
      0,
      ap (λ y. y.registers me) x.3.state ∙ ap (λ t. if t then with_x (with_x (kept me) 10 0) 11 0 else kept me) (same_self me)
          ∙ ap (λ t. with_x (with_x (if t then zeros else s.registers me) 10 0) 11 0) (same_not me (EnclaveOf id) (host_not s hart id x.2.passes.0)),
    )
call_through (Some (calls.Destroy id)) digests s hart answer zero n current (inr x) none = refused (refusal_number x.0) s hart answer zero n x.2
call_through (Some (calls.Run id)) digests s hart answer zero n current (inl x) none =
    let me = runner_on s hart in
    inl (ap (λ y. y.registers me) x.4.state ∙ ap (λ t. if t then first_registers id x.0.parts else s.registers me)
    (same_not me (EnclaveOf id) (host_not s hart id x.3.passes.0)))
call_through (Some (calls.Run id)) digests s hart answer zero n current (inr x) none = refused (refusal_number x.0) s hart answer zero n x.2
call_through (Some calls.Stop) digests s hart answer zero n current (inl x) none =
    let me = runner_on s hart in
    told s hart 0 0 _ (ap (λ y. y.registers me) x.3.state ∙ back_other (answering (record s { table = x.1 }) hart 0 0) hart 1 0 me
    (enclave_not s hart x.0 x.2.left))
call_through (Some calls.Stop) digests s hart answer zero n current (inr x) none = refused (refusal_number x.0) s hart answer zero n x.2
call_through (Some (calls.Resume id)) digests s hart answer zero n current (inl x) none = inl (ap (λ y. y.registers (runner_on s hart)) x.4.state)
call_through (Some (calls.Resume id)) digests s hart answer zero n current (inr x) none = refused (refusal_number x.0) s hart answer zero n x.2
call_through (Some (calls.Exit value)) digests s hart answer zero n current (inl x) none =
    let l : Leaves s.table (s.worlds hart) Exited x.0 n.table = subst (Leaves s.table (s.worlds hart) Exited x.0) (sym (ap (λ y. y.table) x.3.state)) x.2 in
    absurd (none x.0 (ap (runner_of hart) x.2.left) (exits s n hart x.0 l current))
call_through (Some (calls.Exit value)) digests s hart answer zero n current (inr x) none = refused (refusal_number x.0) s hart answer zero n x.2
call_through (Some (calls.Measure id k)) digests s hart answer zero n current (inl x) none = told s hart 0 x.0 _
    (ap (λ y. y.registers (runner_on s hart)) x.2.state)
call_through (Some (calls.Measure id k)) digests s hart answer zero n current (inr x) none = refused (refusal_number x.0) s hart answer zero n x.2

pub interrupt_through : (world : World) (s : MonitorState) (hart : ℕ) (n : MonitorState) → s.worlds hart ≡ world → Interrupts world s hart n
    → n.registers (runner_on s hart) ≡ running_registers s hart
interrupt_through Host s hart n at x = ap (λ y. y.registers (runner_on s hart)) x
interrupt_through (InEnclave id) s hart n at x = ap (λ y. y.registers (runner_on s hart)) x.2
    ∙ back_other (record s { table = x.0 }) hart 1 0 (runner_on s hart) (enclave_not s hart id at)
