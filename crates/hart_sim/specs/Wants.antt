-- The conditions for refusing a creation or a destruction with `NoEntries`.
use Rattle.std.specs.Prelude.{◌≡◌, ◌⊎◌, ℕ, None, Some}
use Rattle.measurement.specs.Requests.{parts_of}
use Rattle.enclave_table.specs.Enclaves.{with_enclave}
use Rattle.enclave_table.specs.Views.{host_view}
use Rattle.platforms.specs.CheckLists.{AllPass}
use Rattle.enclave_table.specs.Refusals.{refusal_number}
use Rattle.enclave_table.specs.Checks.{create_checks, host_checks, MayDestroy}
use Rattle.enclave_table.specs.Fewest.{NeedsMore}
use Rattle.enclave_table.specs.Create.{OutgrowsByCreate}
use Rattle.measurement.specs.declared.request.Create.{Create}
use Rattle.enclave_table.specs.declared.refusal.Refusal.TheVariants.{NoEntries, NoMemory}
use Rattle.enclave_table.specs.declared.refusal.Refusal.{Refusal}
use Rattle.sbi_decode.specs.Calls.{call_of}
use Rattle.monitor_core.specs.Answers.{below_zero}
use Rattle.monitor_core.specs.Steps.{DoesCall}
use Rattle.sbi_decode.specs.declared.calls.Call.TheVariants as calls
use Rattle.monitor_core.specs.Wants.{IsRefusedByNeed}
use Rattle.hart_trace.specs.declared.event.Event.{Event}
use Rattle.hart_trace.specs.declared.event.Event.TheVariants as events
use Rattle.hart_trace.specs.declared.reply.Reply.{Reply}
use Rattle.hart_trace.specs.declared.reply.Reply.TheVariants as replies
use Rattle.hart_sim.specs.States.{MachineState, core_of}
use Rattle.hart_sim.specs.Changes.{calling}
use Rattle.hart_sim.specs.Steps.{Serves}
use Rattle.hart_sim.specs.Memory.{measured_in}

-- a call was answered with this refusal
abbrev pub IsAnsweredBy : Reply → Refusal → Type 0
IsAnsweredBy reply refusal = (value world used : ℕ)
    × (reply ≡ replies.Call (below_zero (refusal_number refusal)) value world used)

-- a call that passes its other checks fails with `NoEntries` only if a resulting view would need
-- more entries than a hart has. If one would, it fails with `NoEntries` or `NoMemory`
abbrev pub IsRefusedExactlyWhere : Type 0 → Reply → Type 0
IsRefusedExactlyWhere Outgrows reply = (IsAnsweredBy reply NoEntries → Outgrows)
    × (Outgrows → IsAnsweredBy reply NoEntries ⊎ IsAnsweredBy reply NoMemory)

-- this is true of each creation that passes its other checks
abbrev pub CreatesByNeed : Type 0
CreatesByNeed =
    (asked : Create) (s : MachineState) (hart : ℕ) (reply : Reply) (new : MachineState)
    → AllPass (create_checks s.table (s.worlds hart) (parts_of asked))
    → Serves (DoesCall (Some (calls.Create asked.base asked.text_pages asked.data_pages
    asked.shared_base asked.shared_count asked.entry_offset))
    (measured_in s.bytes) (core_of s) hart) s hart reply new
    → IsRefusedExactlyWhere (OutgrowsByCreate (measured_in s.bytes) s.table
    asked) reply

-- this is true of each destruction that passes its other checks
abbrev pub DestroysByNeed : Type 0
DestroysByNeed =
    (id : ℕ) (s : MachineState) (hart : ℕ) (reply : Reply) (new : MachineState)
    → AllPass (host_checks MayDestroy s.table (s.worlds hart) id)
    → Serves (DoesCall (Some (calls.Destroy id)) (measured_in s.bytes)
    (core_of s) hart) s hart reply new
    → IsRefusedExactlyWhere (NeedsMore s.table.layout.limit
    (host_view (with_enclave s.table id None))) reply

-- the call that an event makes on a hart fails with `NoEntries` only if a resulting view would need
-- more entries than a hart has, as in `IsRefusedByNeed`; an event other than a call never fails in
-- this way
abbrev pub RefusesByNeed : MachineState → ℕ → Event → Reply → Type 0
RefusesByNeed s hart (events.Ecall words) reply =
    IsRefusedByNeed (call_of (calling s hart words.items)) s.table (s.worlds hart)
    (IsAnsweredBy reply)
RefusesByNeed s hart _ reply = IsRefusedByNeed None s.table (s.worlds hart) (IsAnsweredBy reply)
