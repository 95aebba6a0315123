-- When an event is refused for want of entries, and when out of memory.
use Rattle.std.proofs.Common.{◌≡◌, ◌∙◌, inl, inr, ℕ, Bool, true, false, Option, None, ℤ, pos, Result, Ok, Err, refl, ap, sym}
use Rattle.pmp_match.specs.declared.access.Access.{Access}
use Rattle.pmp_match.specs.declared.access.Kind.{Kind}
use Rattle.pmp_match.specs.declared.access.Kind.TheVariants.{Fetch, Load, Store}
use Rattle.pmp_match.specs.declared.cause.Cause.{Cause}
use Rattle.enclave_table.specs.Enclaves.{EnclaveTable}
use Rattle.enclave_table.specs.Refusals.{refusal_number}
use Rattle.enclave_table.specs.Tables.{IsTable}
use Rattle.enclave_table.specs.declared.refusal.Refusal.{Refusal}
use Rattle.enclave_table.specs.declared.refusal.Refusal.TheVariants.{NoEntries, NoMemory}
use Rattle.sbi_decode.specs.declared.world.World.{World}
use Rattle.sbi_decode.specs.declared.calls.Call.{Call}
use Rattle.monitor_core.specs.Answers.{below_zero, world_number}
use Rattle.monitor_core.specs.Wants.{IsRefusedByNeed}
use Rattle.monitor_core.specs.declared.answer.Answer.{Answer}
use Rattle.monitor_core.proofs.Wanted as core
use Rattle.hart_trace.specs.declared.event.Event.{Event}
use Rattle.hart_trace.specs.declared.event.Event.TheVariants as events
use Rattle.hart_trace.specs.declared.reply.Reply.{Reply}
use Rattle.hart_trace.specs.declared.reply.Reply.TheVariants as replies
use Rattle.hart_sim.specs.Replies.{RepliesWith}
use Rattle.hart_sim.specs.States.{MachineState, core_of, view_on}
use Rattle.hart_sim.specs.Steps.{Step, Accesses, TakesEffect, verdict}
use Rattle.hart_sim.specs.Wants.{IsAnsweredBy, CreatesByNeed, DestroysByNeed, RefusesByNeed}
use Rattle.hart_sim.proofs.Asked.{awoken, named, asked, lent}
use Rattle.hart_sim.specs.Memory.{measured_in}

-- the answer has the status of a refusal
abbrev Says : Answer → Refusal → Type 0
Says answer refusal = answer.status ≡ below_zero (refusal_number refusal)

-- the reply has the status of the answer
to_reply : (new : MachineState) (hart : ℕ) (answer : Answer) (reply : Reply) (refusal : Refusal)
    → RepliesWith (replies.Call answer.status answer.value) new hart reply → Says answer refusal → IsAnsweredBy reply refusal
to_reply new hart answer reply refusal told is =
    let world = world_number (new.worlds hart) in
    (answer.value, world, told.0, told.2 ∙ ap (λ status. replies.Call status answer.value world told.0) is)

abbrev status_of : Reply → ℤ
status_of (replies.Call status value world used) = status
status_of _ = pos 0

to_answer : (new : MachineState) (hart : ℕ) (answer : Answer) (reply : Reply) (refusal : Refusal)
    → RepliesWith (replies.Call answer.status answer.value) new hart reply → IsAnsweredBy reply refusal → Says answer refusal
to_answer new hart answer reply refusal told is = ap status_of (sym told.2 ∙ is.3)

pub creates_by_need : CreatesByNeed
creates_by_need asked s hart reply new pass x =
    let n = core.creates_by_need asked (measured_in s.bytes) (core_of s) hart x.0 x.1 x.2 pass x.3 in (
      (λ is. n.0 (to_answer new hart x.0 reply NoEntries x.5 is)),
      (λ out. elim (n.1 out) [ inl is ↦ inl (to_reply new hart x.0 reply NoEntries x.5 is) | inr is ↦ inr (to_reply new hart x.0 reply NoMemory x.5 is) ]),
    )

pub destroys_by_need : DestroysByNeed
destroys_by_need id s hart reply new pass x =
    let n = core.destroys_by_need id (measured_in s.bytes) (core_of s) hart x.0 x.1 x.2 pass x.3 in (
      (λ is. n.0 (to_answer new hart x.0 reply NoEntries x.5 is)),
      (λ out. elim (n.1 out) [ inl is ↦ inl (to_reply new hart x.0 reply NoEntries x.5 is) | inr is ↦ inr (to_reply new hart x.0 reply NoMemory x.5 is) ]),
    )

-- said of the answer, so of the reply
replied : (call : Option Call) (table : EnclaveTable) (world : World) (new : MachineState) (hart : ℕ) (answer : Answer) (reply : Reply)
    → RepliesWith (replies.Call answer.status answer.value) new hart reply → IsRefusedByNeed call table world (Says answer)
    → IsRefusedByNeed call table world (IsAnsweredBy reply)
replied call table world new hart answer reply told n = record {
  entries = λ is. n.entries (to_answer new hart answer reply NoEntries told is);
  outgrown = λ pass out. elim (n.outgrown pass out) [
    | inl is ↦ inl (to_reply new hart answer reply NoEntries told is)
    | inr is ↦ inr
        (to_reply new hart answer reply NoMemory told is)
  ];
  memory = λ is. n.memory (to_answer new hart answer reply NoMemory told is);
}

abbrev is_call : Reply → Bool
is_call (replies.Call status value world used) = true
is_call _ = false

-- a reply that is no answer of a call is no refusal
none : (table : EnclaveTable) (world : World) (reply that : Reply) → is_call that ≡ false → reply ≡ that → IsRefusedByNeed None table world (IsAnsweredBy reply)
none table world reply that other is = record {
  entries = λ x. absurd (never NoEntries x);
  outgrown = λ pass out. absurd pass;
  memory = λ x. absurd
      (never NoMemory x);
}
  where
    never : (refusal : Refusal) → IsAnsweredBy reply refusal → ⊥
    never refusal x = let z : false ≡ true = sym other ∙ ap is_call (sym is ∙ x.3) in cc

effect : (kind : Kind) (table : EnclaveTable) (world : World) (s : MachineState) (a : Access) (value : ℕ) (reply : Reply) (new : MachineState)
    → TakesEffect kind s a value reply new → IsRefusedByNeed None table world (IsAnsweredBy reply)
effect Fetch table world s a value reply new x = none table world reply replies.Done refl x.0
effect Load table world s a value reply new x = none table world reply _ refl x.0
effect Store table world s a value reply new (inl x) = none table world reply replies.Done refl x.0
effect Store table world s a value reply new (inr x) = none table world reply replies.NoMemory refl x.0

accessed : (said : Result (Unit {0}) Cause) (table : EnclaveTable) (world : World) (s : MachineState) (a : Access) (value : ℕ) (reply : Reply)
    (new : MachineState) → Accesses said s a value reply new → IsRefusedByNeed None table world (IsAnsweredBy reply)
accessed (Err cause) table world s a value reply new x = none table world reply (replies.Fault cause) refl x.0
accessed (Ok done) table world s a value reply new x = effect a.kind table world s a value reply new x

-- an event is refused for want of entries just where a view would need more, and nothing but a creation or a destruction is
pub refuses_by_need : (old : MachineState) (hart : ℕ) (event : Event) (reply : Reply) (new : MachineState) → IsTable old.table → Step old hart event reply new
    → RefusesByNeed old hart event reply
refuses_by_need old hart (events.Access a value) reply new t x = accessed (verdict (view_on old hart) a) old.table (old.worlds hart)
    (awoken old hart) a value reply new x
refuses_by_need old hart (events.Reg n value) reply new t x = none old.table (old.worlds hart) reply replies.Done refl x.0
refuses_by_need old hart (events.Ecall words) reply new t x =
    replied (named old hart words.items) old.table (old.worlds hart) new hart x.0 reply x.5
    (core.call_refused_by_need (named old hart words.items) (lent old) (asked old hart words.items) hart x.0 x.1 x.2 t x.3)
refuses_by_need old hart events.Irq reply new t x = none old.table (old.worlds hart) reply _ refl x.3.2
