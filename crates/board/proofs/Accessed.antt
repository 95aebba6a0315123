-- What holds of an access: it is a step of the model, whose verdict is the view's.
use Rattle.std.proofs.Common.{◌≡◌, ◌≢◌, ◌∙◌, inl, inr, ℕ, List, Result, Ok, Err, true, refl, ap, sym, subst}
use Rattle.pmp_encoding.specs.declared.perm.Perm.{Perm}
use Rattle.pmp_encoding.specs.declared.region.Entry.{Entry}
use Rattle.pmp_encoding.proofs.Pairs.{one_list}
use Rattle.pmp_match.specs.declared.access.Access.{Access}
use Rattle.pmp_match.specs.declared.access.Kind.{Kind}
use Rattle.pmp_match.specs.declared.access.Kind.TheVariants.{Fetch, Load, Store}
use Rattle.pmp_match.specs.declared.access.Mode.TheVariants.{Machine}
use Rattle.pmp_match.specs.declared.cause.Cause.{Cause}
use Rattle.pmp_match.specs.Judgement.{Judges}
use Rattle.pmp_match.specs.Meaning.{Means}
use Rattle.pmp_match.proofs.Judged.{judgement_law_proof}
use Rattle.enclave_table.specs.Enclaves.{Live}
use Rattle.enclave_table.specs.Tables.{IsTable}
use Rattle.enclave_table.specs.Views.{current_view}
use Rattle.hart_trace.specs.declared.event.Event.{Event}
use Rattle.hart_trace.specs.declared.event.Event.TheVariants as events
use Rattle.hart_trace.specs.declared.reply.Reply.{Reply}
use Rattle.hart_trace.specs.declared.reply.Reply.TheVariants as replies
use Rattle.hart_sim.specs.Changes.{storing}
use Rattle.hart_sim.specs.Memory.{bytes_at, number_of_bytes}
use Rattle.hart_sim.specs.Privacy.{StoresTo}
use Rattle.hart_sim.specs.Promises.{Promises}
use Rattle.hart_sim.specs.States.{MachineState, awoken}
use Rattle.hart_sim.specs.Steps.{Accesses, Step, TakesEffect, verdict}
use Rattle.trap_server.specs.Firmware.{HasFewest}
use Rattle.board.specs.Board.{Board, DoesAccess, IsMemoryByte, memory_after, put_by}
use Rattle.board.specs.Headline.{IsOwnStore, KeepsAccess, floats_of}
use Rattle.board.proofs.Judged.{judged}
use Rattle.board.proofs.Private.{private_memory}

-- what a list says that means a view, the view says
said_by : (view : ℕ → Perm) (entries : List Entry) (a : Access) (said : Result (Unit {0}) Cause) → Means entries view → a.mode ≢ Machine
    → Judges entries a said → said ≡ verdict view a
said_by view entries a said means mode is =
    sym ((judgement_law_proof entries a said).0 is) ∙ (judgement_law_proof entries a (verdict view a)).0 (judged view entries a means mode)

-- the board as a state of the model, in which every page was written
abbrev pub as_machine : Board → MachineState
as_machine board = record {
  table = board.monitor.table;
  worlds = board.monitor.worlds;
  registers = board.monitor.registers;
  bytes = board.memory;
  written = λ page. true;
  marked = board.monitor.marked;
}

-- what the model answers, and the state that it leaves
abbrev effect_of : Kind → MachineState → Access → Reply
effect_of Fetch s a = replies.Done
effect_of Load s a = replies.Loaded (number_of_bytes (bytes_at s.bytes a.address a.size))
effect_of Store s a = replies.Done

abbrev reply_of : Result (Unit {0}) Cause → MachineState → Access → Reply
reply_of (Err cause) s a = replies.Fault cause
reply_of (Ok done) s a = effect_of a.kind s a

abbrev state_by : Kind → MachineState → Access → ℕ → MachineState
state_by Fetch s a value = s
state_by Load s a value = s
state_by Store s a value = storing s a.address a.size value

abbrev state_after : Result (Unit {0}) Cause → MachineState → Access → ℕ → MachineState
state_after (Err cause) s a value = s
state_after (Ok done) s a value = state_by a.kind s a value

takes : (kind : Kind) (s : MachineState) (a : Access) (value : ℕ) → TakesEffect kind s a value (effect_of kind s a) (state_by kind s a value)
takes Fetch s a value = (refl, refl)
takes Load s a value = (refl, refl)
takes Store s a value = inl (refl, refl)

accesses : (said : Result (Unit {0}) Cause) (s : MachineState) (a : Access) (value : ℕ)
    → Accesses said s a value (reply_of said s a) (state_after said s a value)
accesses (Err cause) s a value = (refl, refl)
accesses (Ok done) s a value = takes a.kind s a value

put_bytes : (kind : Kind) (s : MachineState) (a : Access) (value : ℕ) → (state_by kind s a value).bytes ≡ put_by kind s.bytes a value
put_bytes Fetch s a value = refl
put_bytes Load s a value = refl
put_bytes Store s a value = refl

bytes_after : (said : Result (Unit {0}) Cause) (s : MachineState) (a : Access) (value : ℕ)
    → (state_after said s a value).bytes ≡ memory_after said s.bytes a value
bytes_after (Err cause) s a value = refl
bytes_after (Ok done) s a value = put_bytes a.kind s a value

put_table : (kind : Kind) (s : MachineState) (a : Access) (value : ℕ) → (state_by kind s a value).table ≡ s.table
put_table Fetch s a value = refl
put_table Load s a value = refl
put_table Store s a value = refl

table_after : (said : Result (Unit {0}) Cause) (s : MachineState) (a : Access) (value : ℕ) → (state_after said s a value).table ≡ s.table
table_after (Err cause) s a value = refl
table_after (Ok done) s a value = put_table a.kind s a value

-- a fault is answered to none but a fault
no_fault : (kind : Kind) (s : MachineState) (a : Access) (cause : Cause) → effect_of kind s a ≡ replies.Fault cause → ⊥
no_fault Fetch s a cause is = let z : replies.Done ≡ replies.Fault cause = is in cc
no_fault Load s a cause is = let z : replies.Loaded (number_of_bytes (bytes_at s.bytes a.address a.size)) ≡ replies.Fault cause = is in cc
no_fault Store s a cause is = let z : replies.Done ≡ replies.Fault cause = is in cc

said_fault : (said : Result (Unit {0}) Cause) (s : MachineState) (a : Access) (cause : Cause) → reply_of said s a ≡ replies.Fault cause
    → (why : Cause) × (said ≡ Err why)
said_fault (Err why) s a cause is = (why, refl)
said_fault (Ok done) s a cause is = absurd (no_fault a.kind s a cause is)

-- what every step of the model promises
abbrev pub StepsPromise : Type 0
StepsPromise = (old : MachineState) (hart : ℕ) (event : Event) (reply : Reply) (new : MachineState) → IsTable old.table → Step old hart event reply new
    → Promises old hart event reply new

-- what is promised of the step that an access is
promised : (law : StepsPromise) (old : Board) (hart : ℕ) (a : Access) (value : ℕ) (said : Result (Unit {0}) Cause) → IsTable old.monitor.table
    → said ≡ verdict (current_view old.monitor.table (old.monitor.worlds hart)) a
    → Promises (as_machine old) hart (events.Access a value) (reply_of said (awoken (as_machine old) hart) a)
    (state_after said (awoken (as_machine old) hart) a value)
promised law old hart a value said right is =
    let s = awoken (as_machine old) hart in
    law (as_machine old) hart (events.Access a value) (reply_of said s a) (state_after said s a value) right
    (subst (λ v. Accesses v s a value (reply_of said s a) (state_after said s a value)) is (accesses said s a value))

own_store : (old : Board) (hart : ℕ) (a : Access) (value : ℕ) (said : Result (Unit {0}) Cause) (reply : Reply) (id byte : ℕ)
    → said ≡ verdict (current_view old.monitor.table (old.monitor.worlds hart)) a
    → StoresTo (as_machine old) hart (events.Access a value) reply id byte → IsOwnStore old hart a said id byte
own_store old hart a value said reply id byte is x = record { store = x.0; allowed = is ∙ x.3; own = x.2; reaches = (x.4, x.5) }

pub access_kept : (law : StepsPromise) (old : Board) (hart : ℕ) (a : Access) (value : ℕ) (said : Result (Unit {0}) Cause) (new : Board)
    → IsTable old.monitor.table
    → HasFewest (old.loaded hart) old.monitor.table.layout.limit (current_view old.monitor.table (old.monitor.worlds hart))
    → DoesAccess old hart a value said new → KeepsAccess old hart a said new
access_kept law old hart a value said new right fewest x =
    let view = current_view old.monitor.table (old.monitor.worlds hart) in
    let same : x.entries ≡ fewest.entries = one_list _ x.entries fewest.entries x.loaded fewest.list in
    let is : said ≡ verdict view a = said_by view fewest.entries a said fewest.fewest.means x.below
    (subst (λ es. Judges es a said) same x.judged) in
    let s = awoken (as_machine old) hart in
    let p = promised law old hart a value said right is in
    record {
      by_view = is;
      denied = λ id byte e own reaches other.
          let fault = p.denied a value id byte e refl own.0 own.1 reaches.0 reaches.1 other in
          said_fault said s a fault.0 fault.1;
      closed = λ byte own reaches. let fault = p.monitor a value byte refl own reaches.0 reaches.1 in said_fault said s a fault.0 fault.1;
      private = λ id byte e own.
          let live : Live (state_after said s a value).table id e = subst (λ t. Live t id e) (sym (table_after said s a value)) own.0 in
          let here : IsMemoryByte new.monitor.table.layout byte = subst (λ (b : Board). IsMemoryByte b.monitor.table.layout byte) (sym x.state)
          (private_memory old.monitor.table id byte e right own.0 own.1) in
          let bytes : new.memory byte ≡ (state_after said s a value).bytes byte = x.memory byte here ∙ sym (ap (λ m. m byte) (bytes_after said s a value)) in
          elim (p.private id byte e e own.0 live own.1 own.1) [
            | inl stays ↦ inl (bytes ∙ stays)
            | inr stores ↦ inr (own_store old hart a value said (reply_of said s a) id byte is stores)
          ];
      running = λ other. ap (λ (b : Board). b.running other) x.state;
      floats = λ who. ap (λ b. floats_of b who) x.state;
    }
