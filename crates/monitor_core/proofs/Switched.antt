-- What becomes of registers over a call and an interrupt.
use Rattle.measurement.specs.declared.request.Create.{Create}
use Rattle.std.proofs.Common.{◌≡◌, ◌≢◌, ◌∙◌, inl, inr, ℕ, ◌≤◌, List, Option, Some, None, ◌==◌, if◌then◌else◌, refl, ap, sym, subst}
use Rattle.std.proofs.lemmas.Bool.{eq-eqb, eqb-true, both_ways}
use Rattle.std.proofs.lemmas.Option.{same_Some}
use Rattle.enclave_table.specs.Enclaves.{EnclaveTable, Live, enclave_at, with_enclave}
use Rattle.enclave_table.specs.Lives.{Leaves}
use Rattle.enclave_table.specs.declared.enclave.Enclave.{Enclave}
use Rattle.enclave_table.specs.declared.enclave.Stage.{Stage}
use Rattle.enclave_table.specs.declared.enclave.Stage.TheVariants.{Fresh, Running, Stopped, Exited}
use Rattle.enclave_table.proofs.Places.{live_above, live_inside, set_same, set_other}
use Rattle.pmp_encoding.specs.declared.pages.PageRange.{PageRange}
use Rattle.sbi_decode.specs.Registers.{RegisterFile, with_x, zeros}
use Rattle.sbi_decode.specs.declared.calls.Call.{Call}
use Rattle.sbi_decode.specs.declared.calls.Call.TheVariants as calls
use Rattle.sbi_decode.specs.declared.world.World.{World}
use Rattle.sbi_decode.specs.declared.world.World.TheVariants.{Host, Enclave as InEnclave}
use Rattle.sbi_decode.specs.Runners.{Runner, HostOf, EnclaveOf, runner_of}
use Rattle.monitor_core.specs.declared.answer.Answer.{Answer}
use Rattle.monitor_core.specs.Changes.{first_registers, is_same, in_world, with_registers, with_running, answering, marking_others, back_to_host}
use Rattle.monitor_core.specs.States.{MonitorState}
use Rattle.monitor_core.specs.Steps.{DoesCall, Interrupts}
use Rattle.monitor_core.specs.Switches.{runner_on, IsGone, HasExited, ComesBack, GoesIn, KeepsRegisters}
use Rattle.monitor_core.proofs.Cases.{both}
use Rattle.monitor_core.proofs.Held.{put_is, was_live}
use Rattle.monitor_core.proofs.Put.{same_not, same_self, put_other}
use Rattle.monitor_core.proofs.Zeroed.{not_lost, still_there}

-- no enclave is gone where the table stayed, or where another is put at some id
same_gone : (s n : MonitorState) (id : ℕ) → n.table ≡ s.table → IsGone s n id → ⊥
same_gone s n id table g = not_lost s.table n.table id g.0 table g.1 g.2

put_gone : (s n : MonitorState) (k id : ℕ) (slot : Enclave) → 1 ≤ k → n.table ≡ with_enclave s.table k (Some slot) → IsGone s n id → ⊥
put_gone s n k id slot above table g = still_there s.table k id slot g.0 above g.1 (ap (λ t. enclave_at t.enclaves id) (sym table) ∙ g.2)

-- and none has exited
same_exit : (s n : MonitorState) (id : ℕ) → n.table ≡ s.table → HasExited s n id → ⊥
same_exit s n id table x =
    let same : x.0 ≡ x.1 = same_Some x.0 x.1 (sym x.2 ∙ ap (λ t. enclave_at t.enclaves id) (sym table) ∙ x.4) in x.3 (ap (λ e. e.state) same ∙ x.5)

other_exit : (s n : MonitorState) (k id : ℕ) (slot : Option Enclave) → 1 ≤ k → n.table ≡ with_enclave s.table k slot → id ≢ k → HasExited s n id → ⊥
other_exit s n k id slot above table other x =
    let was : Live s.table id x.1 = was_live s.table n.table k id slot x.1 above table x.4 other in
    let same : x.0 ≡ x.1 = same_Some x.0 x.1 (sym x.2 ∙ was) in x.3 (ap (λ e. e.state) same ∙ x.5)

put_exit : (s n : MonitorState) (k id : ℕ) (slot : Option Enclave) → 1 ≤ k → n.table ≡ with_enclave s.table k slot
    → ((e : Enclave) → slot ≡ Some e → e.state ≢ Exited) → HasExited s n id → ⊥
put_exit s n k id slot above table rests x = both (id == k)
    (λ yes. rests x.1 (put_is s.table n.table k id slot x.1 table x.4 (eqb-true id k yes)) x.5)
    (λ no. other_exit s n k id slot above table (λ same. both_ways (id == k) no (eq-eqb id k same)) x)

-- the hart stays in its world, and all but who runs there keep their registers
pub stayed : (s n : MonitorState) (hart : ℕ) → n.worlds hart ≡ s.worlds hart → ((who : Runner) → who ≢ runner_on s hart → n.registers who ≡ s.registers who)
    → ((id : ℕ) → IsGone s n id → ⊥) → ((id : ℕ) → HasExited s n id → ⊥) → KeepsRegisters s hart n
stayed s n hart world kept none ended = record {
  gone = λ id g. absurd (none id g);
  exited = λ id x. absurd (ended id x);
  others = λ who before after live. kept who before;
  host = λ other at. absurd (other (sym world ∙ at));
  enclave = λ id other at. absurd (other (sym world ∙ at));
}

-- registers are put
pub putting_keeps_registers : (s n : MonitorState) (hart : ℕ) (file : RegisterFile) → n ≡ with_running s hart file → KeepsRegisters s hart n
putting_keeps_registers s n hart file is =
    stayed s n hart (ap (λ y. y.worlds hart) is) (λ who other. ap (λ y. y.registers who) is ∙ put_other s hart file who other)
    (λ id g. same_gone s n id (ap (λ y. y.table) is) g) (λ id x. same_exit s n id (ap (λ y. y.table) is) x)

-- nothing changed but marks
pub marking_keeps_registers : (s n : MonitorState) (hart : ℕ) → n.table ≡ s.table → n.worlds hart ≡ s.worlds hart → n.registers ≡ s.registers
    → KeepsRegisters s hart n
marking_keeps_registers s n hart table world registers = stayed s n hart world (λ who other. ap (λ f. f who) registers) (λ id g. same_gone s n id table g)
    (λ id x. same_exit s n id table x)

-- one more enclave
created : (s n : MonitorState) (hart id : ℕ) (table : EnclaveTable) (slot : Enclave) → 1 ≤ id → slot.state ≡ Fresh → table ≡ with_enclave s.table id (Some slot)
    → n ≡ marking_others (answering (record s { table = table }) hart 0 id) hart → KeepsRegisters s hart n
created s n hart id table slot above fresh added is =
    stayed s n hart (ap (λ y. y.worlds hart) is) (λ who other. ap (λ y. y.registers who) is ∙ put_other (record s { table = table }) hart _ who other)
    (λ k g. put_gone s n id k slot above (ap (λ y. y.table) is ∙ added) g)
    (λ k x. put_exit s n id k (Some slot) above (ap (λ y. y.table) is ∙ added)
    (λ e put over. let same = same_Some slot e put in let z : Fresh ≡ Exited = sym fresh ∙ ap (λ g. g.state) same ∙ over in cc) x)

-- one enclave fewer
destroyed : (s n : MonitorState) (hart id : ℕ) (table : EnclaveTable) (e : Enclave) → s.worlds hart ≡ Host → Live s.table id e
    → table ≡ with_enclave s.table id None
    → n ≡ marking_others (answering (with_registers (record s { table = table }) (EnclaveOf id) zeros) hart 0 0) hart → KeepsRegisters s hart n
destroyed s n hart id table e host live removed is = record {
  gone = λ k g.
      let same : k ≡ id = both (k == id) (eqb-true k id) (λ no. absurd (still k g (λ same. both_ways (k == id) no (eq-eqb k id same)))) in
      ap (λ y. y.registers (EnclaveOf k)) is ∙ put_other mid hart _ (EnclaveOf k) (λ z. let h : EnclaveOf k ≡ HostOf hart = z ∙ ap (runner_of hart) host in cc)
      ∙ ap (λ b. if b then zeros else s.registers (EnclaveOf k)) (eq-eqb k id same);
  exited = λ k x. absurd (put_exit s n id k None (live_above s.table.enclaves id e live) now (λ f put over. let z : None ≡ Some f = put in cc) x);
  others = λ who before after not.
      let other : who ≢ EnclaveOf id = λ same. not id same (
        e,
        live,
        ap (λ t. enclave_at t.enclaves id) now
            ∙ set_same s.table.enclaves id None (live_above s.table.enclaves id e live) (live_inside s.table.enclaves id e live),
      ) in
      ap (λ y. y.registers who) is ∙ put_other mid hart _ who before ∙ ap (λ b. if b then zeros else s.registers who) (same_not who (EnclaveOf id) other);
  host = λ other at. absurd (other host);
  enclave = λ k other at. absurd (other (sym (ap (λ y. y.worlds hart) is) ∙ at));
}
  where
    mid : MonitorState
    mid = with_registers (record s { table = table }) (EnclaveOf id) zeros

    now : n.table ≡ with_enclave s.table id None
    now = ap (λ y. y.table) is ∙ removed

    still : (k : ℕ) → IsGone s n k → k ≢ id → ⊥
    still k g other =
        let z : Some g.0 ≡ None = sym g.1 ∙ sym (set_other s.table.enclaves id k None (live_above s.table.enclaves id e live) other)
        ∙ ap (λ t. enclave_at t.enclaves k) (sym now) ∙ g.2 in cc

-- an enclave goes in
entered : (s n : MonitorState) (hart id : ℕ) (e slot : Enclave) → Live s.table id e → slot.state ≡ Running → n.worlds hart ≡ InEnclave id
    → n.table ≡ with_enclave s.table id (Some slot)
    → ((who : Runner) → who ≢ EnclaveOf id → n.registers who ≡ s.registers who) → GoesIn id e (s.registers (EnclaveOf id)) (n.registers (EnclaveOf id))
    → KeepsRegisters s hart n
entered s n hart id e slot live runs world table kept goes = record {
  gone = λ k g. absurd (put_gone s n id k slot (live_above s.table.enclaves id e live) table g);
  exited = λ k x. absurd (put_exit s n id k (Some slot) (live_above s.table.enclaves id e live) table
      (λ f put over. let same = same_Some slot f put in let z : Running ≡ Exited = sym runs ∙ ap (λ g. g.state) same ∙ over in cc) x);
  others = λ who before after not. kept who (λ same. after (same ∙ sym (ap (runner_of hart) world)));
  host = λ other at. let z : InEnclave id ≡ Host = sym world ∙ at in absurd cc;
  enclave = λ k other at.
      let both : InEnclave id ≡ InEnclave k = sym world ∙ at in
      let same : id ≡ k = cc in
      subst (λ j. (e : Enclave) × Live s.table j e × GoesIn j e (s.registers (EnclaveOf j)) (n.registers (EnclaveOf j))) same (e, live, goes);
}

-- the registers where the host goes on
back_there : (s : MonitorState) (hart first second : ℕ) (who : Runner) → (back_to_host s hart first second).registers who ≡
    (if is_same who (HostOf hart) then with_x (with_x (s.registers (HostOf hart)) 10 first) 11 second else s.registers who)
back_there s hart first second who =
    ap (λ b. let runner = runner_of hart (if b then Host else s.worlds hart) in if is_same who runner then with_x
    (with_x (s.registers runner) 10 first) 11 second else s.registers who) (eq-eqb hart hart refl)

-- the host comes back
left : (s mid n : MonitorState) (hart id first second : ℕ) (stage : Stage) (table : EnclaveTable) → Leaves s.table (s.worlds hart) stage id table
    → mid.table ≡ table → ((who : Runner) → who ≢ EnclaveOf id → mid.registers who ≡ s.registers who)
    → n ≡ back_to_host mid hart first second → ((file : RegisterFile) → file ≡ with_x (with_x (s.registers (HostOf hart)) 10 first) 11 second
    → ComesBack (s.registers (HostOf hart)) file) → (stage ≡ Exited → mid.registers (EnclaveOf id) ≡ zeros) → KeepsRegisters s hart n
left s mid n hart id first second stage table l now kept is says ends = record {
  gone = λ k g. absurd (put_gone s n id k _ (live_above s.table.enclaves id l.turned.0 l.turned.1) placed g);
  exited = λ k x. both (k == id)
      (λ yes.
      let same : k ≡ id = eqb-true k id yes in
      let put : record l.turned.0 { state = stage } ≡ x.1 = same_Some (record l.turned.0 { state = stage }) x.1
      (put_is s.table n.table id k (Some (record l.turned.0 { state = stage })) x.1 placed x.4 same) in
      ap (λ y. y.registers (EnclaveOf k)) is ∙ back_there mid hart first second (EnclaveOf k) ∙ ap (λ j. mid.registers (EnclaveOf j)) same
      ∙ ends (ap (λ e. e.state) put ∙ x.5))
      (λ no. absurd (other_exit s n id k _ (live_above s.table.enclaves id l.turned.0 l.turned.1) placed
      (λ same. both_ways (k == id) no (eq-eqb k id same)) x));
  others = λ who before after not.
      ap (λ y. y.registers who) is ∙ back_there mid hart first second who
      ∙ ap (λ b. if b then with_x (with_x (mid.registers (HostOf hart)) 10 first) 11 second else mid.registers who)
      (same_not who (HostOf hart) (λ same. after (same ∙ sym (ap (runner_of hart) world))))
      ∙ kept who (λ same. before (same ∙ sym (ap (runner_of hart) l.left)));
  host = λ other at. says (n.registers (HostOf hart))
      (ap (λ y. y.registers (HostOf hart)) is ∙ back_there mid hart first second (HostOf hart)
      ∙ ap (λ b. if b then with_x (with_x (mid.registers (HostOf hart)) 10 first) 11 second else mid.registers (HostOf hart)) (same_self (HostOf hart))
      ∙ ap (λ file. with_x (with_x file 10 first) 11 second) (kept (HostOf hart) (λ z. let h : HostOf hart ≡ EnclaveOf id = z in cc)));
  enclave = λ k other at. let z : Host ≡ InEnclave k = sym world ∙ at in absurd cc;
}
  where
    placed : n.table ≡ with_enclave s.table id (Some (record l.turned.0 { state = stage }))
    placed = ap (λ y. y.table) is ∙ now ∙ l.turned.2

    world : n.worlds hart ≡ Host
    world = ap (λ y. y.worlds hart) is ∙ ap (λ b. if b then Host else mid.worlds hart) (eq-eqb hart hart refl)

stopped : Stopped ≡ Exited → ⊥
stopped e = cc

-- a hart that goes to an enclave is there
there : (s n : MonitorState) (hart id : ℕ) → n.worlds hart ≡ (in_world s hart (InEnclave id)).worlds hart → n.worlds hart ≡ InEnclave id
there s n hart id is = is ∙ ap (λ b. if b then InEnclave id else s.worlds hart) (eq-eqb hart hart refl)

pub call_keeps_registers : (call : Option Call) (digests : Create → List ℕ) (s : MonitorState) (hart : ℕ) (answer : Answer) (zero : Option PageRange)
    (n : MonitorState) → DoesCall call digests s hart answer zero n → KeepsRegisters s hart n
call_keeps_registers None digests s hart answer zero n x = putting_keeps_registers s n hart _ x.state
call_keeps_registers (Some (calls.Create base text_pages data_pages shared_base shared_count entry_offset)) digests s hart answer zero n (inl x) =
    created s n hart x.0 x.1 _ x.2.next.free.0 refl x.2.added x.3.state
call_keeps_registers (Some (calls.Create base text_pages data_pages shared_base shared_count entry_offset)) digests s hart answer zero n
    (inr x) = putting_keeps_registers s n hart _ x.2.state
call_keeps_registers (Some (calls.Destroy id)) digests s hart answer zero n (inl x) =
    let g = x.2.passes.1.0 in destroyed s n hart id x.1 g.0 x.2.passes.0 g.1 x.2.removed x.3.state
call_keeps_registers (Some (calls.Destroy id)) digests s hart answer zero n (inr x) = putting_keeps_registers s n hart _ x.2.state
call_keeps_registers (Some (calls.Run id)) digests s hart answer zero n (inl x) =
    let file = first_registers id x.0.parts in
    entered s n hart id x.0 _ x.2 refl (there s n hart id (ap (λ y. y.worlds hart) x.4.state)) (ap (λ y. y.table) x.4.state ∙ x.3.turned.2)
    (λ who other. ap (λ y. y.registers who) x.4.state ∙ ap (λ b. if b then file else s.registers who) (same_not who (EnclaveOf id) other))
    (inl (
      x.3.passes.1.1.0 x.0 x.2,
      ap (λ y. y.registers (EnclaveOf id)) x.4.state
          ∙ ap (λ b. if b then file else s.registers (EnclaveOf id)) (same_self (EnclaveOf id)),
    ))
call_keeps_registers (Some (calls.Run id)) digests s hart answer zero n (inr x) = putting_keeps_registers s n hart _ x.2.state
call_keeps_registers (Some calls.Stop) digests s hart answer zero n (inl x) =
    left s (answering (record s { table = x.1 }) hart 0 0) n hart x.0 1 0 _ x.1 x.2 refl
    (λ who other. put_other (record s { table = x.1 }) hart _ who (λ same. other (same ∙ ap (runner_of hart) x.2.left))) x.3.state (λ file is. inl is)
    (λ e. absurd (stopped e))
call_keeps_registers (Some calls.Stop) digests s hart answer zero n (inr x) = putting_keeps_registers s n hart _ x.2.state
call_keeps_registers (Some (calls.Resume id)) digests s hart answer zero n (inl x) =
    entered s n hart id x.0 _ x.2 refl (there s n hart id (ap (λ y. y.worlds hart) x.4.state)) (ap (λ y. y.table) x.4.state ∙ x.3.turned.2)
    (λ who other. ap (λ y. y.registers who) x.4.state) (inr (x.3.passes.1.1.0 x.0 x.2, ap (λ y. y.registers (EnclaveOf id)) x.4.state))
call_keeps_registers (Some (calls.Resume id)) digests s hart answer zero n (inr x) = putting_keeps_registers s n hart _ x.2.state
call_keeps_registers (Some (calls.Exit value)) digests s hart answer zero n (inl x) =
    left s (with_registers (record s { table = x.1 }) (EnclaveOf x.0) zeros) n hart x.0 0 value _ x.1 x.2 refl
    (λ who other. ap (λ b. if b then zeros else s.registers who) (same_not who (EnclaveOf x.0) other)) x.3.state (λ file is. inr (value, is))
    (λ e. ap (λ b. if b then zeros else s.registers (EnclaveOf x.0)) (same_self (EnclaveOf x.0)))
call_keeps_registers (Some (calls.Exit value)) digests s hart answer zero n (inr x) = putting_keeps_registers s n hart _ x.2.state
call_keeps_registers (Some (calls.Measure id k)) digests s hart answer zero n (inl x) = putting_keeps_registers s n hart _ x.2.state
call_keeps_registers (Some (calls.Measure id k)) digests s hart answer zero n (inr x) = putting_keeps_registers s n hart _ x.2.state

pub interrupt_keeps_registers : (world : World) (s : MonitorState) (hart : ℕ) (n : MonitorState) → s.worlds hart ≡ world → Interrupts world s hart n
    → KeepsRegisters s hart n
interrupt_keeps_registers Host s hart n at x = marking_keeps_registers s n hart (ap (λ y. y.table) x) (ap (λ y. y.worlds hart) x) (ap (λ y. y.registers) x)
interrupt_keeps_registers (InEnclave id) s hart n at x =
    left s (record s { table = x.0 }) n hart id 1 0 _ x.0 (subst (λ w. Leaves s.table w Stopped id x.0) (sym at) x.1) refl (λ who other. refl) x.2
    (λ file is. inl is) (λ e. absurd (stopped e))

-- so it is of an event that first put the registers of the hart
pub put_before : (s n : MonitorState) (hart : ℕ) (file : RegisterFile) → KeepsRegisters (with_running s hart file) hart n → KeepsRegisters s hart n
put_before s n hart file k = record {
  gone = k.gone;
  exited = k.exited;
  others = λ who before after not. k.others who before after not ∙ put_other s hart file who before;
  host = λ other at. subst (λ kept. ComesBack kept (n.registers (HostOf hart)))
      (put_other s hart file (HostOf hart) (λ same. other (host_is hart (s.worlds hart) same))) (k.host other at);
  enclave = λ id other at.
      let goes = k.enclave id other at in (
        goes.0,
        goes.1,
        subst (λ kept. GoesIn id goes.0 kept (n.registers (EnclaveOf id)))
            (put_other s hart file (EnclaveOf id) (λ same. other (enclave_is hart id (s.worlds hart) same))) goes.2,
      );
}
  where
    host_is : (hart : ℕ) (world : World) → HostOf hart ≡ runner_of hart world → world ≡ Host
    host_is hart Host same = refl
    host_is hart (InEnclave id) same = absurd (let z : HostOf hart ≡ EnclaveOf id = same in cc)

    enclave_is : (hart id : ℕ) (world : World) → EnclaveOf id ≡ runner_of hart world → world ≡ InEnclave id
    enclave_is hart id Host same = absurd (let z : EnclaveOf id ≡ HostOf hart = same in cc)
    enclave_is hart id (InEnclave k) same = let z : id ≡ k = cc in ap InEnclave (sym z)
