-- What one trap keeps that was served.
use Rattle.std.proofs.Common.{◌≡◌, ◌≢◌, ◌∙◌, ◌<◌, ◌≤◌, ◌||◌, ◌⊎◌, inl, inr, ℕ, zero, suc, pos, true, false, List, Option, Some, None, IfSome}
use Rattle.std.proofs.Common.{slice_index_or, refl, ap, sym, subst, arith}
use Rattle.pmp_encoding.specs.Views.{SameView}
use Rattle.pmp_encoding.specs.declared.pages.PageRange.{PageRange}
use Rattle.measurement.specs.declared.request.Create.{Create}
use Rattle.measurement.specs.Requests.{is_shared}
use Rattle.sbi_decode.specs.Calls.{call_of}
use Rattle.sbi_decode.specs.Registers.{RegisterFile}
use Rattle.sbi_decode.specs.Runners.{EnclaveOf}
use Rattle.sbi_decode.specs.declared.world.World.{World}
use Rattle.sbi_decode.specs.declared.world.World.TheVariants.{Host}
use Rattle.platforms.specs.CheckLists.{AllPass}
use Rattle.enclave_table.specs.Checks.{create_checks}
use Rattle.enclave_table.specs.Enclaves.{EnclaveTable, Live, enclave_at}
use Rattle.enclave_table.specs.Refusals.{refusal_number}
use Rattle.enclave_table.specs.Tables.{IsTable}
use Rattle.enclave_table.specs.Views.{current_view}
use Rattle.enclave_table.specs.declared.refusal.Refusal.{Refusal}
use Rattle.enclave_table.specs.declared.refusal.Refusal.TheVariants.{NoEntries, NoMemory}
use Rattle.enclave_table.proofs.Places.{live_above, live_inside, set_same}
use Rattle.monitor_core.specs.Answers.{below_zero}
use Rattle.monitor_core.specs.Changes.{past_call, with_running}
use Rattle.monitor_core.specs.Frames.{ClearsMemory, KeepsOthers}
use Rattle.monitor_core.specs.Measured.{IsMade, asked_in}
use Rattle.monitor_core.specs.States.{MonitorState, running_registers}
use Rattle.monitor_core.specs.declared.set_changes.SetChanges.{SetChanges}
use Rattle.monitor_core.specs.Switches.{HasExited, KeepsRegisters, runner_on}
use Rattle.monitor_core.specs.Wants.{IsRefusedByNeed}
use Rattle.monitor_core.specs.Worlds.{ArePlaced}
use Rattle.monitor_core.specs.declared.answer.Answer.{Answer}
use Rattle.monitor_core.proofs.Cleared.{call_clears_memory}
use Rattle.monitor_core.proofs.Others.{others_call, others_irq}
use Rattle.monitor_core.proofs.Put.{put_there}
use Rattle.monitor_core.proofs.Switched.{call_keeps_registers, interrupt_keeps_registers, put_before}
use Rattle.monitor_core.proofs.Wanted.{call_refused_by_need}
use Rattle.monitor_core.proofs.Layouts.{call_keeps_layout, interrupt_keeps_layout}
use Rattle.monitor_core.proofs.SoundTables.{call_keeps_table}
use Rattle.monitor_core.proofs.WorldsKept.{call_keeps_worlds, interrupt_keeps_worlds, putting_keeps_worlds}
use Rattle.monitor_core.proofs.Zeroed as zeroed
use Rattle.monitor_core.proofs.Zeroed.{Clears, lost_call, lost_irq}
use Rattle.trap_server.specs.declared.trap.TrapEvent.{TrapEvent}
use Rattle.trap_server.specs.declared.trap.TrapEvent.TheVariants.{Call, Stop}
use Rattle.trap_server.specs.declared.trap.Trap.{Trap}
use Rattle.trap_server.specs.declared.answer.NewLists.TheVariants as lists
use Rattle.trap_server.specs.Answered.{marks_of, new_lists, no_answer, unmarked}
use Rattle.trap_server.specs.Firmware.{AreDestroyed, AreThose, AsksMemory, IsThere, KeepsTrap, called, is_new, private_pages}
use Rattle.trap_server.specs.Service.{AsksFor, ServesAs, ServesCall, ServesStop}
use Rattle.trap_server.proofs.ListsKept.{Keeps, call_keeps, irq_keeps, made_by_lists}
use Rattle.trap_server.proofs.Remeasured.{call_remeasured, made_passes}
use Rattle.trap_server.proofs.Served.{mark_at}
use Rattle.trap_server.proofs.RegistersCame.{Through, call_through, interrupt_through}
use Rattle.trap_server.proofs.WorldsStay.{call_elsewhere, interrupt_elsewhere}

-- the private pages of an enclave that was made are memory, by its checks
made_memory : (table : EnclaveTable) (world : World) (parts : Create) → AllPass (create_checks table world parts)
    → ClearsMemory table.layout (private_pages parts)
made_memory table world parts pass =
    let ends = pass.1.1.0.private.1 in
    record {
      inside = omega (arith, ends);
      in_ram = λ page is. pass.1.1.1.1.0 page (ap (λ b. b || is_shared parts page) is);
      not_monitor = λ page is. (pass.1.1.1.1.1.0.owned page (ap (λ b. b || is_shared parts page) is)).0;
    }

asks_memory :
    (asked : Option Create) (answer : Answer) (table : EnclaveTable) (world : World) (question read digest : List ℕ) → AsksFor asked answer question read digest
    → ((parts : Create) → IsMade asked answer parts → AllPass (create_checks table world parts)) → AsksMemory table.layout question read
asks_memory asked answer table world question read digest (inl none) pass = inl (none.0, none.1)
asks_memory asked answer table world question read digest (inr some) pass =
    let parts = some.0 in
    inr (private_pages parts, some.3, made_memory table world parts (pass parts some.1), some.2, some.4)

-- of harts that are woken only the marks change
not_marked : (s : MonitorState) (hart harts : ℕ) → hart < harts → harts ≤ 4 → slice_index_or (marks_of s) hart false ≡ false → s.marked hart ≡ false
not_marked s zero harts low most is = is
not_marked s (suc zero) harts low most is = is
not_marked s (suc (suc zero)) harts low most is = is
not_marked s (suc (suc (suc zero))) harts low most is = is
not_marked s (suc (suc (suc (suc n)))) harts low most is = absurd (omega (arith, low, most))

woken_registers : (s mid new : MonitorState) (hart : ℕ) → new ≡ unmarked 4 mid → KeepsRegisters s hart mid → KeepsRegisters s hart new
woken_registers s mid new hart woken k =
    let all : KeepsRegisters s hart (unmarked 4 mid) = record { gone = k.gone; exited = k.exited; others = k.others; host = k.host; enclave = k.enclave } in
    subst (KeepsRegisters s hart) (sym woken) all

woken_others :
    (s mid new : MonitorState) (hart : ℕ) → new ≡ unmarked 4 mid → s.table.layout.harts ≤ 4 → KeepsOthers s mid hart → (other : ℕ) → other ≢ hart
    → other < s.table.layout.harts → slice_index_or (marks_of mid) other false ≡ false
    → SameView (current_view s.table (s.worlds other)) (current_view new.table (new.worlds other))
woken_others s mid new hart woken most keeps other differs low off =
    subst (λ (y : MonitorState). SameView (current_view s.table (s.worlds other)) (current_view y.table (y.worlds other))) (sym woken)
    (keeps.views other differs low (not_marked mid other s.table.layout.harts low most off))

-- a world that is there after the harts were woken was there before, and its view stays
woken_keeps : (s mid new : MonitorState) (world : World) → new ≡ unmarked 4 mid → (IsThere mid.table world → Keeps s.table mid.table world)
    → IsThere new.table world → Keeps s.table new.table world
woken_keeps s mid new world woken keeps there = subst (λ (y : MonitorState). Keeps s.table y.table world) (sym woken)
    (keeps (subst (λ (y : MonitorState). IsThere y.table world) woken there))

-- who is woken runs the host
woken_hosts :
    (s mid new : MonitorState) (other : ℕ) → new ≡ unmarked 4 mid → mid.table.layout ≡ s.table.layout → ArePlaced mid → other < s.table.layout.harts
    → slice_index_or (marks_of mid) other false ≡ true → new.worlds other ≡ Host
woken_hosts s mid new other woken layout placed low on = ap (λ (y : MonitorState). y.worlds other) woken
    ∙ placed.marked other (subst (λ l. other < l.harts) (sym layout) low) (mark_at mid other on)

-- pages that are to be made zero are those of an enclave that is gone
destroyed :
    (s mid new : MonitorState) (wiped : Option PageRange) → new ≡ unmarked 4 mid → IfSome wiped (λ range. ClearsMemory s.table.layout range)
    → (wiped ≡ None) ⊎ ((range : PageRange) × (wiped ≡ Some range) × Clears s mid range) → IfSome wiped (AreDestroyed s new)
destroyed s mid new wiped woken memory (inl none) = subst (λ o. IfSome o (AreDestroyed s new)) (sym none) tt
destroyed s mid new wiped woken memory (inr some) =
    let c = some.2 in
    let clears : ClearsMemory s.table.layout some.0 = subst (λ o. IfSome o (λ range. ClearsMemory s.table.layout range)) some.1 memory in
    let none : enclave_at new.table.enclaves c.id ≡ None =
    ap (λ (y : MonitorState). enclave_at y.table.enclaves c.id) woken ∙ ap (λ (t : EnclaveTable). enclave_at t.enclaves c.id) c.table
    ∙ set_same s.table.enclaves c.id None (live_above s.table.enclaves c.id c.enclave c.live) (live_inside s.table.enclaves c.id c.enclave c.live) in
    subst (λ o. IfSome o (AreDestroyed s new)) (sym some.1) (clears, (c.id, (c.enclave, c.live, none), c.own))

-- a call leaves the registers that came, past it
past : (came file now : RegisterFile) → file ≡ past_call came → Through file now → AreThose Call came now
past came file now is through = subst (λ f. Through f now) is through

-- what every trap has, before which the table was sound and each enclave on one hart
pub record IsReady (s : MonitorState) (hart : ℕ) : Type 0 where
  pub known : hart < s.table.layout.harts
  pub awake : s.marked hart ≡ false
  pub most : s.table.layout.harts ≤ 4
  pub table : IsTable s.table
  pub placed : ArePlaced s

call_kept :
    (s : MonitorState) (trap : Trap) (changes : SetChanges) (read question answered : List ℕ)
    (new : MonitorState) → IsReady s trap.hart → call_of (running_registers s trap.hart) ≡ call_of trap.registers → trap.event ≡ Call
    → ServesCall s trap changes read question answered new → KeepsTrap s trap changes read question answered new
call_kept s trap changes read question answered new ready there is x =
    let hart = trap.hart in
    let came = running_registers s hart in
    let file = past_call came in
    let call = call_of file in
    let t = with_running s hart file in
    let me = runner_on s hart in
    let placed = putting_keeps_worlds s hart file ready.placed in
    let a = x.answers in
    let lists = new_lists (asked_in (call_of trap.registers)) x.answer a.cleared in
    let Refused = λ (e : TrapEvent). IsRefusedByNeed (called e trap.registers) s.table (s.worlds hart)
    (λ refusal. x.answer.status ≡ below_zero (refusal_number refusal)) in
    record {
      answer = x.answer;
      cleared = a.cleared;
      woken = marks_of a.mid;
      lists = lists;
      says = a.goes_on;
      made = λ is.
          let m = made_by_lists (asked_in call) x.answer a.cleared (ap (λ c. new_lists (asked_in c) x.answer a.cleared) there ∙ is) in
          let sound = call_keeps_table call (λ parts. x.digest) t hart x.answer a.cleared a.mid a.step ready.table in
          let r = call_remeasured call x.digest t hart x.answer a.cleared a.mid m.0 sound a.step m.1 in
          (r.0, subst (λ (y : MonitorState). Live y.table x.answer.value r.0) (sym a.woken) r.1);
      keeps = λ world here off. woken_keeps t a.mid new world a.woken
          (λ is. call_keeps call (λ parts. x.digest) t hart x.answer a.cleared a.mid world a.step is
          (subst (λ c. is_new (new_lists (asked_in c) x.answer a.cleared) x.answer.value world ≡ false) (sym there) off)) here;
      wakes = λ other low on. woken_hosts t a.mid new other a.woken (call_keeps_layout call (λ parts. x.digest) t hart x.answer a.cleared a.mid a.step)
          (call_keeps_worlds call (λ parts. x.digest) t hart x.answer a.cleared a.mid ready.known ready.awake a.step placed) low on;
      need = subst Refused (sym is) (subst (λ c. IsRefusedByNeed c s.table (s.worlds hart) (λ refusal. x.answer.status ≡ below_zero (refusal_number refusal)))
          there (call_refused_by_need call (λ parts. x.digest) t hart x.answer a.cleared a.mid ready.table a.step));
      asks = asks_memory (asked_in (call_of trap.registers)) x.answer s.table (s.worlds hart) question read x.digest x.asks
          (λ parts made. made_passes call (λ of. x.digest) t hart x.answer a.cleared a.mid parts a.step
          (subst (λ c. IsMade (asked_in c) x.answer parts) (sym there) made));
      zeroes = destroyed t a.mid new a.cleared a.woken (call_clears_memory call (λ parts. x.digest) t hart x.answer a.cleared a.mid ready.table a.step)
          (zeroed.cleared call (λ parts. x.digest) t hart x.answer a.cleared a.mid a.step);
      destroys = λ id gone. lost_call call (λ parts. x.digest) t hart x.answer a.cleared a.mid id gone.0 gone.1
          (sym (ap (λ (y : MonitorState). enclave_at y.table.enclaves id) a.woken) ∙ gone.2) a.step;
      stays = λ other differs. ap (λ (y : MonitorState). y.worlds other) a.woken
          ∙ call_elsewhere call (λ parts. x.digest) t hart x.answer a.cleared a.mid other differs a.step;
      others = woken_others t a.mid new hart a.woken ready.most (others_call call
          (λ parts. x.digest) t hart x.answer a.cleared a.mid ready.known placed a.step);
      registers = woken_registers s a.mid new hart a.woken (put_before s a.mid hart file
          (call_keeps_registers call (λ parts. x.digest) t hart x.answer a.cleared a.mid a.step));
      came = λ none.
          let lived = λ (id : ℕ) (mine : me ≡ EnclaveOf id) (over : HasExited t a.mid id). none id mine
          (subst (λ (y : MonitorState). HasExited s y id) (sym a.woken) over) in
          let through = call_through call (λ parts. x.digest) t hart x.answer a.cleared a.mid (placed.current hart ready.known) a.step lived in
          subst (λ (e : TrapEvent). AreThose e came (new.registers me)) (sym is)
          (subst (λ (y : MonitorState). AreThose Call came (y.registers me)) (sym a.woken) (past came _ _ (put_there s hart file) through));
    }

-- what is no call is refused by no number
none_refused : (refusal : Refusal) → no_answer.status ≡ below_zero (refusal_number refusal) → ⊥
none_refused refusal is = let z : pos 0 ≡ below_zero (refusal_number refusal) = is in cc

stop_kept :
    (s : MonitorState) (trap : Trap) (changes : SetChanges) (read question answered : List ℕ)
    (new : MonitorState) → IsReady s trap.hart → trap.event ≡ Stop
    → ServesStop s trap changes read question answered new → KeepsTrap s trap changes read question answered new
stop_kept s trap changes read question answered new ready is x =
    let hart = trap.hart in
    let t = s in
    let me = runner_on s hart in
    let world = s.worlds hart in
    let placed = ready.placed in
    let Refused = λ (e : TrapEvent).
    IsRefusedByNeed (called e trap.registers) s.table world (λ refusal. no_answer.status ≡ below_zero (refusal_number refusal)) in
    record {
      answer = no_answer;
      cleared = None;
      woken = marks_of x.mid;
      lists = lists.Nothing;
      says = x.goes_on;
      made = λ is. let z : lists.Nothing ≡ lists.HostAndMade = is in absurd cc;
      keeps = λ world there off. woken_keeps t x.mid new world x.woken (irq_keeps (s.worlds hart) t hart x.mid world x.step) there;
      wakes = λ other low on. woken_hosts t x.mid new other x.woken (interrupt_keeps_layout world t hart x.mid x.step)
          (interrupt_keeps_worlds world t hart x.mid refl ready.known ready.awake x.step placed) low on;
      need = subst Refused (sym is) (record {
        entries = λ said. absurd (none_refused NoEntries said);
        outgrown = λ pass out. absurd pass;
        memory = λ said.
            absurd (none_refused NoMemory said);
      });
      asks = inl (x.nothing_asked, x.nothing_read);
      zeroes = tt;
      destroys = λ id gone. absurd (lost_irq world t hart x.mid id gone.0 gone.1
          (sym (ap (λ (y : MonitorState). enclave_at y.table.enclaves id) x.woken) ∙ gone.2) x.step);
      stays = λ other differs. ap (λ (y : MonitorState). y.worlds other) x.woken ∙ interrupt_elsewhere world t hart x.mid other differs x.step;
      others = woken_others t x.mid new hart x.woken ready.most (others_irq world t hart x.mid refl ready.known placed x.step);
      registers = woken_registers s x.mid new hart x.woken (interrupt_keeps_registers world t hart x.mid refl x.step);
      came = λ none. subst (λ (e : TrapEvent). AreThose e (running_registers s hart) (new.registers me)) (sym is)
          (ap (λ (y : MonitorState). y.registers me) x.woken ∙ interrupt_through world t hart x.mid refl x.step);
    }

by_event :
    (event : TrapEvent) (s : MonitorState) (trap : Trap) (changes : SetChanges)
    (read question answered : List ℕ) (new : MonitorState) → IsReady s trap.hart → call_of (running_registers s trap.hart) ≡ call_of trap.registers
    → trap.event ≡ event
    → ServesAs event s trap changes read question answered new → KeepsTrap s trap changes read question answered new
by_event Call s trap changes read question answered new ready there is x =
    call_kept s trap changes read question answered new ready there is x
by_event Stop s trap changes read question answered new ready there is x =
    stop_kept s trap changes read question answered new ready is x

pub trap_kept :
    (s : MonitorState) (trap : Trap) (changes : SetChanges) (read question answered : List ℕ) (new : MonitorState)
    → IsReady s trap.hart → call_of (running_registers s trap.hart) ≡ call_of trap.registers
    → ServesAs trap.event s trap changes read question answered new → KeepsTrap s trap changes read question answered new
trap_kept s trap changes read question answered new ready there x =
    by_event trap.event s trap changes read question answered new ready there refl x
