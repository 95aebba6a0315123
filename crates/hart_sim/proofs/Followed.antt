-- After the monitor served an event on a hart, and the hart followed: the parts fit together, and the registers are those that the monitor says.
use Rattle.std.proofs.Common.{◌≡◌, ◌≢◌, ◌∙◌, ℕ, ◌==◌, Bool, true, false, List, [], ◌∷◌, Option, Some, slice_get, slice_set, refl, ap, sym, subst}
use Rattle.std.specs.Prelude.{option_map}
use Rattle.std.proofs.lemmas.Bool.{eqb-true, eq-eqb, both_ways}
use Rattle.pmp_encoding.specs.declared.bank.Bank.{Bank}
use Rattle.pmp_encoding.specs.Banks.{IsBankOf}
use Rattle.sbi_decode.specs.Registers.{RegisterFile, with_x}
use Rattle.sbi_decode.specs.Runners.{Runner, EnclaveOf, HostOf, runner_of}
use Rattle.sbi_decode.specs.declared.world.World.{World}
use Rattle.sbi_decode.specs.declared.world.World.TheVariants.{Host, Enclave as InEnclave}
use Rattle.context_switch.specs.declared.contexts.Contexts.{Contexts}
use Rattle.context_switch.specs.declared.hart.Hart.{Hart}
use Rattle.context_switch.specs.Harts.{number_of, bank_of, registers_of, with_registers}
use Rattle.enclave_table.specs.Views.{current_view}
use Rattle.monitor_core.specs.Cores.{core_kept, list_of, core_state, worlds_of}
use Rattle.sbi_decode.specs.Calls.{call_of}
use Rattle.measurement.specs.declared.request.Create.{Create}
use Rattle.pmp_encoding.specs.declared.pages.PageRange.{PageRange}
use Rattle.monitor_core.specs.declared.answer.Answer.{Answer}
use Rattle.monitor_core.specs.Changes.{past_call, with_running}
use Rattle.monitor_core.specs.States.{running_registers}
use Rattle.monitor_core.specs.Steps.{DoesCall, Interrupts}
use Rattle.monitor_core.proofs.Running.{call_there}
use Rattle.monitor_core.proofs.Switched.{call_keeps_registers, interrupt_keeps_registers, put_before}
use Rattle.monitor_core.specs.Frames.{KeepsOthers, LoadsAnew}
use Rattle.monitor_core.specs.SetChanges.{changed}
use Rattle.monitor_core.specs.Switches.{KeepsRegisters}
use Rattle.monitor_core.specs.declared.set_changes.SetChanges.{SetChanges}
use Rattle.monitor_core.specs.declared.steps.Core.{Core}
use Rattle.monitor_core.proofs.Cores.{core_alone, core_current}
use Rattle.monitor_core.proofs.Cases.{both}
use Rattle.monitor_core.proofs.Equal.{equal}
use Rattle.hart_sim.specs.declared.parts.MachineParts.{MachineParts}
use Rattle.hart_sim.specs.Banks.{LoadsFewest}
use Rattle.hart_sim.specs.Changes.{call_places, with_words}
use Rattle.hart_sim.specs.Follows.{Follows, Loads}
use Rattle.hart_sim.specs.Parts.{AreHarts, FitTogether, IsHart, bank_at, bank_in, core_in, registers_in}
use Rattle.hart_sim.proofs.BankPlaces.{put_here, put_there}
use Rattle.hart_sim.proofs.HartSets.{apart, harts_put, running_are}
use Rattle.hart_sim.proofs.SetsFollowed.{put_running, sets_followed}

in_enclave : (i : ℕ) (world : World) (id : ℕ) → runner_of i world ≡ EnclaveOf id → world ≡ InEnclave id
in_enclave i Host id is = absurd (let h : HostOf i ≡ EnclaveOf id = is in cc)
in_enclave i (InEnclave k) id is = let h : EnclaveOf k ≡ EnclaveOf id = is in let same : k ≡ id = cc in ap InEnclave same

-- what runs on another hart keeps its registers
elsewhere : (core now : Core) (sets after : Runner → RegisterFile) (hart i : ℕ) → i ≢ hart → worlds_of now i ≡ worlds_of core i
    → KeepsRegisters (core_state core sets) hart (core_state now after) → after (runner_of i (worlds_of core i)) ≡ sets (runner_of i (worlds_of core i))
elsewhere core now sets after hart i other stay keeps =
    keeps.others (runner_of i (worlds_of core i))
    (λ e. other (apart (worlds_of core) (core_alone core) i hart e))
    (λ e. other (apart (worlds_of now) (core_alone now) i hart (ap (runner_of i) stay ∙ e)))
    (λ id is gone. core_current now i id (stay ∙ in_enclave i (worlds_of core i) id is) gone.2)

-- a hart that followed is in the world that the monitor says
is_hart : (core now : Core) (sets after : Runner → RegisterFile) (before then_ : Contexts) (n : ℕ) (h k : Hart) (changes : SetChanges) (load : Bool)
    → IsHart h n (worlds_of core n) (core_kept core).table.layout.limit → LoadsAnew load (core_state core sets) (core_state now after) n
    → Follows now changes load h k before then_ → IsHart k n (worlds_of now n) (core_kept now).table.layout.limit
is_hart core now sets after before then_ n h k changes true is anew f = record {
  number = f.number ∙ is.number;
  world = (f.loaded refl).world ∙ ap (worlds_of now) is.number;
  limited = f.limited;
}
is_hart core now sets after before then_ n h k changes false is anew f = record {
  number = f.number ∙ is.number;
  world = (f.stays refl).0 ∙ is.world ∙ sym anew.1;
  limited = f.limited;
}

pub fit_after : (core now : Core) (sets after : Runner → RegisterFile) (harts : List Hart) (before then_ : Contexts) (n : ℕ) (h k : Hart)
    (changes : SetChanges) (load : Bool) → AreHarts harts (worlds_of core) (core_kept core).table.layout.limit → slice_get harts n ≡ Some h
    → (core_kept now).table.layout ≡ (core_kept core).table.layout → KeepsOthers (core_state core sets) (core_state now after) n
    → LoadsAnew load (core_state core sets) (core_state now after) n → Follows now changes load h k before then_
    → AreHarts (slice_set harts n k) (worlds_of now) (core_kept now).table.layout.limit
fit_after core now sets after harts before then_ n h k changes load fit at layout others anew f =
    harts_put harts (worlds_of core) (worlds_of now) (core_kept now).table.layout.limit n h k
    (subst (λ l. AreHarts harts (worlds_of core) l.limit) (sym layout) fit) at
    (is_hart core now sets after before then_ n h k changes load (fit.each n h at) anew f) others.worlds

pub sets_after : (core now : Core) (harts : List Hart) (before then_ : Contexts) (n : ℕ) (h k : Hart) (changes : SetChanges) (load : Bool)
    → (let sets = registers_in harts before in let after = changed n changes sets in
    AreHarts harts (worlds_of core) (core_kept core).table.layout.limit → slice_get harts n ≡ Some h
    → (core_kept now).table.layout ≡ (core_kept core).table.layout → KeepsOthers (core_state core sets) (core_state now after) n
    → LoadsAnew load (core_state core sets) (core_state now after) n → Follows now changes load h k before then_
    → KeepsRegisters (core_state core sets) n (core_state now after)
    → registers_in (slice_set harts n k) then_ ≡ after)
sets_after core now harts before then_ n h k changes load fit at layout others anew f keeps =
    let sets = registers_in harts before in
    let after = changed n changes sets in
    let limit = (core_kept now).table.layout.limit in
    let same = sets_followed harts (slice_set harts n k) (worlds_of core) (worlds_of now) limit before then_ n h k changes
    (subst (λ l. AreHarts harts (worlds_of core) l.limit) (sym layout) fit)
    (fit_after core now sets after harts before then_ n h k changes load fit at layout others anew f) (core_alone core) (core_alone now) at refl
    (put_here harts n h k at)
    (λ who. f.sets who ∙ ap (λ m. changed m changes (registers_in (h ∷ []) before) who) (fit.each n h at).number)
    (λ i other b there. elsewhere core now sets after n i other (others.worlds i other) keeps) in
    λ i who. same who i

-- the banks where another hart is put in its place
pub bank_there : (harts : List Hart) (n i : ℕ) (now : Hart) → i ≢ n → bank_at (slice_set harts n now) i ≡ bank_at harts i
bank_there harts n i now other = ap (option_map bank_of) (put_there harts n i now other)

pub bank_here : (harts : List Hart) (n : ℕ) (h now : Hart) → slice_get harts n ≡ Some h → bank_at (slice_set harts n now) n ≡ Some (bank_of now)
bank_here harts n h now at = ap (option_map bank_of) (put_here harts n h now at)

same_banks : (harts : List Hart) (n i : ℕ) (h now : Hart) → slice_get harts n ≡ Some h → bank_of now ≡ bank_of h
    → bank_at (slice_set harts n now) i ≡ bank_at harts i
same_banks harts n i h now at same = both (i == n)
    (λ e.
    let is : i ≡ n = eqb-true i n e in
    ap (bank_at (slice_set harts n now)) is ∙ bank_here harts n h now at ∙ ap Some same ∙ sym (ap (option_map bank_of) at) ∙ sym (ap (bank_at harts) is))
    (λ e. bank_there harts n i now (λ is. both_ways (i == n) e (eq-eqb i n is)))

-- the registers that run on a hart
pub running_in : (parts : MachineParts) (n : ℕ) (h : Hart) → FitTogether parts → slice_get parts.harts n ≡ Some h
    → running_registers (core_in parts) n ≡ registers_of h
running_in parts n h fit at = running_are parts.harts (worlds_of parts.core) (core_kept parts.core).table.layout.limit parts.contexts n h fit
    (core_alone parts.core) at

-- a hart whose registers alone changed
pub record PutThere (old : MachineParts) (harts : List Hart) (hart : ℕ) (file : RegisterFile) : Type 0 where
  pub fit : AreHarts harts (worlds_of old.core) (core_kept old.core).table.layout.limit
  pub state : core_state old.core (registers_in harts old.contexts) ≡ with_running (core_in old) hart file
  pub banks : (i : ℕ) → bank_at harts i ≡ bank_in old i

pub put_there_is : (old : MachineParts) (hart : ℕ) (h now : Hart) (file : RegisterFile) → FitTogether old → slice_get old.harts hart ≡ Some h
    → now ≡ with_registers h file → PutThere old (slice_set old.harts hart now) hart file
put_there_is old hart h now file fit at is =
    let new = with_registers h file in
    let each = fit.each hart h at in
    let limit = (core_kept old.core).table.layout.limit in
    let now_fit = harts_put old.harts (worlds_of old.core) (worlds_of old.core) limit hart h new fit at
    (record { number = each.number; world = each.world; limited = each.limited }) (λ i other. refl) in
    subst (λ x. PutThere old (slice_set old.harts hart x) hart file) (sym is) (record {
      fit = now_fit;
      state = equal (record {
        table = refl;
        worlds = λ i. refl;
        registers = put_running old.harts (worlds_of old.core) limit old.contexts hart h file fit now_fit (core_alone old.core) at
            (put_here old.harts hart h new at);
        marked = λ i. refl;
      });
      banks = λ i. same_banks old.harts hart i h new at refl;
    })

-- what a hart that loaded has
pub loaded_bank : (core : Core) (h k : Hart) (n : ℕ) → number_of h ≡ n → Loads core h k
    → LoadsFewest (bank_of k) (current_view (core_kept core).table (worlds_of core n))
    × IsBankOf (bank_of k) (bank_of k).limit (list_of (core_kept core) (worlds_of core n))
loaded_bank core h k n number loads =
    subst (λ m. LoadsFewest (bank_of k) (current_view (core_kept core).table (worlds_of core m))
    × IsBankOf (bank_of k) (bank_of k).limit (list_of (core_kept core) (worlds_of core m))) number (
      record {
        list = list_of (core_kept core) (worlds_of core (number_of h));
        loaded = loads.list;
        fewest = loads.fewest;
        exact = loads.exact;
      },
      loads.exact,
    )

-- all of it: the harts and registers after an event on a hart that the monitor served
pub record Following (core now : Core) (harts : List Hart) (before then_ : Contexts) (n : ℕ) (k : Hart) (changes : SetChanges) (load : Bool) : Type 0 where
  pub fit : AreHarts (slice_set harts n k) (worlds_of now) (core_kept now).table.layout.limit
  pub state : core_state now (registers_in (slice_set harts n k) then_) ≡ core_state now (changed n changes (registers_in harts before))
  pub others : (i : ℕ) → i ≢ n → bank_at (slice_set harts n k) i ≡ bank_at harts i
  pub loaded : load ≡ true → (bank : Bank) × (bank_at (slice_set harts n k) n ≡ Some bank)
      × LoadsFewest bank (current_view (core_kept now).table (worlds_of now n))
  pub own : load ≡ true → (bank : Bank) × (bank_at (slice_set harts n k) n ≡ Some bank)
      × IsBankOf bank bank.limit (list_of (core_kept now) (worlds_of now n))
  pub calm : load ≡ false → bank_at (slice_set harts n k) n ≡ bank_at harts n

pub followed : (core now : Core) (harts : List Hart) (before then_ : Contexts) (n : ℕ) (h k : Hart) (changes : SetChanges) (load : Bool)
    → (let sets = registers_in harts before in let after = changed n changes sets in
    AreHarts harts (worlds_of core) (core_kept core).table.layout.limit → slice_get harts n ≡ Some h
    → (core_kept now).table.layout ≡ (core_kept core).table.layout → KeepsOthers (core_state core sets) (core_state now after) n
    → LoadsAnew load (core_state core sets) (core_state now after) n → Follows now changes load h k before then_
    → KeepsRegisters (core_state core sets) n (core_state now after)
    → Following core now harts before then_ n k changes load)
followed core now harts before then_ n h k changes load fit at layout others anew f keeps = record {
  fit = fit_after core now (registers_in harts before) (changed n changes (registers_in harts before)) harts before then_ n h k changes load fit at layout
      others anew f;
  state = ap (core_state now) (sets_after core now harts before then_ n h k changes load fit at layout others anew f keeps);
  others = λ i other. bank_there harts n i k other;
  loaded = λ on. (bank_of k, bank_here harts n h k at, (loaded_bank now h k n (fit.each n h at).number (f.loaded on)).0);
  own = λ on. (bank_of k, bank_here harts n h k at, (loaded_bank now h k n (fit.each n h at).number (f.loaded on)).1);
  calm = λ off. bank_here harts n h k at ∙ ap Some (f.stays off).1 ∙ sym (ap (option_map bank_of) at);
}

-- the words of a call that are put on a hart
pub words_put : (old : MachineParts) (hart : ℕ) (h now : Hart) (words : List ℕ) → FitTogether old → slice_get old.harts hart ≡ Some h
    → now ≡ with_registers h (with_words (registers_of h) call_places words)
    → PutThere old (slice_set old.harts hart now) hart (with_words (running_registers (core_in old) hart) call_places words)
words_put old hart h now words fit at is = put_there_is old hart h now (with_words (running_registers (core_in old) hart) call_places words) fit at
    (is ∙ ap (λ f. with_registers h (with_words f call_places words)) (sym (running_in old hart h fit at)))

-- a call that the monitor served, and that the hart followed
pub call_followed : (old : MachineParts) (core : Core) (harts : List Hart) (then_ : Contexts) (hart : ℕ) (m k : Hart) (file : RegisterFile)
    (changes : SetChanges)
    (load : Bool) (digests : Create → List ℕ) (answer : Answer) (zero : Option PageRange) → PutThere old harts hart file → slice_get harts hart ≡ Some m
    → (core_kept core).table.layout ≡ (core_kept old.core).table.layout
    → ((before after : Runner → RegisterFile) → KeepsOthers (core_state old.core before) (core_state core after) hart)
    → ((before after : Runner → RegisterFile) → LoadsAnew load (core_state old.core before) (core_state core after) hart)
    → Follows core changes load m k old.contexts then_
    → (let s = core_state old.core (registers_in harts old.contexts) in let there = past_call (running_registers s hart) in
    DoesCall (call_of there) digests (with_running s hart there) hart answer zero (core_state core (changed hart changes (registers_in harts old.contexts))))
    → Following old.core core harts old.contexts then_ hart k changes load
    × DoesCall (call_of (past_call file)) digests (with_running (core_in old) hart (past_call file)) hart answer zero
    (core_state core (registers_in (slice_set harts hart k) then_))
call_followed old core harts then_ hart m k file changes load digests answer zero put at layout others anew f does =
    let sets = registers_in harts old.contexts in
    let s = core_state old.core sets in
    let there = past_call (running_registers s hart) in
    let new = core_state core (changed hart changes sets) in
    let keeps = put_before s new hart there (call_keeps_registers (call_of there) digests (with_running s hart there) hart answer zero new does) in
    let following = followed old.core core harts old.contexts then_ hart m k changes load put.fit at layout
    (others sets (changed hart changes sets)) (anew sets (changed hart changes sets)) f keeps in (
      following,
      subst (λ n. DoesCall (call_of (past_call file)) digests (with_running (core_in old) hart (past_call file)) hart answer zero n) (sym following.state)
          (call_there (core_in old) s new hart file digests answer zero put.state does),
    )

-- a register that is set on a hart
pub register_put : (old : MachineParts) (hart : ℕ) (h now : Hart) (n value : ℕ) → FitTogether old → slice_get old.harts hart ≡ Some h
    → now ≡ with_registers h (with_x (registers_of h) n value)
    → PutThere old (slice_set old.harts hart now) hart (with_x (running_registers (core_in old) hart) n value)
register_put old hart h now n value fit at is = put_there_is old hart h now (with_x (running_registers (core_in old) hart) n value) fit at
    (is ∙ ap (λ f. with_registers h (with_x f n value)) (sym (running_in old hart h fit at)))

-- an interrupt that the monitor served, and that the hart followed
pub interrupt_followed : (old : MachineParts) (core : Core) (then_ : Contexts) (hart : ℕ) (m k : Hart) (changes : SetChanges) (load : Bool) → FitTogether old
    → slice_get old.harts hart ≡ Some m → (core_kept core).table.layout ≡ (core_kept old.core).table.layout
    → ((before after : Runner → RegisterFile) → KeepsOthers (core_state old.core before) (core_state core after) hart)
    → ((before after : Runner → RegisterFile) → LoadsAnew load (core_state old.core before) (core_state core after) hart)
    → Follows core changes load m k old.contexts then_
    → Interrupts (worlds_of old.core hart) (core_in old) hart (core_state core (changed hart changes (registers_in old.harts old.contexts)))
    → Following old.core core old.harts old.contexts then_ hart k changes load
    × Interrupts (worlds_of old.core hart) (core_in old) hart (core_state core (registers_in (slice_set old.harts hart k) then_))
interrupt_followed old core then_ hart m k changes load fit at layout others anew f does =
    let sets = registers_in old.harts old.contexts in
    let after = changed hart changes sets in
    let following = followed old.core core old.harts old.contexts then_ hart m k changes load fit at layout (others sets after) (anew sets after) f
    (interrupt_keeps_registers (worlds_of old.core hart) (core_in old) hart (core_state core after) refl does) in (
      following,
      subst (Interrupts (worlds_of old.core hart) (core_in old) hart) (sym following.state) does,
    )
