-- A call or an interrupt on two states of the monitor that differ in what runs on other harts alone.
use Rattle.std.proofs.Common.{◌≡◌, ◌≢◌, ◌∙◌, inl, inr, ℕ, ◌+◌, ◌<◌, ◌==◌, Bool, true, false, if◌then◌else◌, List, [], Option, Some, None, refl, ap, sym, subst}
use Rattle.std.proofs.lemmas.Bool.{eq-eqb, ne_eqb}
use Rattle.pmp_encoding.specs.declared.pages.PageRange.{PageRange}
use Rattle.measurement.specs.Requests.{parts_of}
use Rattle.measurement.specs.declared.request.Create.{Create}
use Rattle.sbi_decode.specs.Registers.{RegisterFile, with_x, zeros}
use Rattle.sbi_decode.specs.Runners.{Runner, HostOf, EnclaveOf, runner_of}
use Rattle.sbi_decode.specs.declared.calls.Call.{Call}
use Rattle.sbi_decode.specs.declared.calls.Call.TheVariants as calls
use Rattle.sbi_decode.specs.declared.world.World.{World}
use Rattle.sbi_decode.specs.declared.world.World.TheVariants.{Host, Enclave as InEnclave}
use Rattle.enclave_table.specs.Enclaves.{EnclaveTable}
use Rattle.enclave_table.specs.Tables.{IsCurrent}
use Rattle.enclave_table.proofs.Places.{live_above}
use Rattle.monitor_core.specs.Answers.{world_number}
use Rattle.monitor_core.specs.Changes.{answering, back_to_host, first_registers, in_world, is_same, marking_others, past_call, with_registers, with_running}
use Rattle.monitor_core.specs.SetChanges.{change, changed, no_change, owner_of, with_set}
use Rattle.monitor_core.specs.declared.set_changes.ChangeKind.TheVariants as kinds
use Rattle.monitor_core.specs.declared.set_changes.SetChange.{SetChange}
use Rattle.monitor_core.specs.declared.set_changes.SetChanges.{SetChanges}
use Rattle.monitor_core.proofs.Said.{answered_is, back_said, begun_is, cleared_is, owner_is, passed_is}
use Rattle.trap_server.specs.Sets.{with_sets}
use Rattle.monitor_core.specs.Measured.{asked_in}
use Rattle.monitor_core.specs.States.{MonitorState, running_registers}
use Rattle.monitor_core.specs.Steps.{DoesCall, Interrupts}
use Rattle.monitor_core.specs.declared.answer.Answer.{Answer}

-- who runs on no other hart of so many
abbrev pub IsElsewhere : ℕ → (ℕ → World) → ℕ → Runner → Type 0
IsElsewhere harts worlds hart who = (other : ℕ) → other < harts → other ≢ hart → who ≢ runner_of other (worlds other)

-- the same table and worlds, and the same registers of each that runs on no other hart
pub record Follows (harts hart : ℕ) (s t : MonitorState) : Type 0 where
  pub table : t.table ≡ s.table
  pub worlds : t.worlds ≡ s.worlds
  pub registers : (who : Runner) → IsElsewhere harts s.worlds hart who → t.registers who ≡ s.registers who

-- who runs on the hart runs on no other
abbrev pub IsAlone : ℕ → ℕ → MonitorState → Type 0
IsAlone harts hart s = IsElsewhere harts s.worlds hart (runner_of hart (s.worlds hart))

-- another table
with_table : (harts hart : ℕ) (s t : MonitorState) (table : EnclaveTable) → Follows harts hart s t
    → Follows harts hart (record s { table = table }) (record t { table = table })
with_table harts hart s t table f = record { table = refl; worlds = f.worlds; registers = f.registers }

-- registers put on one
one_put : (b : Bool) (file x y : RegisterFile) → x ≡ y → (if b then file else x) ≡ (if b then file else y)
one_put true file x y same = refl
one_put false file x y same = same

put_one : (harts hart : ℕ) (s t : MonitorState) (who : Runner) (file : RegisterFile) → Follows harts hart s t
    → Follows harts hart (with_registers s who file) (with_registers t who file)
put_one harts hart s t who file f = record {
  table = f.table;
  worlds = f.worlds;
  registers = λ other off. one_put (is_same other who) file (t.registers other) (s.registers other) (f.registers other off);
}

-- registers put on the hart
put_running : (harts hart : ℕ) (s t : MonitorState) (file now : RegisterFile) → now ≡ file → Follows harts hart s t
    → Follows harts hart (with_running s hart file) (with_running t hart now)
put_running harts hart s t file now same f =
    subst (λ (w : ℕ → World). Follows harts hart (with_running s hart file) (with_registers t (runner_of hart (w hart)) now)) (sym f.worlds)
    (subst (λ n. Follows harts hart (with_running s hart file) (with_registers t (runner_of hart (s.worlds hart)) n)) (sym same)
    (put_one harts hart s t (runner_of hart (s.worlds hart)) file f))

-- words in a0 and a1 of who runs there
answered : (harts hart : ℕ) (s t : MonitorState) (first second : ℕ) → IsAlone harts hart s → Follows harts hart s t
    → Follows harts hart (answering s hart first second) (answering t hart first second)
answered harts hart s t first second alone f =
    let file = λ (r : RegisterFile). with_x (with_x r 10 first) 11 second in
    let same : running_registers t hart ≡ running_registers s hart =
    ap (λ (w : ℕ → World). t.registers (runner_of hart (w hart))) f.worlds ∙ f.registers (runner_of hart (s.worlds hart)) alone in
    put_running harts hart s t (file (running_registers s hart)) (file (running_registers t hart)) (ap file same) f

-- the hart goes to another world
moved : (harts hart : ℕ) (s t : MonitorState) (world : World) → Follows harts hart s t → Follows harts hart (in_world s hart world) (in_world t hart world)
moved harts hart s t world f = record {
  table = f.table;
  worlds = ap (λ (w : ℕ → World). λ h. if h == hart then world else w h) f.worlds;
  registers = λ who off. f.registers who (λ other low differ.
      subst (λ b. who ≢ runner_of other (if b then world else s.worlds other)) (ne_eqb other hart differ) (off other low differ));
}

-- a host runs on no other hart
host_alone : (harts hart : ℕ) (worlds : ℕ → World) → IsElsewhere harts worlds hart (HostOf hart)
host_alone harts hart worlds other low differ = by_world (worlds other)
  where
    by_world : (w : World) → HostOf hart ≢ runner_of other w
    by_world Host is = differ (ap number (sym is))
      where
        number : Runner → ℕ
        number (HostOf h) = h
        number (EnclaveOf id) = id
    by_world (InEnclave id) is = cc

back : (harts hart : ℕ) (s t : MonitorState) (first second : ℕ) → Follows harts hart s t
    → Follows harts hart (back_to_host s hart first second) (back_to_host t hart first second)
back harts hart s t first second f =
    let here : (in_world s hart Host).worlds hart ≡ Host = ap (λ b. if b then Host else s.worlds hart) (eq-eqb hart hart refl) in
    answered harts hart (in_world s hart Host) (in_world t hart Host) first second
    (subst (λ w. IsElsewhere harts (in_world s hart Host).worlds hart (runner_of hart w)) (sym here) (host_alone harts hart (in_world s hart Host).worlds))
    (moved harts hart s t Host f)

marked : (harts hart : ℕ) (s t : MonitorState) → Follows harts hart s t → Follows harts hart (marking_others s hart) (marking_others t hart)
marked harts hart s t f = record { table = f.table; worlds = f.worlds; registers = f.registers }

-- what follows a state that is the same
after : (harts hart : ℕ) (new that t : MonitorState) → new ≡ that → Follows harts hart that t → Follows harts hart new t
after harts hart new that t is f = subst (λ s. Follows harts hart s t) (sym is) f

-- the digest of a creation, where a call is one
abbrev pub digest_by : (Create → List ℕ) → Option Create → List ℕ
digest_by digests None = []
digest_by digests (Some asked) = digests (parts_of asked)

-- who runs on a hart is named by the number of its world
pub owner_current : (table : EnclaveTable) (hart : ℕ) (world : World) → IsCurrent table world → owner_of hart (world_number world) ≡ runner_of hart world
owner_current table hart Host current = refl
owner_current table hart (InEnclave id) current = owner_is hart id (live_above table.enclaves id current.0 current.1)

-- changes of register sets, by the number of who trapped
abbrev passed : ℕ → SetChange
passed n = record { kind = kinds.PastCall; enclave = n; first = 0; second = 0 }

abbrev put_words : ℕ → ℕ → ℕ → SetChange
put_words n first second = record { kind = kinds.Answer; enclave = n; first = first; second = second }

abbrev cleared : ℕ → SetChange
cleared n = record { kind = kinds.Clear; enclave = n; first = 0; second = 0 }

abbrev begun : ℕ → ℕ → SetChange
begun n pc = record { kind = kinds.Begin; enclave = n; first = pc; second = 0 }

abbrev in_turn : SetChange → SetChange → SetChange → SetChanges
in_turn first second third = record { first = first; second = second; third = third }

-- a call of the world on a hart, on a state that has a table, worlds and marks, and any register sets of the harts' worlds. The
-- model's state has other registers, and the same of each that runs on no other hart
module _ (digests : Create → List ℕ) (table : EnclaveTable) (worlds : ℕ → World) (rs actual : Runner → RegisterFile) (ms mt : ℕ → Bool) (harts hart : ℕ)
    (answer : Answer) (zero : Option PageRange) (new : MonitorState) (own : owner_of hart (world_number (worlds hart)) ≡ runner_of hart (worlds hart)) where
  abbrev s : MonitorState
  s = record { table = table; worlds = worlds; registers = rs; marked = ms }

  abbrev base : (Runner → RegisterFile) → MonitorState
  base sets = record { table = table; worlds = worlds; registers = sets; marked = mt }

  abbrev who : Runner
  who = runner_of hart (worlds hart)

  abbrev n : ℕ
  n = world_number (worlds hart)

  -- the sets past the call
  abbrev t : (Runner → RegisterFile) → MonitorState
  t sets = with_running (base sets) hart (past_call (sets who))

  abbrev none : Runner → RegisterFile
  none other = zeros

  abbrev pub Followed : Option Call → Type 0
  Followed call = (mid : MonitorState) × (changes : SetChanges)
      × ((sets : Runner → RegisterFile) → DoesCall call (λ parts. digest_by digests (asked_in call)) (t sets) hart answer zero
      (with_sets mid (changed hart changes sets)))
      × Follows harts hart new (with_sets mid (changed hart changes actual))

  -- a state that is as such changes have it
  given : (call : Option Call) (that : (Runner → RegisterFile) → MonitorState) (changes : SetChanges)
      → ((sets : Runner → RegisterFile) → with_sets (that none) (changed hart changes sets) ≡ that sets)
      → ((sets : Runner → RegisterFile) (z : MonitorState) → z ≡ that sets
      → DoesCall call (λ parts. digest_by digests (asked_in call)) (t sets) hart answer zero z)
      → Follows harts hart new (that actual) → Followed call
  given call that changes same does follows = (
    that none,
    changes,
    λ sets. does sets (with_sets (that none) (changed hart changes sets)) (same sets),
    subst (Follows harts hart new) (sym (same actual)) follows,
  )

  -- the sets go past the call
  past_regs : (sets : Runner → RegisterFile) → change hart (passed n) sets ≡ (t sets).registers
  past_regs sets = passed_is hart (passed n) sets who refl own

  -- and are answered there
  told_regs : (first second : ℕ) (sets : Runner → RegisterFile) → changed hart (in_turn (passed n) (put_words n first second) no_change) sets
      ≡ (answering (t sets) hart first second).registers
  told_regs first second sets = ap (change hart (put_words n first second)) (past_regs sets)
      ∙ answered_is hart (put_words n first second) (t sets).registers who n first second refl own

  -- a call that changes a0 and a1 alone
  told : (call : Option Call) (first second : ℕ)
      → ((sets : Runner → RegisterFile) (z : MonitorState) → z ≡ answering (t sets) hart first second
      → DoesCall call (λ parts. digest_by digests (asked_in call)) (t sets) hart answer zero z)
      → IsAlone harts hart s → Follows harts hart s (t actual) → new ≡ answering s hart first second → Followed call
  told call first second does alone f is =
      given call (λ sets. answering (t sets) hart first second) (in_turn (passed n) (put_words n first second) no_change)
      (λ sets. ap (with_sets (answering (t none) hart first second)) (told_regs first second sets)) does
      (after harts hart new _ _ is (answered harts hart s (t actual) first second alone f))

  -- the host goes on, of a hart whose sets are these
  back_same : (m : (Runner → RegisterFile) → MonitorState) (second third : SetChange) (first word : ℕ) (sets : Runner → RegisterFile)
      → third ≡ put_words 0 first word → change hart second (t sets).registers ≡ (m sets).registers
      → record (in_world (m sets) hart Host) { registers = changed hart (in_turn (passed n) second third) sets } ≡ back_to_host (m sets) hart first word
  back_same m second third first word sets is regs =
      ap (λ r. record (in_world (m sets) hart Host) { registers = change hart third r }) (ap (change hart second) (past_regs sets) ∙ regs)
      ∙ back_said (m sets) hart first word third is

  pub call_follows : (call : Option Call) → IsAlone harts hart s → Follows harts hart s (t actual) → DoesCall call digests s hart answer zero new
      → Followed call
  call_follows None alone f x = told None _ 0 (λ sets z is. record { state = is; told = x.told; zeroes = x.zeroes }) alone f x.state
  call_follows (Some (calls.Create base text_pages data_pages shared_base shared_count entry_offset)) alone f (inl x) =
      let call = Some (calls.Create base text_pages data_pages shared_base shared_count entry_offset) in
      let that = λ (sets : Runner → RegisterFile). marking_others (answering (record (t sets) { table = x.1 }) hart 0 x.0) hart in
      given call that (in_turn (passed n) (put_words n 0 x.0) no_change) (λ sets. ap (with_sets (that none)) (told_regs 0 x.0 sets))
      (λ sets z is. inl (
        x.0,
        x.1,
        record { passes = x.2.passes; next = x.2.next; added = x.2.added; host_fits = x.2.host_fits; enclave_fits = x.2.enclave_fits },
        record { state = is; told = x.3.told; zeroes = x.3.zeroes },
      ))
      (after harts hart new _ _ x.3.state
      (marked harts hart (answering (record s { table = x.1 }) hart 0 x.0) (answering (record (t actual) { table = x.1 }) hart 0 x.0)
      (answered harts hart (record s { table = x.1 }) (record (t actual) { table = x.1 }) 0 x.0 alone (with_table harts hart s (t actual) x.1 f))))
  call_follows (Some (calls.Create base text_pages data_pages shared_base shared_count entry_offset)) alone f (inr x) =
      told (Some (calls.Create base text_pages data_pages shared_base shared_count entry_offset)) _ 0
      (λ sets z is. inr (x.0, x.1, record { state = is; told = x.2.told; zeroes = x.2.zeroes })) alone f x.2.state
  call_follows (Some (calls.Destroy id)) alone f (inl x) =
      let s1 = record s { table = x.1 } in
      let t1 = λ (sets : Runner → RegisterFile). record (t sets) { table = x.1 } in
      let that = λ (sets : Runner → RegisterFile). marking_others (answering (with_registers (t1 sets) (EnclaveOf id) zeros) hart 0 0) hart in
      let g = x.2.passes.1.0 in
      let low = live_above table.enclaves id g.0 g.1 in
      given (Some (calls.Destroy id)) that (in_turn (passed n) (cleared id) (put_words n 0 0))
      (λ sets. ap (with_sets (that none)) (ap (λ r. change hart (put_words n 0 0) (change hart (cleared id) r)) (past_regs sets)
      ∙ ap (change hart (put_words n 0 0)) (cleared_is hart (cleared id) (t sets).registers (EnclaveOf id) refl (owner_is hart id low))
      ∙ answered_is hart (put_words n 0 0) (with_set (t sets).registers (EnclaveOf id) zeros) who n 0 0 refl own))
      (λ sets z is. inl (x.0, x.1, x.2, record { state = is; told = x.3.told; zeroes = x.3.zeroes }))
      (after harts hart new _ _ x.3.state
      (marked harts hart (answering (with_registers s1 (EnclaveOf id) zeros) hart 0 0) (answering (with_registers (t1 actual) (EnclaveOf id) zeros) hart 0 0)
      (answered harts hart (with_registers s1 (EnclaveOf id) zeros) (with_registers (t1 actual) (EnclaveOf id) zeros) 0 0 alone
      (put_one harts hart s1 (t1 actual) (EnclaveOf id) zeros (with_table harts hart s (t actual) x.1 f)))))
  call_follows (Some (calls.Destroy id)) alone f (inr x) =
      told (Some (calls.Destroy id)) _ 0 (λ sets z is. inr (x.0, x.1, record { state = is; told = x.2.told; zeroes = x.2.zeroes })) alone f x.2.state
  call_follows (Some (calls.Run id)) alone f (inl x) =
      let s1 = record s { table = x.1 } in
      let t1 = λ (sets : Runner → RegisterFile). record (t sets) { table = x.1 } in
      let file = first_registers id x.0.parts in
      let pc = x.0.parts.base + x.0.parts.entry_offset in
      let that = λ (sets : Runner → RegisterFile). in_world (with_registers (t1 sets) (EnclaveOf id) file) hart (InEnclave id) in
      given (Some (calls.Run id)) that (in_turn (passed n) (begun id pc) no_change)
      (λ sets. ap (with_sets (that none)) (ap (change hart (begun id pc)) (past_regs sets)
      ∙ begun_is hart (begun id pc) (t sets).registers id pc (live_above table.enclaves id x.0 x.2) refl refl refl))
      (λ sets z is. inl (x.0, x.1, x.2, x.3, record { state = is; told = x.4.told; zeroes = x.4.zeroes }))
      (after harts hart new _ _ x.4.state
      (moved harts hart (with_registers s1 (EnclaveOf id) file) (with_registers (t1 actual) (EnclaveOf id) file) (InEnclave id)
      (put_one harts hart s1 (t1 actual) (EnclaveOf id) file (with_table harts hart s (t actual) x.1 f))))
  call_follows (Some (calls.Run id)) alone f (inr x) =
      told (Some (calls.Run id)) _ 0 (λ sets z is. inr (x.0, x.1, record { state = is; told = x.2.told; zeroes = x.2.zeroes })) alone f x.2.state
  call_follows (Some calls.Stop) alone f (inl x) =
      let s1 = record s { table = x.1 } in
      let m = λ (sets : Runner → RegisterFile). answering (record (t sets) { table = x.1 }) hart 0 0 in
      given (Some calls.Stop) (λ sets. back_to_host (m sets) hart 1 0) (in_turn (passed n) (put_words n 0 0) (put_words 0 1 0))
      (λ sets. back_same m (put_words n 0 0) (put_words 0 1 0) 1 0 sets refl
      (answered_is hart (put_words n 0 0) (t sets).registers who n 0 0 refl own))
      (λ sets z is. inl (x.0, x.1, x.2, record { state = is; told = x.3.told; zeroes = x.3.zeroes }))
      (after harts hart new _ _ x.3.state
      (back harts hart (answering s1 hart 0 0) (m actual) 1 0 (answered harts hart s1 (record (t actual) { table = x.1 }) 0 0 alone
      (with_table harts hart s (t actual) x.1 f))))
  call_follows (Some calls.Stop) alone f (inr x) =
      told (Some calls.Stop) _ 0 (λ sets z is. inr (x.0, x.1, record { state = is; told = x.2.told; zeroes = x.2.zeroes })) alone f x.2.state
  call_follows (Some (calls.Resume id)) alone f (inl x) =
      let s1 = record s { table = x.1 } in
      let that = λ (sets : Runner → RegisterFile). in_world (record (t sets) { table = x.1 }) hart (InEnclave id) in
      given (Some (calls.Resume id)) that (in_turn (passed n) no_change no_change) (λ sets. ap (with_sets (that none)) (past_regs sets))
      (λ sets z is. inl (x.0, x.1, x.2, x.3, record { state = is; told = x.4.told; zeroes = x.4.zeroes }))
      (after harts hart new _ _ x.4.state (moved harts hart s1 (record (t actual) { table = x.1 }) (InEnclave id) (with_table harts hart s (t actual) x.1 f)))
  call_follows (Some (calls.Resume id)) alone f (inr x) =
      told (Some (calls.Resume id)) _ 0 (λ sets z is. inr (x.0, x.1, record { state = is; told = x.2.told; zeroes = x.2.zeroes })) alone f x.2.state
  call_follows (Some (calls.Exit value)) alone f (inl x) =
      let s1 = record s { table = x.1 } in
      let m = λ (sets : Runner → RegisterFile). with_registers (record (t sets) { table = x.1 }) (EnclaveOf x.0) zeros in
      let low = live_above table.enclaves x.0 x.2.turned.0 x.2.turned.1 in
      given (Some (calls.Exit value)) (λ sets. back_to_host (m sets) hart 0 value) (in_turn (passed n) (cleared x.0) (put_words 0 0 value))
      (λ sets. back_same m (cleared x.0) (put_words 0 0 value) 0 value sets refl
      (cleared_is hart (cleared x.0) (t sets).registers (EnclaveOf x.0) refl (owner_is hart x.0 low)))
      (λ sets z is. inl (x.0, x.1, x.2, record { state = is; told = x.3.told; zeroes = x.3.zeroes }))
      (after harts hart new _ _ x.3.state
      (back harts hart (with_registers s1 (EnclaveOf x.0) zeros) (m actual) 0 value
      (put_one harts hart s1 (record (t actual) { table = x.1 }) (EnclaveOf x.0) zeros (with_table harts hart s (t actual) x.1 f))))
  call_follows (Some (calls.Exit value)) alone f (inr x) =
      told (Some (calls.Exit value)) _ 0 (λ sets z is. inr (x.0, x.1, record { state = is; told = x.2.told; zeroes = x.2.zeroes })) alone f x.2.state
  call_follows (Some (calls.Measure id k)) alone f (inl x) =
      told (Some (calls.Measure id k)) 0 x.0 (λ sets z is. inl (x.0, x.1, record { state = is; told = x.2.told; zeroes = x.2.zeroes })) alone f x.2.state
  call_follows (Some (calls.Measure id k)) alone f (inr x) =
      told (Some (calls.Measure id k)) _ 0 (λ sets z is. inr (x.0, x.1, record { state = is; told = x.2.told; zeroes = x.2.zeroes })) alone f x.2.state

  -- an interrupt
  abbrev pub Interrupted : World → Type 0
  Interrupted world = (mid : MonitorState) × (changes : SetChanges)
      × ((sets : Runner → RegisterFile) → Interrupts world (base sets) hart (with_sets mid (changed hart changes sets)))
      × Follows harts hart new (with_sets mid (changed hart changes actual))

  pub irq_follows : (world : World) → Follows harts hart s (base actual) → Interrupts world s hart new → Interrupted world
  irq_follows Host f x = (base none, in_turn no_change no_change no_change, λ sets. refl, after harts hart new s (base actual) x f)
  irq_follows (InEnclave id) f x =
      let s1 = record s { table = x.0 } in
      let m = λ (sets : Runner → RegisterFile). record (base sets) { table = x.0 } in
      let same = λ (sets : Runner → RegisterFile). back_said (m sets) hart 1 0 (put_words 0 1 0) refl in (
        back_to_host (m none) hart 1 0,
        in_turn (put_words 0 1 0) no_change no_change,
        λ sets. (x.0, x.1, same sets),
        subst (Follows harts hart new) (sym (same actual)) (after harts hart new _ _ x.2 (back harts hart s1 (m actual) 1 0
            (with_table harts hart s (base actual) x.0 f))),
      )
