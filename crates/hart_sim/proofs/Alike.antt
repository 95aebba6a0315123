-- Two states that an enclave cannot tell apart.
use Rattle.std.proofs.Common.{◌≡◌, ◌≢◌, ◌∙◌, inl, inr, ℕ, ◌+◌, ◌-◌, ◌/◌, ◌<◌, ◌≤◌, [], ◌∷◌, Bool, true, false, ◌==◌, if◌then◌else◌, Result, Ok, Err, refl, ap}
use Rattle.std.proofs.Common.{sym, subst, arith}
use Rattle.std.proofs.lemmas.Bool.{eq-eqb, eqb-true, ne_eqb, leb-true, ltb-true, false_from_ne_true, and_parts}
use Rattle.pmp_encoding.specs.Registers.{byte_of}
use Rattle.pmp_encoding.specs.declared.perm.Perm.TheVariants.{NoAccess}
use Rattle.pmp_match.specs.declared.access.Access.{Access}
use Rattle.pmp_match.specs.declared.access.Kind.{Kind}
use Rattle.pmp_match.specs.declared.access.Kind.TheVariants.{Fetch, Load, Store}
use Rattle.pmp_match.specs.declared.cause.Cause.{Cause}
use Rattle.enclave_table.specs.Enclaves.{Live}
use Rattle.enclave_table.specs.Views.{enclave_view}
use Rattle.enclave_table.specs.declared.enclave.Enclave.{Enclave}
use Rattle.sbi_decode.specs.Runners.{EnclaveOf, runner_of}
use Rattle.hart_trace.specs.declared.event.Event.{Event}
use Rattle.hart_trace.specs.declared.event.Event.TheVariants as events
use Rattle.hart_trace.specs.declared.reply.Reply.{Reply}
use Rattle.hart_trace.specs.declared.reply.Reply.TheVariants as replies
use Rattle.hart_sim.specs.Memory.{bytes_at, number_of_bytes, in_range}
use Rattle.hart_sim.specs.States.{MachineState, core_of, with_core, view_of, view_on}
use Rattle.enclave_table.proofs.ShortNames.{view_in}
use Rattle.monitor_core.specs.Changes.{is_same, with_running}
use Rattle.monitor_core.proofs.Put.{same_not}
use Rattle.hart_sim.specs.Changes.{with_x, storing}
use Rattle.hart_sim.specs.Steps.{Step, verdict, Accesses, TakesEffect}
use Rattle.hart_sim.specs.Privacy.{RunsOn, LooksSame, ChangesOwn, IsOwn, IsPrivate}
use Rattle.hart_sim.proofs.Asked.{awoken}
use Rattle.hart_sim.proofs.Bytes.{bytes_moved}
use Rattle.hart_sim.proofs.Verdicts.{IsAllowed, allowed_by, some_held, page_of_byte}

-- the view of an enclave that runs
pub view_is : (s : MachineState) (hart id : ℕ) (e : Enclave) → RunsOn s hart id e → view_on s hart ≡ enclave_view e.parts
view_is s hart id e r = ap (λ w page. view_of s.table w page) r.world ∙ ap (λ o page. view_in o page) r.live

runner_is : (s : MachineState) (hart id : ℕ) (e : Enclave) → RunsOn s hart id e → runner_of hart (s.worlds hart) ≡ EnclaveOf id
runner_is s hart id e r = ap (runner_of hart) r.world

-- where the mark is not there, taking it away changes nothing
pub unmarked : (s : MachineState) (hart h : ℕ) → s.marked hart ≡ false → (if h == hart then false else s.marked h) ≡ s.marked h
unmarked s hart h none = pick (h == hart) refl
  where
    pick : (b : Bool) → (h == hart) ≡ b → (if b then false else s.marked h) ≡ s.marked h
    pick true e = sym (ap s.marked (eqb-true h hart e) ∙ none)
    pick false e = refl

-- nothing changed but a mark that was not there
stays : (s new : MachineState) (hart id : ℕ) (e : Enclave) → RunsOn s hart id e → new ≡ awoken s hart → ChangesOwn id e s new
stays s new hart id e r is = subst (ChangesOwn id e s) (sym is) (record {
  table = refl;
  worlds = refl;
  registers = λ who other. refl;
  bytes = λ a none. refl;
  written = λ p none. refl;
  marked = λ i h. unmarked s hart h r.unmarked i;
})

-- the enclave still runs where nothing but its own changed
pub still_runs : (s new : MachineState) (hart id : ℕ) (e : Enclave) → RunsOn s hart id e → ChangesOwn id e s new → RunsOn new hart id e
still_runs s new hart id e r ch = record {
  known = subst (λ t. hart < t.layout.harts) (sym ch.table) r.known;
  world = ap (λ f. f hart) ch.worlds ∙ r.world;
  live = subst (λ t. Live t id e) (sym ch.table) r.live;
  running = r.running;
  unmarked = ap (λ f. f hart) ch.marked ∙ r.unmarked;
}

-- both states as they were
same_still : (s other new now : MachineState) (hart there id : ℕ) (e f : Enclave) → RunsOn s hart id e → RunsOn other there id f → LooksSame id e f s other
    → new ≡ awoken s hart → now ≡ awoken other there → LooksSame id e f new now
same_still s other new now hart there id e f r q l is is' = record {
  parts = l.parts;
  registers = ap (λ x. x.registers (EnclaveOf id)) is ∙ l.registers ∙ sym (ap (λ x. x.registers (EnclaveOf id)) is');
  bytes = λ a some. ap (λ x. x.bytes a) is ∙ l.bytes a some ∙ sym (ap (λ x. x.bytes a) is');
  written = λ p some. ap (λ x. x.written p) is ∙ l.written p some ∙ sym (ap (λ x. x.written p) is');
}

-- an address of an access that is allowed is in a page of the view
reached : (e : Enclave) (a : Access) (byte : ℕ) → IsAllowed (enclave_view e.parts) a → a.address ≤ byte → byte < a.address + a.size
    → enclave_view e.parts (byte / 4096) ≢ NoAccess
reached e a byte ok low high none =
    some_held (enclave_view e.parts (a.address / 4096)) a.kind ok.held (ap (enclave_view e.parts) (sym (page_of_byte a byte ok.aligned low high)) ∙ none)

within_parts : (first count n : ℕ) → in_range first count n ≡ true → (first ≤ n) × (n < first + count)
within_parts first count n e = let p = and_parts _ _ e in (leb-true _ _ p.0, ltb-true _ _ p.1)

-- a byte outside the view is none that a store reaches
untouched : (e : Enclave) (a : Access) (byte : ℕ) → IsAllowed (enclave_view e.parts) a → enclave_view e.parts (byte / 4096) ≡ NoAccess
    → in_range a.address a.size byte ≡ false
untouched e a byte ok none = false_from_ne_true (in_range a.address a.size byte)
    (λ yes. let p = within_parts a.address a.size byte yes in reached e a byte ok p.0 p.1 none)

loaded_same : (s other : MachineState) (id : ℕ) (e f : Enclave) (a : Access) → LooksSame id e f s other → IsAllowed (enclave_view e.parts) a
    → bytes_at s.bytes a.address a.size ≡ bytes_at other.bytes a.address a.size
loaded_same s other id e f a l ok =
    bytes_moved s.bytes other.bytes a.address a.address a.size (λ k low. l.bytes (a.address + k) (reached e a (a.address + k) ok (omega arith) (omega arith)))

-- the same store in both
stored_same : (s other new now : MachineState) (hart there id : ℕ) (e f : Enclave) (a : Access) (value : ℕ) → RunsOn s hart id e → RunsOn other there id f
    → LooksSame id e f s other → new ≡ storing (awoken s hart) a.address a.size value → now ≡ storing (awoken other there) a.address a.size value
    → LooksSame id e f new now
stored_same s other new now hart there id e f a value r q l is is' = record {
  parts = l.parts;
  registers = ap (λ x. x.registers (EnclaveOf id)) is ∙ l.registers ∙ sym (ap (λ x. x.registers (EnclaveOf id)) is');
  bytes = λ b some. ap (λ x. x.bytes b) is ∙ ap (λ x. if in_range a.address a.size b then byte_of value (b - a.address) else x) (l.bytes b some)
      ∙ sym (ap (λ x. x.bytes b) is');
  written = λ p some. ap (λ x. x.written p) is ∙ ap (λ x. if p == a.address / 4096 then true else x) (l.written p some) ∙ sym (ap (λ x. x.written p) is');
}

stores_own : (s new : MachineState) (hart id : ℕ) (e : Enclave) (a : Access) (value : ℕ) → RunsOn s hart id e → IsAllowed (enclave_view e.parts) a
    → new ≡ storing (awoken s hart) a.address a.size value → ChangesOwn id e s new
stores_own s new hart id e a value r ok is = subst (ChangesOwn id e s) (sym is) (record {
  table = refl;
  worlds = refl;
  registers = λ who other. refl;
  bytes = λ b none. ap (λ t. if t then byte_of value (b - a.address) else s.bytes b) (untouched e a b ok none);
  written = λ p none. ap (λ t. if t then true else s.written p) (ne_eqb p (a.address / 4096)
      (λ same. some_held (enclave_view e.parts (a.address / 4096)) a.kind ok.held (ap (enclave_view e.parts) (sym same) ∙ none)));
  marked = λ i h. unmarked s hart h r.unmarked i;
})

-- what may happen in the other state too
abbrev Follows : MachineState → MachineState → MachineState → ℕ → ℕ → ℕ → Enclave → Enclave → Event → Reply → Type 0
Follows s other new hart there id e f event reply = (now : MachineState) × Step other there event reply now × LooksSame id e f new now × ChangesOwn id e s new
    × ChangesOwn id f other now

-- accesses, by what the view says
follow_access : (s other new : MachineState) (hart there id : ℕ) (e f : Enclave) (a : Access) (value : ℕ) (reply : Reply) (said : Result (Unit {0}) Cause)
    → RunsOn s hart id e → RunsOn other there id f → LooksSame id e f s other → verdict (enclave_view e.parts) a ≡ said
    → Accesses said (awoken s hart) a value reply new
    → (now : MachineState) × Accesses said (awoken other there) a value reply now × LooksSame id e f new now × ChangesOwn id e s new × ChangesOwn id f other now
follow_access s other new hart there id e f a value reply (Err cause) r q l v x =
    let now = awoken other there in
    (now, (x.0, refl), same_still s other new now hart there id e f r q l x.1 (refl), stays s new hart id e r x.1, stays other now there id f q (refl))
follow_access s other new hart there id e f a value reply (Ok done) r q l v x = by_kind a.kind x
  where
    ok : IsAllowed (enclave_view e.parts) a
    ok = allowed_by (enclave_view e.parts) a v

    ok' : IsAllowed (enclave_view f.parts) a
    ok' = subst (λ p. IsAllowed (enclave_view p) a) l.parts ok

    now : MachineState
    now = awoken other there

    by_kind : (kind : Kind) → TakesEffect kind (awoken s hart) a value reply new
        → (now : MachineState) × TakesEffect kind (awoken other there) a value reply now × LooksSame id e f new now × ChangesOwn id e s new
        × ChangesOwn id f other now
    by_kind Fetch x =
        let now = awoken other there in
        (now, (x.0, refl), same_still s other new now hart there id e f r q l x.1 (refl), stays s new hart id e r x.1, stays other now there id f q (refl))
    by_kind Load x =
        let now = awoken other there in (
          now,
          (x.0 ∙ ap (λ xs. replies.Loaded (number_of_bytes xs)) (loaded_same s other id e f a l ok), refl),
          same_still s other new now hart there id e f r q l x.1 (refl),
          stays s new hart id e r x.1,
          stays other now there id f q (refl),
        )
    by_kind Store (inl x) =
        let now = storing (awoken other there) a.address a.size value in (
          now,
          inl (x.0, refl),
          stored_same s other new now hart there id e f a value r q l x.1 (refl),
          stores_own s new hart id e a value r ok x.1,
          stores_own other now there id f a value q ok' (refl),
        )
    by_kind Store (inr x) =
        let now = awoken other there in
        let seen = l.written (a.address / 4096) (some_held (enclave_view e.parts (a.address / 4096)) a.kind ok.held) in (
          now,
          inr (x.0, sym seen ∙ x.1, refl),
          same_still s other new now hart there id e f r q l x.2 (refl),
          stays s new hart id e r x.2,
          stays other now there id f q (refl),
        )

-- a register set
set_is : (s new : MachineState) (hart id n value : ℕ) (e : Enclave) → RunsOn s hart id e
    → new ≡ with_core (awoken s hart) (with_running (core_of (awoken s hart)) hart (with_x (s.registers (runner_of hart (s.worlds hart))) n value))
    → new.registers (EnclaveOf id) ≡ with_x (s.registers (EnclaveOf id)) n value
set_is s new hart id n value e r is =
    let who = runner_is s hart id e r in
    let at : new.registers (EnclaveOf id) ≡ (if is_same (EnclaveOf id) (runner_of hart (s.worlds hart)) then with_x
    (s.registers (runner_of hart (s.worlds hart))) n value else s.registers (EnclaveOf id)) = ap (λ x. x.registers (EnclaveOf id)) is in
    let there : (if is_same (EnclaveOf id) (runner_of hart (s.worlds hart)) then with_x
    (s.registers (runner_of hart (s.worlds hart))) n value else s.registers (EnclaveOf id)) ≡
    (if id == id then with_x (s.registers (EnclaveOf id)) n value else s.registers (EnclaveOf id)) =
    ap (λ w. if is_same (EnclaveOf id) w then with_x (s.registers w) n value else s.registers (EnclaveOf id)) who in
    at ∙ there ∙ ap (λ b. if b then with_x (s.registers (EnclaveOf id)) n value else s.registers (EnclaveOf id)) (eq-eqb id id refl)

sets_own : (s new : MachineState) (hart id n value : ℕ) (e : Enclave) → RunsOn s hart id e
    → new ≡ with_core (awoken s hart) (with_running (core_of (awoken s hart)) hart (with_x (s.registers (runner_of hart (s.worlds hart))) n value))
    → ChangesOwn id e s new
sets_own s new hart id n value e r is = subst (ChangesOwn id e s) (sym is) (record {
  table = refl;
  worlds = refl;
  registers = λ who other. ap (λ b. if b then with_x (s.registers (runner_of hart (s.worlds hart))) n value else s.registers who)
      (same_not who (runner_of hart (s.worlds hart)) (λ same. other (same ∙ runner_is s hart id e r)));
  bytes = λ b none. refl;
  written = λ p none. refl;
  marked = λ i h. unmarked s hart h r.unmarked i;
})

-- one event
follow : (s other new : MachineState) (hart there id : ℕ) (e f : Enclave) (event : Event) (reply : Reply) → RunsOn s hart id e → RunsOn other there id f
    → LooksSame id e f s other → IsOwn event → Step s hart event reply new → Follows s other new hart there id e f event reply
follow s other new hart there id e f (events.Access a value) reply r q l own x =
    let here = view_is s hart id e r in
    let other_view : view_on other there ≡ enclave_view e.parts = view_is other there id f q ∙ ap enclave_view (sym l.parts) in
    let x' : Accesses (verdict (enclave_view e.parts) a) (awoken s hart) a value reply new = subst
    (λ view. Accesses (verdict view a) (awoken s hart) a value reply new) here x in
    let t = follow_access s other new hart there id e f a value reply (verdict (enclave_view e.parts) a) r q l refl x' in
    (t.0, subst (λ view. Accesses (verdict view a) (awoken other there) a value reply t.0) (sym other_view) t.1, t.2, t.3, t.4)
follow s other new hart there id e f (events.Reg n value) reply r q l own x =
    let now = with_core (awoken other there) (with_running (core_of (awoken other there)) there
    (with_x (other.registers (runner_of there (other.worlds there))) n value)) in (
      now,
      (x.0, refl),
      record {
        parts = l.parts;
        registers = set_is s new hart id n value e r x.1 ∙ ap (λ file. with_x file n value) l.registers ∙ sym (set_is other now there id n value f q (refl));
        bytes = λ b some. ap (λ y. y.bytes b) x.1 ∙ l.bytes b some;
        written = λ p some. ap (λ y. y.written p) x.1 ∙ l.written p some;
      },
      sets_own s new hart id n value e r x.1,
      sets_own other now there id n value f q (refl),
    )
follow s other new hart there id e f (events.Ecall words) reply r q l own x = absurd own
follow s other new hart there id e f events.Irq reply r q l own x = absurd own

-- one change after another
changes_on : (s mid new : MachineState) (id : ℕ) (e : Enclave) → ChangesOwn id e s mid → ChangesOwn id e mid new → ChangesOwn id e s new
changes_on s mid new id e a b = record {
  table = b.table ∙ a.table;
  worlds = b.worlds ∙ a.worlds;
  registers = λ who other. b.registers who other ∙ a.registers who other;
  bytes = λ x none. b.bytes x none ∙ a.bytes x none;
  written = λ p none. b.written p none ∙ a.written p none;
  marked = b.marked ∙ a.marked;
}

nothing : (s new : MachineState) (id : ℕ) (e : Enclave) → new ≡ s → ChangesOwn id e s new
nothing s new id e is = subst (λ x. ChangesOwn id e s x) (sym is) (record
    { table = refl; worlds = refl; registers = λ who other. refl; bytes = λ x none. refl; written = λ p none. refl; marked = refl })

pub private_run : IsPrivate
private_run s other new hart there id e f [] [] r q l own x = (
  other,
  refl,
  subst (λ y. LooksSame id e f y other)
      (sym x) l,
  nothing s new id e x,
  nothing other other id f refl,
)
private_run s other new hart there id e f [] (reply ∷ replies) r q l own x = absurd x
private_run s other new hart there id e f (event ∷ events) [] r q l own x = absurd x
private_run s other new hart there id e f (event ∷ events) (reply ∷ replies) r q l own x =
    let mid = x.0 in
    let t = follow s other mid hart there id e f event reply r q l own.0 x.1 in
    let u = private_run mid t.0 new hart there id e f events replies (still_runs s mid hart id e r t.3) (still_runs other t.0 there id f q t.4) t.2 own.1 x.2 in
    (u.0, (t.0, t.1, u.1), u.2, changes_on s mid new id e t.3 u.3, changes_on other t.0 u.0 id f t.4 u.4)
