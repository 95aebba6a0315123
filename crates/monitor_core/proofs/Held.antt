-- Each enclave that is Running runs on a hart, from change to change.
use Rattle.std.proofs.Common.{◌≡◌, ◌≢◌, ◌∙◌, inl, inr, ℕ, zero, suc, ◌-◌, ◌<◌, ◌≤◌, List, [], ◌∷◌, Bool, true, false, ◌||◌, ◌==◌, if◌then◌else◌, Option, Some}
use Rattle.std.proofs.Common.{None, slice_set, slice_index_or, refl, ap, sym, subst, arith}
use Rattle.std.proofs.lemmas.Bool.{eq-eqb, eqb-true, both_ways, or_cases}
use Rattle.enclave_table.specs.Enclaves.{EnclaveTable, Live, enclave_at, with_enclave}
use Rattle.enclave_table.specs.declared.enclave.Enclave.{Enclave}
use Rattle.enclave_table.specs.declared.enclave.Stage.TheVariants.{Running}
use Rattle.enclave_table.proofs.Places.{live_place, set_other}
use Rattle.sbi_decode.specs.declared.world.World.{World}
use Rattle.sbi_decode.specs.declared.world.World.TheVariants.{Host, Enclave as InEnclave}
use Rattle.monitor_core.specs.Parts.{is_of, is_held}
use Rattle.monitor_core.specs.Worlds.{AreHeld}
use Rattle.monitor_core.proofs.Cases.{both}

-- what is found where something was put is what was put
there_is : (slots : List (Option Enclave)) (place : ℕ) (slot : Option Enclave) (e : Enclave) → slice_index_or (slice_set slots place slot) place None ≡ Some e
    → slot ≡ Some e
there_is [] place slot e at = absurd (let h : None ≡ Some e = at in cc)
there_is (first ∷ slots) zero slot e at = at
there_is (first ∷ slots) (suc place) slot e at = there_is slots place slot e at

-- an enclave that is live after one id changed is what was put there, or was live before
pub put_is : (table now : EnclaveTable) (id k : ℕ) (slot : Option Enclave) (e : Enclave) → now ≡ with_enclave table id slot → Live now k e → k ≡ id
    → slot ≡ Some e
put_is table now id k slot e is live same =
    let there : enclave_at (slice_set table.enclaves (id - 1) slot) id ≡ Some e = ap (λ j. enclave_at (slice_set table.enclaves (id - 1) slot) j) (sym same)
    ∙ ap (λ t. enclave_at t.enclaves k) (sym is) ∙ live in
    there_is table.enclaves (id - 1) slot e (live_place (slice_set table.enclaves (id - 1) slot) id e there)

pub was_live : (table now : EnclaveTable) (id k : ℕ) (slot : Option Enclave) (e : Enclave) → 1 ≤ id → now ≡ with_enclave table id slot → Live now k e → k ≢ id
    → Live table k e
was_live table now id k slot e above is live other = sym (set_other table.enclaves id k slot above other) ∙ ap (λ t. enclave_at t.enclaves k) (sym is) ∙ live

of_is : (w : World) (id : ℕ) → is_of w id ≡ true → w ≡ InEnclave id
of_is Host id e = absurd (let h : false ≡ true = e in cc)
of_is (InEnclave k) id e = ap InEnclave (eqb-true k id e)

-- as a truth value, and as a fact
found : (worlds : ℕ → World) (n id : ℕ) → is_held worlds n id ≡ true → (hart : ℕ) × (hart < n) × (worlds hart ≡ InEnclave id)
found worlds zero id e = absurd (let h : false ≡ true = e in cc)
found worlds (suc n) id e = elim (or_cases (is_of (worlds n) id) (is_held worlds n id) e) [
  | inl here ↦ (n, omega arith, of_is (worlds n) id here)
  | inr before ↦ let h = found worlds n id before in let low = h.1 in (h.0, omega (arith, low), h.2)
]

told : (worlds : ℕ → World) (n id hart : ℕ) → hart < n → worlds hart ≡ InEnclave id → is_held worlds n id ≡ true
told worlds zero id hart low at = absurd (omega (arith, low))
told worlds (suc n) id hart low at = both (hart == n)
    (λ yes. or_first (is_of (worlds n) id) (is_held worlds n id) (ap (λ h. is_of (worlds h) id) (sym (eqb-true hart n yes)) ∙ ap (λ w. is_of w id) at
    ∙ eq-eqb id id refl))
    (λ no. or_second (is_of (worlds n) id) (is_held worlds n id) (told worlds n id hart
    (below hart n low (λ same. both_ways (hart == n) no (eq-eqb hart n same))) at))
  where
    or_first : (a b : Bool) → a ≡ true → (a || b) ≡ true
    or_first a b is = ap (λ x. x || b) is

    or_second : (a b : Bool) → b ≡ true → (a || b) ≡ true
    or_second true b is = refl
    or_second false b is = is

    below : (hart n : ℕ) → hart < suc n → hart ≢ n → hart < n
    below hart n low other = omega (arith, low, other)

-- each enclave that is Running is held by one of the first harts
abbrev pub AreHeldBy : EnclaveTable → (ℕ → World) → Type 0
AreHeldBy table worlds = (id : ℕ) (e : Enclave) → Live table id e → e.state ≡ Running → is_held worlds table.layout.harts id ≡ true

pub held_from : (table : EnclaveTable) (worlds : ℕ → World) → AreHeldBy table worlds → AreHeld table worlds
held_from table worlds held = λ id e live runs. found worlds table.layout.harts id (held id e live runs)

pub held_to : (table : EnclaveTable) (worlds : ℕ → World) → AreHeld table worlds → AreHeldBy table worlds
held_to table worlds held = λ id e live runs. let h = held id e live runs in told worlds table.layout.harts id h.0 h.1 h.2

-- one id changed, and a hart went from one world to another
pub record Moves (table now : EnclaveTable) (worlds after : ℕ → World) (hart id : ℕ) (slot : Option Enclave) (to : World) : Type 0 where
  pub low : hart < table.layout.harts
  pub above : 1 ≤ id
  pub put : now ≡ with_enclave table id slot
  pub went : (h : ℕ) → h < table.layout.harts → after h ≡ (if h == hart then to else worlds h)
  pub runs : (e : Enclave) → slot ≡ Some e → e.state ≡ Running → to ≡ InEnclave id
  pub left : (k : ℕ) → worlds hart ≡ InEnclave k → k ≡ id

pub held_moved : (table now : EnclaveTable) (worlds after : ℕ → World) (hart id : ℕ) (slot : Option Enclave) (to : World)
    → Moves table now worlds after hart id slot to → AreHeld table worlds → AreHeld now after
held_moved table now worlds after hart id slot to m held = λ k e live runs. both (k == id)
    (λ yes.
    let is : k ≡ id = eqb-true k id yes in
    let put : slot ≡ Some e = put_is table now id k slot e m.put live is in
    (hart, over hart m.low, m.went hart m.low ∙ ap (λ t. if t then to else worlds hart) (eq-eqb hart hart refl) ∙ m.runs e put runs ∙ ap InEnclave (sym is)))
    (λ no.
    let not : k ≢ id = λ is. both_ways (k == id) no (eq-eqb k id is) in
    let h = held k e (was_live table now id k slot e m.above m.put live not) runs in
    both (h.0 == hart)
    (λ f. absurd (not (m.left k (ap worlds (sym (eqb-true h.0 hart f)) ∙ h.2))))
    (λ f. (h.0, over h.0 h.1, m.went h.0 h.1 ∙ ap (λ t. if t then to else worlds h.0) f ∙ h.2)))
  where
    over : (h : ℕ) → h < table.layout.harts → h < now.layout.harts
    over h low = subst (λ t. h < t.layout.harts) (sym m.put) low

-- one id changed, which is not Running now, and the worlds stayed
pub held_placed : (table now : EnclaveTable) (worlds : ℕ → World) (id : ℕ) (slot : Option Enclave) → 1 ≤ id → now ≡ with_enclave table id slot
    → ((e : Enclave) → slot ≡ Some e → e.state ≢ Running) → AreHeld table worlds → AreHeld now worlds
held_placed table now worlds id slot above is idle held = λ k e live runs. both (k == id)
    (λ yes. absurd (idle e (put_is table now id k slot e is live (eqb-true k id yes)) runs))
    (λ no.
    let h = held k e (was_live table now id k slot e above is live (λ same. both_ways (k == id) no (eq-eqb k id same))) runs in
    (h.0, subst (λ t. h.0 < t.layout.harts) (sym is) h.1, h.2))
