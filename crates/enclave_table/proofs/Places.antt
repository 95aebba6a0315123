-- The places of a table.
use Rattle.std.proofs.Common.{ℕ, zero, suc, ◌≡◌, ◌≢◌, ◌-◌, ◌<◌, ◌≤◌, ◌∙◌, ⊎_elim, refl, sym, ap, ◌||◌, cond, List, [], ◌∷◌, length, get_or, set, Option, None}
use Rattle.std.proofs.Common.{Some, arith}
use Rattle.std.proofs.lemmas.Bool.{cases_eq, cases_lt, ne_eqb}
use Rattle.std.proofs.lemmas.List.{get_or-set_same, get_or-set_other, get_or_past}
use Rattle.enclave_table.specs.Enclaves.{enclave_at}
use Rattle.enclave_table.proofs.ShortNames.{any_private, has_private}
use Rattle.enclave_table.specs.declared.enclave.Enclave.{Enclave}

-- at an id above zero
pub at_place : (es : List (Option Enclave)) (id : ℕ) → 1 ≤ id → enclave_at es id ≡ get_or es (id - 1) None
at_place es id h = ap (λ t. cond t None (get_or es (id - 1) None)) (ne_eqb id 0 (λ z. omega (arith, z, h)))

pub at_past : (es : List (Option Enclave)) (id : ℕ) → length es ≤ id - 1 → enclave_at es id ≡ None
at_past es id past = ⊎_elim (λ z. rw z refl) (λ h. at_place es id (omega (arith, h)) ∙ get_or_past es (id - 1) None past) (cases_eq id 0)

none_some : (e : Enclave) → None ≡ Some e → ⊥
none_some e h = cc

-- an enclave is at one of the places
pub live_above : (es : List (Option Enclave)) (id : ℕ) (e : Enclave) → enclave_at es id ≡ Some e → 1 ≤ id
live_above es id e live = ⊎_elim (λ z. absurd (none_some e (sym (ap (enclave_at es) z) ∙ live))) (λ h. omega (arith, h)) (cases_eq id 0)

pub live_inside : (es : List (Option Enclave)) (id : ℕ) (e : Enclave) → enclave_at es id ≡ Some e → id - 1 < length es
live_inside es id e live = ⊎_elim (λ h. h) (λ past. absurd (none_some e (sym (at_past es id past) ∙ live))) (cases_lt (id - 1) (length es))

pub live_place : (es : List (Option Enclave)) (id : ℕ) (e : Enclave) → enclave_at es id ≡ Some e → get_or es (id - 1) None ≡ Some e
live_place es id e live = sym (at_place es id (live_above es id e live)) ∙ live

-- what stands at each id when one place is written
pub set_same : (es : List (Option Enclave)) (id : ℕ) (slot : Option Enclave) → 1 ≤ id → id - 1 < length es → enclave_at (set es (id - 1) slot) id ≡ slot
set_same es id slot above inside = at_place (set es (id - 1) slot) id above ∙ get_or-set_same es (id - 1) slot None inside

pub set_other : (es : List (Option Enclave)) (id other : ℕ) (slot : Option Enclave) → 1 ≤ id → other ≢ id
    → enclave_at (set es (id - 1) slot) other ≡ enclave_at es other
set_other es id other slot above differ =
    ⊎_elim
    (λ z. ap (enclave_at (set es (id - 1) slot)) z ∙ sym (ap (enclave_at es) z))
    (λ h.
    let one : 1 ≤ other = omega (arith, h) in
    at_place (set es (id - 1) slot) other one
    ∙ get_or-set_other es (id - 1) (other - 1) slot None (λ e. differ (omega (arith, e, above, one)))
    ∙ sym (at_place es other one))
    (cases_eq other 0)

-- the private pages of all when one place is written by one that has the same
pub private_set :
    (es : List (Option Enclave)) (place : ℕ) (slot : Option Enclave) (page : ℕ) → has_private slot page ≡ has_private (get_or es place None) page
    → place < length es
    → any_private (set es place slot) page ≡ any_private es page
private_set [] place slot page same inside = refl
private_set (x ∷ xs) zero slot page same inside = ap (λ t. t || any_private xs page) same
private_set (x ∷ xs) (suc place) slot page same inside = ap (λ t. has_private x page || t) (private_set xs place slot page same (omega (arith, inside)))
