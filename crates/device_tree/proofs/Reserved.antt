-- Bytes begin with one list of reservations at most.
use Rattle.std.proofs.Common.{◌≡◌, ℕ, ◌+◌, ◌<◌, ◌≤◌, List, [], ◌∷◌, ◌++◌, length, drop, append_assoc, sym, ap, ap₂, subst, refl, ◌∙◌, arith}
use Rattle.std.proofs.lemmas.List.{drop-drop}
use Rattle.device_tree.specs.declared.reservations.Reservation.{Reservation}
use Rattle.device_tree.specs.Words.{double_word_at}
use Rattle.device_tree.specs.Trees.{BeginsWithReservations}

reservation_of : ℕ → ℕ → Reservation
reservation_of a s = record { address = a; size = s }

same_reservation : (r s : Reservation) → r.address ≡ s.address → r.size ≡ s.size → r ≡ s
unfolding reservation_of
same_reservation r s a b = ap₂ (λ (x : ℕ) (y : ℕ). reservation_of x y) a b

-- the pair in front
pub record IsPair (bytes : List ℕ) (pair : Reservation) : Type 0 where
  pub long : 16 ≤ length bytes
  pub address : double_word_at bytes 0 ≡ pair.address
  pub size : double_word_at bytes 8 ≡ pair.size
  pub no_end : pair.address ≡ 0 → pair.size ≡ 0 → ⊥

pub and_pair : (bytes : List ℕ) (at : ℕ) (before : List Reservation) (pair : Reservation) → IsPair (drop at bytes) pair
    → ((later : List Reservation) → BeginsWithReservations (drop at bytes) later → BeginsWithReservations bytes (before ++ later))
    → (later : List Reservation) → BeginsWithReservations (drop (at + 16) bytes) later → BeginsWithReservations bytes ((before ++ pair ∷ []) ++ later)
and_pair bytes at before pair is whole later spelt =
    let next : BeginsWithReservations (drop 16 (drop at bytes)) later =
    subst (λ (x : List ℕ). BeginsWithReservations x later) (sym (drop-drop 16 at bytes)) spelt in
    subst (λ (x : List Reservation). BeginsWithReservations bytes x) (sym (append_assoc before (pair ∷ []) later))
    (whole (pair ∷ later) (is.long, is.address, is.size, is.no_end, next))

behind_pair : (bytes : List ℕ) (pair : Reservation) (all : List Reservation) → IsPair bytes pair → BeginsWithReservations bytes all
    → (later : List Reservation) × (all ≡ pair ∷ later) × BeginsWithReservations (drop 16 bytes) later
behind_pair bytes pair [] is spelt = absurd (is.no_end (sym is.address ∙ spelt.1) (sym is.size ∙ spelt.2))
behind_pair bytes pair (first ∷ later) is spelt =
    (later, ap (λ (x : Reservation). x ∷ later) (same_reservation first pair (sym spelt.1 ∙ is.address) (sym spelt.2 ∙ is.size)), spelt.4)

pub left_pair : (bytes : List ℕ) (at : ℕ) (before : List Reservation) (pair : Reservation) → IsPair (drop at bytes) pair
    → ((all : List Reservation) → BeginsWithReservations bytes all → (later : List Reservation) × (all ≡ before ++ later)
    × BeginsWithReservations (drop at bytes) later)
    → (all : List Reservation) → BeginsWithReservations bytes all
    → (later : List Reservation) × (all ≡ (before ++ pair ∷ []) ++ later) × BeginsWithReservations (drop (at + 16) bytes) later
left_pair bytes at before pair is left all spelt =
    let was = left all spelt in
    let next = behind_pair (drop at bytes) pair was.0 is was.2 in (
      next.0,
      was.1 ∙ ap (λ (x : List Reservation). before ++ x) next.1 ∙ sym (append_assoc before (pair ∷ []) next.0),
      subst (λ (x : List ℕ). BeginsWithReservations x next.0) (drop-drop 16 at bytes) next.2,
    )

pub too_short : (bytes : List ℕ) (all : List Reservation) → length bytes < 16 → BeginsWithReservations bytes all → ⊥
too_short bytes [] less spelt = omega (arith, less, spelt.0)
too_short bytes (first ∷ later) less spelt = omega (arith, less, spelt.0)

same_from : (bytes : List ℕ) (all others : List Reservation) → BeginsWithReservations bytes all → BeginsWithReservations bytes others → all ≡ others
same_from bytes [] [] h w = refl
same_from bytes [] (r ∷ rs) h w = absurd (w.3 (sym w.1 ∙ h.1) (sym w.2 ∙ h.2))
same_from bytes (r ∷ rs) [] h w = absurd (h.3 (sym h.1 ∙ w.1) (sym h.2 ∙ w.2))
same_from bytes (r ∷ rs) (s ∷ ss) h w = ap₂ (λ (x : Reservation) (y : List Reservation). x ∷ y)
    (same_reservation r s (sym h.1 ∙ w.1) (sym h.2 ∙ w.2)) (same_from (drop 16 bytes) rs ss h.4 w.4)

pub same_reservations : (bytes : List ℕ) (all others : List Reservation) → BeginsWithReservations bytes all → BeginsWithReservations bytes others → all ≡ others
same_reservations bytes all others h w = same_from bytes all others h w
