-- The names of a tree that was read have no zero byte.
use Rattle.std.proofs.Common.{ℕ, List, [], ◌∷◌, ⊎_elim, drop}
use Rattle.device_tree.specs.declared.reservations.Reservation.{Reservation}
use Rattle.device_tree.specs.Pieces.{Part, SpellsParts, begins, ends, has, part, skipped}
use Rattle.device_tree.specs.Trees.{BeginsWithReservations}
use Rattle.device_tree.specs.Words.{word_at}
use Rattle.host_tree.specs.Refusals.{HasEmpty, HasZeroName}
use Rattle.host_tree.proofs.Texts.{text_read}

pub none_zero : (strings bytes : List ℕ) (parts : List Part) → SpellsParts strings bytes parts → HasZeroName parts → ⊥
none_zero strings bytes [] spelt h = h
none_zero strings bytes parts (skipped nop spelt) h = none_zero strings (drop 4 bytes) parts spelt h
none_zero strings bytes (begins name ∷ later) (part one spelt) h = ⊎_elim (λ zero. zero (text_read (drop 4 bytes) name one.1)) (λ more. none_zero strings _
    later spelt more) h
none_zero strings bytes (has s ∷ later) (part one spelt) h = ⊎_elim (λ zero. zero (text_read (drop (word_at bytes 8) strings) s.name one.2))
    (λ more. none_zero strings _ later spelt more) h
none_zero strings bytes (ends ∷ later) (part one spelt) h = none_zero strings _ later spelt h

-- and none of its reservations is the pair that ends them
pub none_empty : (bytes : List ℕ) (list : List Reservation) → BeginsWithReservations bytes list → HasEmpty list → ⊥
none_empty bytes [] begun h = h
none_empty bytes (first ∷ later) begun h = ⊎_elim (λ zero. begun.3 zero.0 zero.1) (λ more. none_empty (drop 16 bytes) later begun.4 more) h
