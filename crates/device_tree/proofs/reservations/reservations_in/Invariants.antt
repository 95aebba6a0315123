use Rattle.std.proofs.Common.{◌≡◌, ◌≤◌, ◌-◌, ◌%◌, List, ◌++◌, drop, length}
use Rattle.device_tree.specs.Trees.{BeginsWithReservations}
use Rattle.device_tree.specs.declared.reservations.Reservation.{Reservation}
use Rattle.device_tree.proofs.reservations.reservations_in.Given as goal

abbrev pub invariant-pairs : goal.invariant-pairs
invariant-pairs l = record {
  within : l.at ≤ length l.bytes;
  whole_pairs : l.at % 16 ≡ 0;
  whole : (later : List Reservation) → BeginsWithReservations (drop l.at l.bytes) later → BeginsWithReservations l.bytes (l.list.items ++ later);
  left : (all : List Reservation) → BeginsWithReservations l.bytes all → (later : List Reservation) × (all ≡ l.list.items ++ later)
      × BeginsWithReservations (drop l.at l.bytes) later;
}

abbrev pub decreases-pairs : goal.decreases-pairs
decreases-pairs l = length l.bytes - l.at
