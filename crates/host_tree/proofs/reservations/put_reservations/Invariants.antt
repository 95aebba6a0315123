use Rattle.std.proofs.Common.{◌≡◌, ℕ, List, ◌++◌, ◌*◌, drop, length}
use Rattle.device_tree.specs.Trees.{BeginsWithReservations}
use Rattle.host_tree.proofs.reservations.put_reservations.Given as goal

abbrev pub invariant-loop-one : goal.invariant-loop-one
invariant-loop-one l = (added : List ℕ) × (l.out.items ≡ l.initial.out.items ++ added) × (length added ≡ 16 * l.one-index)
    × ((rest : List ℕ) → BeginsWithReservations rest (drop l.one-index l.list) → BeginsWithReservations (added ++ rest) l.list)
