-- Stretches that differ, among those that are still to come.
use Rattle.std.proofs.Common.{◌≢◌, ℕ, ◌+◌, ◌<◌, List, ◌∷◌, drop, get_or, length}
use Rattle.std.proofs.lemmas.List.{drop_more}
use Rattle.map_table.specs.declared.stretch.Stretch.{Stretch}
use Rattle.register_audit.specs.Differences.{AreOdd, other, same}
use Rattle.register_audit.specs.Findings.{agrees}

pub pass_it : (all : List Stretch) (i : ℕ) (d : Stretch) (odd : List Stretch) → i < length all → agrees (get_or all i d) → AreOdd (drop (i + 1) all) odd
    → AreOdd (drop i all) odd
pass_it all i d odd less agree are = rw (drop_more all i d less) (same (get_or all i d) agree are)

pub take_it :
    (all : List Stretch) (i : ℕ) (d : Stretch) (odd : List Stretch) → i < length all → (get_or all i d).wanted ≢ (get_or all i d).given
    → AreOdd (drop (i + 1) all) odd → AreOdd (drop i all) (get_or all i d ∷ odd)
take_it all i d odd less differs are = rw (drop_more all i d less) (other (get_or all i d) differs are)
