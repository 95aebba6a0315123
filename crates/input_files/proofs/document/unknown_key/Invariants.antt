use Rattle.std.proofs.Common.{◌≡◌, ℕ, List, None, map}
use Rattle.toml.specs.Data.{get_member}
use Rattle.toml.specs.View.{members_view}
use Rattle.input_files.specs.Document.{has_only}
use Rattle.input_files.proofs.document.unknown_key.Given as goal

-- the keys that are left are the table's, and one of them has another name exactly where one of the table's has
abbrev pub invariant-keys : goal.invariant-keys
invariant-keys l =
    (goal.iterator-keys).can_next l.key-iterator × (goal.iterator-keys).is_finite l.key-iterator
    × (has_only (map (λ name. name.now) l.names) (members_view l.key-iterator) ≡ has_only (map (λ name. name.now) l.names) (members_view l.table.entries))
    × ((key : List ℕ) → get_member key (members_view l.table.entries) ≡ None → get_member key (members_view l.key-iterator) ≡ None)
