-- The fewest entries of a view, and the limit on them.
use Rattle.std.specs.Prelude.{ℕ, ◌≤◌, List, ◌<◌, ⊤, length}
use Rattle.pmp_encoding.specs.Limits.{limit_number}
use Rattle.pmp_encoding.specs.declared.limit.Limit.{Limit}
use Rattle.pmp_encoding.specs.declared.region.Entry.{Entry}
use Rattle.pmp_match.specs.Meaning.{View, IsFewest, Needs}
use Rattle.enclave_table.specs.declared.refusal.Refusal.{Refusal}
use Rattle.enclave_table.specs.declared.refusal.Refusal.TheVariants.{NoEntries, NoMemory}

-- the view needs at most as many entries as a hart has
abbrev pub FitsIn : Limit → View → Type 0
FitsIn limit view = (n : ℕ) × Needs view n × (n ≤ limit_number limit)

-- the view needs more entries than a hart has
abbrev pub NeedsMore : Limit → View → Type 0
NeedsMore limit view = (n : ℕ) × Needs view n × (limit_number limit < n)

-- the reason why a view cannot be loaded: it needs too many entries, or an allocation failed
abbrev pub IsWant : Limit → View → Refusal → Type 0
IsWant limit view NoEntries = NeedsMore limit view
IsWant limit view NoMemory = ⊤
IsWant limit view _ = ⊥

-- the entries mean the view, no shorter list does, and they fit
pub record IsListOf (limit : Limit) (view : View) (entries : List Entry) : Type 0 where
  pub fewest : IsFewest view entries
  pub room : length entries ≤ limit_number limit
