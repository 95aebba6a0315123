-- The members of a table, one after another.
use Rattle.std.proofs.Common.{◌≡◌, ◌≢◌, ◌∷◌, ℕ, List, None, String, Global, string_bytes}
use Rattle.std.proofs.lemmas.Cmp.{nat_list_cmp_total, tied_itself}
use Rattle.toml.specs.Data.{get_member}
use Rattle.toml.specs.View.{members_view}
use Rattle.toml.specs.declared.value.Value.{Value}

-- the key of the first member is there
pub first_there : (key : List ℕ) (name : String Global) (value : Value) (rest : List (String Global × Value)) → key ≡ string_bytes name
    → get_member key (members_view ((name, value) ∷ rest)) ≢ None
first_there key name value rest is = rw (is, tied_itself nat_list_cmp_total (string_bytes name)) (λ none. cc)
