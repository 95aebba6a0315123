-- Short names of what definitions say at length.
use Rattle.std.specs.Prelude.{ℕ, Bool, List, Option, option_map, unwrap_or, false}
use Rattle.std.specs.List.{list_any}
use Rattle.pmp_encoding.specs.declared.perm.Perm.{Perm}
use Rattle.pmp_encoding.specs.declared.perm.Perm.TheVariants.{NoAccess}
use Rattle.enclave_table.specs.Views.{enclave_view}
use Rattle.measurement.specs.Requests.{is_private}
use Rattle.enclave_table.specs.declared.enclave.Enclave.{Enclave}

-- whether a page is private to the enclave of a slot, if there is one
abbrev pub has_private : Option Enclave → ℕ → Bool
has_private slot page = unwrap_or (option_map (λ e. is_private e.parts page) slot) false

-- whether a page is private to one of the enclaves
abbrev pub any_private : List (Option Enclave) → ℕ → Bool
any_private slots page = list_any (λ slot. has_private slot page) slots

-- the view of the enclave of a slot
abbrev pub view_in : Option Enclave → ℕ → Perm
view_in slot page = unwrap_or (option_map (λ e. enclave_view e.parts page) slot) NoAccess
