-- The accesses that words encode.
use Rattle.std.specs.Prelude.{◌≡◌, ℕ}
use Rattle.pmp_match.specs.declared.access.Access.{Access}
use Rattle.pmp_match.specs.declared.access.Kind.{Kind}
use Rattle.pmp_match.specs.declared.access.Kind.TheVariants.{Fetch, Load, Store}
use Rattle.pmp_match.specs.declared.access.Mode.{Mode}
use Rattle.pmp_match.specs.declared.access.Mode.TheVariants.{Machine, Supervisor, User}
use Rattle.planner_for_c.specs.declared.access.AccessWords.{AccessWords}

-- the numbers of privilege modes in the privileged architecture
abbrev pub mode_number : Mode → ℕ
mode_number User = 0
mode_number Supervisor = 1
mode_number Machine = 3

-- the bit of the permission that each kind of access requires
abbrev pub kind_number : Kind → ℕ
kind_number Load = 1
kind_number Store = 2
kind_number Fetch = 4

-- the words encode the access
pub record Says (words : AccessWords) (a : Access) : Type 0 where
  pub mode : mode_number a.mode ≡ words.mode
  pub kind : kind_number a.kind ≡ words.kind
  pub size : a.size ≡ words.size
  pub address : a.address ≡ words.address
