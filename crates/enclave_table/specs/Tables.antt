-- The invariant of tables, and of the lists of entries stored with them.
use Rattle.std.specs.Prelude.{◌≡◌, ℕ, ◌-◌, true, List, slice_index_or, false, [], length}
use Rattle.pmp_encoding.specs.declared.region.Entry.{Entry}
use Rattle.prefix_tree.specs.Trees.{PermTree, TreeMeans, IsCanonical}
use Rattle.sbi_decode.specs.declared.world.World.{World}
use Rattle.sbi_decode.specs.declared.world.World.TheVariants.{Host, Enclave as InEnclave}
use Rattle.platforms.specs.Platform.{is_ram, IsLayout}
use Rattle.measurement.specs.Requests.{is_private, is_shared, is_part, HasCounts, HasPlaces}
use Rattle.measurement.specs.Requests.{HasEntry}
use Rattle.enclave_table.specs.Enclaves.{EnclaveTable, Live}
use Rattle.enclave_table.specs.Views.{host_view, enclave_view}
use Rattle.enclave_table.specs.Fewest.{IsListOf}
use Rattle.enclave_table.specs.declared.enclave.Enclave.{Enclave}
use Rattle.enclave_table.specs.declared.enclave.Stage.TheVariants.{Running}
use Rattle.measurement.specs.declared.request.Create.{Create}
use Rattle.platforms.specs.Ranges.{has_page}

-- a live enclave satisfies the checks of create: its pages are memory, none belongs to the monitor,
-- and none is both private and shared
pub record IsSound (table : EnclaveTable) (parts : Create) : Type 0 where
  pub counts : HasCounts parts
  pub places : HasPlaces parts
  pub entry : HasEntry parts
  pub in_ram : (page : ℕ) → is_part parts page ≡ true → is_ram table.layout page ≡ true
  pub not_monitor : (page : ℕ) → is_part parts page ≡ true
      → has_page table.layout.monitor page ≡ false
  pub apart : (page : ℕ) → is_private parts page ≡ true → is_shared parts page ≡ false

-- the invariant of every table: 64 places, and no page belongs to two enclaves
pub record IsTable (table : EnclaveTable) : Type 0 where
  pub layout : IsLayout table.layout
  pub places : length table.enclaves ≡ 64
  pub sound : (id : ℕ) (e : Enclave) → Live table id e → IsSound table e.parts
  pub alone : (id other : ℕ) (e f : Enclave) (page : ℕ) → Live table id e → Live table other f
      → is_part e.parts page ≡ true → is_part f.parts page ≡ true → id ≡ other

-- the world is the host's, or that of a Running enclave
abbrev pub IsCurrent : EnclaveTable → World → Type 0
IsCurrent table Host = Unit {0}
IsCurrent table (InEnclave id) = (e : Enclave) × Live table id e × (e.state ≡ Running)

-- a table, with the host's list and the list of the enclave at each place
pub record Kept : Type 0 where
  pub table : EnclaveTable
  pub host_list : List Entry
  pub lists : List (List Entry)

-- the list of the enclave with this id
abbrev pub list_at : Kept → ℕ → List Entry
list_at kept id = slice_index_or kept.lists (id - 1) []

-- the invariant of a table with its lists
pub record IsKept (kept : Kept) : Type 0 where
  pub table : IsTable kept.table
  pub host : IsListOf kept.table.layout.limit (host_view kept.table) kept.host_list
  pub places : length kept.lists ≡ 64
  pub each : (id : ℕ) (e : Enclave) → Live kept.table id e
      → IsListOf kept.table.layout.limit (enclave_view e.parts) (list_at kept id)

-- the tree of the host's view
pub record IsHostTree (table : EnclaveTable) (tree : PermTree) : Type 0 where
  pub means : TreeMeans (host_view table) tree
  pub canonical : IsCanonical tree
