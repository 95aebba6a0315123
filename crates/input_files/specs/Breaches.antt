-- The checks of a platform's document in their order, and the first that fails.
use Rattle.std.specs.Prelude.{◌≡◌, ◌≢◌, ◌⊎◌, ℕ, ◌+◌, ◌<◌, ◌≤◌, false, List, [], ◌∷◌, ◌++◌, Option}
use Rattle.std.specs.Prelude.{Some, None, codes, ⊤}
use Rattle.toml.specs.Data.{Data, Items, no_items, item, Members, get_member, as_array, as_table}
use Rattle.pmp_encoding.specs.declared.perm.Perm.{Perm}
use Rattle.platforms.specs.Platform.{platform_rules}
use Rattle.platforms.specs.Ranges.{IsRange}
use Rattle.platforms.specs.CheckLists.{FailsFirst}
use Rattle.platforms.specs.declared.platform.PlatformFault.{PlatformFault}
use Rattle.platforms.specs.declared.platform.PlatformFault.TheVariants.{BadHarts, BadEntries}
use Rattle.platforms.specs.declared.platform.PlatformFault.TheVariants as rules
use Rattle.input_files.specs.Document.{HasForm, is_known, known, number, perm_of, range_in}
use Rattle.input_files.specs.declared.breach.Key.{Key}
use Rattle.input_files.specs.declared.breach.Key.TheVariants as keys
use Rattle.input_files.specs.declared.breach.TomlPath.{TomlPath}
use Rattle.input_files.specs.declared.breach.TomlPath.TheVariants.{File, Monitor, Ram, Device}
use Rattle.input_files.specs.declared.breach.Breach.{Breach}
use Rattle.input_files.specs.declared.breach.Breach.TheVariants.{Unknown, Missing, NoNumber}
use Rattle.input_files.specs.declared.breach.Breach.TheVariants.{NoPages, NoPerm, NoTable}
use Rattle.input_files.specs.declared.breach.Breach.TheVariants.{NoTables, Overlap, Rule}
use Rattle.input_files.specs.declared.fault.DocumentFault.{DocumentFault}
use Rattle.input_files.specs.declared.fault.DocumentFault.TheVariants as faults
use Rattle.input_files.specs.Overlaps.{IsOverlap, placed_ranges}

-- a key as it is written
abbrev pub key_name : Key → List ℕ
key_name keys.Monitor = codes "monitor"
key_name keys.Ram = codes "ram"
key_name keys.Device = codes "device"
key_name keys.Harts = codes "harts"
key_name keys.Entries = codes "entries"
key_name keys.Base = codes "base"
key_name keys.Size = codes "size"
key_name keys.Perm = codes "perm"

-- each check is given by the breaches that it finds; this is the first breach that the checks find
abbrev pub IsFirst : List (Breach → Type 0) → Breach → Type 0
IsFirst [] breach = ⊥
IsFirst (finds ∷ checks) breach = finds breach
    ⊎ (((other : Breach) → finds other → ⊥) × IsFirst checks breach)

-- a fault is the first breach that these checks find, or a failed allocation
abbrev pub IsFaultOf : List (Breach → Type 0) → DocumentFault → Type 0
IsFaultOf checks (faults.Breach breach) = IsFirst checks breach
IsFaultOf checks faults.Memory = ⊤

-- a table has a key outside this list
abbrev pub HasUnknown : List (List ℕ) → TomlPath → Members → Breach → Type 0
HasUnknown names place fields (Unknown spot key) = (spot ≡ place)
    × (get_member key.now fields ≢ None) × (is_known key.now names ≡ false)
HasUnknown names place fields _ = ⊥

-- the value at a key is not a whole number from 0
abbrev pub HasNoNumber : TomlPath → Key → Members → Breach → Type 0
HasNoNumber place key fields breach = (value : Data)
    × (get_member (key_name key) fields ≡ Some value) × (number value ≡ None)
    × (breach ≡ NoNumber place key)

-- a table lacks a key
abbrev pub Lacks : TomlPath → Key → Members → Breach → Type 0
Lacks place key fields breach = (get_member (key_name key) fields ≡ None)
    × (breach ≡ Missing place key)

-- the base and the size of a table do not give a range of whole pages
abbrev pub HasNoPages : TomlPath → Members → Breach → Type 0
HasNoPages place fields breach = (range : ℕ × ℕ) × (range_in fields ≡ Some range)
    × (IsRange range → ⊥) × (breach ≡ NoPages place)

-- the permission of a table is not one of the six
abbrev pub HasNoPerm : TomlPath → Members → Breach → Type 0
HasNoPerm place fields breach = (value : Data)
    × (get_member (codes "perm") fields ≡ Some value) × (perm_of value ≡ None)
    × (breach ≡ NoPerm place)

-- the checks of a base and a size
abbrev pub bounds_checks : TomlPath → Members → List (Breach → Type 0)
bounds_checks place fields = Lacks place keys.Base fields ∷ HasNoNumber place keys.Base fields
    ∷ Lacks place keys.Size fields ∷ HasNoNumber place keys.Size fields
    ∷ HasNoPages place fields ∷ []

-- the checks of the table of the monitor, or of a range of memory
abbrev pub range_checks : TomlPath → Members → List (Breach → Type 0)
range_checks place fields = HasUnknown (codes "base" ∷ codes "size" ∷ []) place fields
    ∷ bounds_checks place fields

-- the checks of the table of a device
abbrev pub device_checks : TomlPath → Members → List (Breach → Type 0)
device_checks place fields =
    HasUnknown (codes "base" ∷ codes "size" ∷ codes "perm" ∷ []) place fields
    ∷ bounds_checks place fields
    ++ Lacks place keys.Perm fields ∷ HasNoPerm place fields ∷ []

-- the checks of a value that should be a table
abbrev pub table_checks : (TomlPath → Members → List (Breach → Type 0)) → TomlPath → Option Members
    → List (Breach → Type 0)
table_checks checks place None = (λ breach. breach ≡ NoTable place) ∷ []
table_checks checks place (Some fields) = checks place fields

-- the checks of the items of an array from this number on, each of which should be a table
abbrev pub item_checks : (TomlPath → Members → List (Breach → Type 0)) → (ℕ → TomlPath) → ℕ → Items
    → List (Breach → Type 0)
item_checks checks place n no_items = []
item_checks checks place n (item value items) = table_checks checks (place n) (as_table value)
    ++ item_checks checks place (n + 1) items

-- the checks of a value that should be an array of tables
abbrev pub array_checks : (TomlPath → Members → List (Breach → Type 0)) → (ℕ → TomlPath) → Key
    → Option Items → List (Breach → Type 0)
array_checks checks place key None = (λ breach. breach ≡ NoTables key) ∷ []
array_checks checks place key (Some items) = item_checks checks place 1 items

-- the checks of the monitor
abbrev pub monitor_checks : Option Data → List (Breach → Type 0)
monitor_checks None = (λ breach. breach ≡ Missing File keys.Monitor) ∷ []
monitor_checks (Some value) = table_checks range_checks Monitor (as_table value)

-- the checks of memory
abbrev pub ram_checks : Option Data → List (Breach → Type 0)
ram_checks None = (λ breach. breach ≡ Missing File keys.Ram) ∷ []
ram_checks (Some value) = array_checks range_checks Ram keys.Ram (as_array value)

-- the checks of the devices, which may be missing
abbrev pub device_list_checks : Option Data → List (Breach → Type 0)
device_list_checks None = []
device_list_checks (Some value) = array_checks device_checks Device keys.Device (as_array value)

-- the checks of the form of a document: its keys, the monitor, memory, the devices, and the numbers
-- of harts and of entries
abbrev pub form_checks : Members → List (Breach → Type 0)
form_checks document =
    HasUnknown known File document
    ∷ (monitor_checks (get_member (codes "monitor") document)
    ++ (ram_checks (get_member (codes "ram") document)
    ++ (device_list_checks (get_member (codes "device") document)
    ++ (HasNoNumber File keys.Harts document ∷ HasNoNumber File keys.Entries document ∷ []))))

-- the first rule on platforms that ranges and numbers break: the rules on ranges come first, then
-- those on the numbers of harts and entries
abbrev pub BreaksRule : (ℕ × ℕ) → List (ℕ × ℕ) → List (ℕ × ℕ × Perm) → ℕ → ℕ → PlatformFault
    → Type 0
BreaksRule monitor ram devices harts entries fault =
    FailsFirst (platform_rules monitor ram devices
    ++ ((BadHarts, (0 < harts) × (harts ≤ 4))
    ∷ ((BadEntries, (entries ≡ 16) ⊎ (entries ≡ 64)) ∷ []))) fault

-- a broken rule as a breach of a document. An overlap includes the two ranges that have a page in
-- common
abbrev pub IsBroken : PlatformFault → List (ℕ × ℕ) → List (ℕ × ℕ × Perm) → Breach → Type 0
IsBroken fault ram devices (Rule told) = (told ≡ fault) × (fault ≢ rules.Overlap)
IsBroken fault ram devices (Overlap one other) = (fault ≡ rules.Overlap)
    × IsOverlap (placed_ranges ram devices) one other
IsBroken fault ram devices _ = ⊥

-- the ranges and numbers of a document break a rule
abbrev pub HasBrokenRule : Members → Breach → Type 0
HasBrokenRule document breach =
    (monitor : ℕ × ℕ) × (ram : List (ℕ × ℕ)) × (devices : List (ℕ × ℕ × Perm)) × (harts : ℕ)
    × (entries : ℕ) × (fault : PlatformFault) × HasForm document monitor ram devices harts entries
    × BreaksRule monitor ram devices harts entries fault × IsBroken fault ram devices breach

-- the checks of a document: those of its form, then the rules
abbrev pub document_checks : Members → List (Breach → Type 0)
document_checks document = form_checks document ++ HasBrokenRule document ∷ []
