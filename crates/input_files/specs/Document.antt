-- The contents of a platform file: the numbers of its document, and their platform.
use Rattle.std.specs.Prelude.{◌≡◌, ℕ, ◌<◌, ◌≤◌, ℤ, pos, negsuc, Bool, true, false, ◌&&◌, ◌||◌}
use Rattle.std.specs.Prelude.{bytes_eq, if◌then◌else◌, List, [], ◌∷◌, Option, Some, None}
use Rattle.std.specs.Prelude.{option_map, option_and_then, codes}
use Rattle.std.specs.Str.{IsUtf8}
use Rattle.toml.specs.Data.{Data, Items, no_items, item, Members, no_members, member, get_member}
use Rattle.toml.specs.Data.{as_str, as_integer, as_array, as_table}
use Rattle.toml.specs.Parse.{parse_document}
use Rattle.pmp_encoding.specs.declared.perm.Perm.{Perm}
use Rattle.pmp_encoding.specs.Limits.{limit_number}
use Rattle.pmp_encoding.specs.Perms.{permission_of}
use Rattle.platforms.specs.Platform.{PlatformLayout, platform_rules}
use Rattle.platforms.specs.CheckLists.{AllPass}

-- the key is one of the names
abbrev pub is_known : List ℕ → List (List ℕ) → Bool
is_known key [] = false
is_known key (name ∷ names) = bytes_eq key name || is_known key names

-- all keys of a table are among these names
abbrev pub has_only : List (List ℕ) → Members → Bool
has_only names no_members = true
has_only names (member key value rest) = is_known key names && has_only names rest

-- a whole number from 0
abbrev pub natural : ℤ → Option ℕ
natural (pos n) = Some n
natural (negsuc n) = None

-- a value as a whole number from 0
abbrev pub number : Data → Option ℕ
number value = option_and_then natural (as_integer value)

-- the whole number from 0 at a key
abbrev pub number_at : List ℕ → Members → Option ℕ
number_at key table = option_and_then number (get_member key table)

-- a base and a size, in bytes
abbrev pub range_in : Members → Option (ℕ × ℕ)
range_in table = option_and_then (λ base. option_map (λ size. (base, size))
    (number_at (codes "size") table)) (number_at (codes "base") table)

-- a table with a base and a size only
abbrev pub range_of : Members → Option (ℕ × ℕ)
range_of table = if has_only (codes "base" ∷ codes "size" ∷ []) table then range_in table else None

-- the permission that a text names
abbrev pub perm_of : Data → Option Perm
perm_of value = option_and_then permission_of (as_str value)

-- the permission of a table
abbrev pub perm_at : Members → Option Perm
perm_at table = option_and_then perm_of (get_member (codes "perm") table)

-- the base, the size and the permission of a table
abbrev pub device_in : Members → Option (ℕ × ℕ × Perm)
device_in table = option_and_then
    (λ range. option_map (λ perm. (range.0, range.1, perm)) (perm_at table)) (range_in table)

-- a device: a base, a size and a permission, and no other key
abbrev pub device_of : Members → Option (ℕ × ℕ × Perm)
device_of table = if has_only (codes "base" ∷ codes "size" ∷ codes "perm" ∷ []) table
    then device_in table else None

-- each item of an array is a table that `f` can convert
abbrev pub each : {X : Type 0} → (Members → Option X) → Items → Option (List X)
each f no_items = Some []
each f (item value rest) = option_and_then (λ x. option_map (λ xs. x ∷ xs) (each f rest))
    (option_and_then f (as_table value))

-- the array of tables at a key
abbrev pub all_of : {X : Type 0} → (Members → Option X) → Data → Option (List X)
all_of f value = option_and_then (each f) (as_array value)

-- the range of the monitor
abbrev pub monitor_at : Members → Option (ℕ × ℕ)
monitor_at document = option_and_then range_of
    (option_and_then as_table (get_member (codes "monitor") document))

-- the ranges of memory
abbrev pub ram_at : Members → Option (List (ℕ × ℕ))
ram_at document = option_and_then (all_of range_of) (get_member (codes "ram") document)

-- the devices in a value, or none if it is missing
abbrev pub devices_told : Option Data → Option (List (ℕ × ℕ × Perm))
devices_told None = Some []
devices_told (Some value) = all_of device_of value

-- the devices with their permissions
abbrev pub devices_at : Members → Option (List (ℕ × ℕ × Perm))
devices_at document = devices_told (get_member (codes "device") document)

-- a number that may be omitted
abbrev pub number_told : ℕ → Option Data → Option ℕ
number_told usual None = Some usual
number_told usual (Some value) = number value

-- the number at a key, or the default
abbrev pub number_or : ℕ → List ℕ → Members → Option ℕ
number_or usual key document = number_told usual (get_member key document)

-- the keys of a platform file
abbrev pub known : List (List ℕ)
known = codes "monitor" ∷ codes "ram" ∷ codes "device" ∷ codes "harts" ∷ codes "entries" ∷ []

-- each part of a document has its form, and there are no unknown keys: `harts` is one by default,
-- and `entries` sixteen. The rules on these ranges and numbers are not checked here
pub record HasForm (document : Members) (monitor : ℕ × ℕ) (ram : List (ℕ × ℕ))
    (devices : List (ℕ × ℕ × Perm)) (harts entries : ℕ) : Type 0 where
  pub keys : has_only known document ≡ true
  pub monitor_is : monitor_at document ≡ Some monitor
  pub ram_is : ram_at document ≡ Some ram
  pub devices_are : devices_at document ≡ Some devices
  pub harts_are : number_or 1 (codes "harts") document ≡ Some harts
  pub entries_are : number_or 16 (codes "entries") document ≡ Some entries

-- the platform of these ranges and numbers: no rule on platforms is broken
pub record Builds (monitor : ℕ × ℕ) (ram : List (ℕ × ℕ)) (devices : List (ℕ × ℕ × Perm))
    (harts entries : ℕ) (platform : PlatformLayout) : Type 0 where
  pub rules : AllPass (platform_rules monitor ram devices)
  pub some_hart : 0 < harts
  pub four_harts : harts ≤ 4
  pub entries_are : limit_number platform.limit ≡ entries
  pub is : platform ≡ record {
    monitor = monitor;
    ram = ram;
    devices = devices;
    harts = harts;
    limit = platform.limit;
  }

-- a document is the platform: each part has its form, and the platform has its ranges and numbers
pub record IsPlatformDocument (document : Members) (platform : PlatformLayout) : Type 0 where
  pub monitor : ℕ × ℕ
  pub ram : List (ℕ × ℕ)
  pub devices : List (ℕ × ℕ × Perm)
  pub harts : ℕ
  pub entries : ℕ
  pub form : HasForm document monitor ram devices harts entries
  pub built : Builds monitor ram devices harts entries platform

-- a text is the platform: it is a TOML document of the platform
pub record IsPlatformText (text : List ℕ) (platform : PlatformLayout) : Type 0 where
  pub document : Members
  pub parsed : parse_document text ≡ Some document
  pub is_platform : IsPlatformDocument document platform

-- the bytes of a file are the platform: they are UTF-8 text of the platform
pub record IsPlatformFile (bytes : List ℕ) (platform : PlatformLayout) : Type 0 where
  pub text : IsUtf8 bytes
  pub platform_text : IsPlatformText bytes platform
