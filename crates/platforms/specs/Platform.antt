-- A platform: the pages of memory, of devices and of the monitor, and the rules on its ranges.
use Rattle.std.specs.Prelude.{◌≡◌, ℕ, ◌<◌, ◌≤◌, Bool, true, cond, List, [], ◌∷◌, ◌++◌, length, map}
use Rattle.std.specs.List.{All, list_any}
use Rattle.pmp_encoding.specs.declared.perm.Perm.{Perm}
use Rattle.pmp_encoding.specs.declared.perm.Perm.TheVariants.{NoAccess, ReadWriteExecute}
use Rattle.pmp_encoding.specs.declared.limit.Limit.{Limit}
use Rattle.platforms.specs.declared.platform.PlatformFault.{PlatformFault}
use Rattle.platforms.specs.declared.platform.PlatformFault.TheVariants.{BadRange, Overlap}
use Rattle.platforms.specs.declared.platform.PlatformFault.TheVariants.{MonitorNotRam, BadNumber}
use Rattle.platforms.specs.declared.platform.PlatformFault.TheVariants.{BadHarts, BadEntries}
use Rattle.platforms.specs.CheckLists.{AllPass}
use Rattle.platforms.specs.Ranges.{IsRange, EachApart, has_page}

-- the numbers of the faults
abbrev pub platform_fault_number : PlatformFault → ℕ
platform_fault_number BadRange = 1
platform_fault_number Overlap = 2
platform_fault_number MonitorNotRam = 3
platform_fault_number BadNumber = 4
platform_fault_number BadHarts = 5
platform_fault_number BadEntries = 6

-- the pages of memory, of devices and of the monitor, the number of harts, and their number of
-- entries
pub record PlatformLayout : Type 0 where
  pub monitor : ℕ × ℕ
  pub ram : List (ℕ × ℕ)
  pub devices : List (ℕ × ℕ × Perm)
  pub harts : ℕ
  pub limit : Limit

-- the rules on the ranges of a platform, each with its fault: each range consists of whole pages,
-- below 2 ^ 56; no two of all the memory and device ranges have a page in common; each page of the
-- monitor is memory; and there are 1 to 32 ranges of memory and at most 32 devices
abbrev pub platform_rules : (ℕ × ℕ) → List (ℕ × ℕ) → List (ℕ × ℕ × Perm)
    → List (PlatformFault × Type 0)
platform_rules monitor ram devices = (
  BadRange,
  IsRange monitor × All IsRange ram
      × All (λ device. IsRange (device.0, device.1)) devices,
)
    ∷ ((Overlap, EachApart (ram ++ map (λ device. (device.0, device.1)) devices))
    ∷ ((
      MonitorNotRam,
      (page : ℕ) → has_page monitor page ≡ true
          → list_any (λ range. has_page range page) ram ≡ true,
    )
    ∷ ((BadNumber, (0 < length ram) × (length ram ≤ 32) × (length devices ≤ 32))
    ∷ [])))

-- a platform satisfies every rule, and has one to four harts
pub record IsLayout (layout : PlatformLayout) : Type 0 where
  pub rules : AllPass (platform_rules layout.monitor layout.ram layout.devices)
  pub some_hart : 0 < layout.harts
  pub four_harts : layout.harts ≤ 4

-- the permission of a page of a device, or no access elsewhere
abbrev pub device_perm : List (ℕ × ℕ × Perm) → ℕ → Perm
device_perm [] page = NoAccess
device_perm (device ∷ devices) page =
    cond (has_page (device.0, device.1) page) device.2 (device_perm devices page)

-- the page is memory
abbrev pub is_ram : PlatformLayout → ℕ → Bool
is_ram layout page = list_any (λ range. has_page range page) layout.ram

-- the permission of a page: everything in memory, the given permission on a device, and nothing
-- elsewhere
abbrev pub platform_perm : PlatformLayout → ℕ → Perm
platform_perm layout page = cond (is_ram layout page) ReadWriteExecute
    (device_perm layout.devices page)
