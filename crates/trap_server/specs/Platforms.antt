-- The first frame: the platform.
use Rattle.std.specs.Prelude.{◌≡◌, ◌⊎◌, ℕ, zero, suc, ◌+◌, ◌*◌, ◌<◌, ◌≤◌, List, [], ◌∷◌, ◌++◌}
use Rattle.std.specs.Prelude.{length, map, Option, Result, Ok, Err}
use Rattle.std.specs.Io.KnownBytes.{Consumes, IsAtEnd}
use Rattle.pmp_encoding.specs.declared.perm.Perm.{Perm}
use Rattle.pmp_encoding.specs.Perms.{bits_of}
use Rattle.pmp_encoding.specs.Limits.{limit_number}
use Rattle.platforms.specs.Platform.{PlatformLayout, platform_rules}
use Rattle.platforms.specs.CheckLists.{FailsFirst}
use Rattle.platforms.specs.declared.platform.PlatformFault.{PlatformFault}
use Rattle.platforms.specs.declared.platform.PlatformFault.TheVariants.{BadNumber, BadHarts}
use Rattle.platforms.specs.declared.platform.PlatformFault.TheVariants.{BadEntries}
use Rattle.trap_server.specs.Words.{word_at, platform_tag}
use Rattle.trap_server.specs.FrameBytes.{Breaks}
use Rattle.trap_server.specs.declared.frame_fault.FrameFault.{FrameFault}
use Rattle.trap_server.specs.declared.frame_fault.FrameFault.TheVariants as faults
use Rattle.trap_server.specs.declared.end.EndReason.{EndReason}
use Rattle.trap_server.specs.declared.end.EndReason.TheVariants.{NotUnderstood, Platform}
use Rattle.trap_server.specs.declared.end.EndReason.TheVariants.{NeedsEntries, Memory}

-- the first n ranges of memory: two words each, from word 7 on
abbrev pub ram_in : List ℕ → ℕ → List (ℕ × ℕ)
ram_in bytes zero = []
ram_in bytes (suc n) = ram_in bytes n
    ++ ((word_at bytes (7 + 2 * n), word_at bytes (8 + 2 * n)) ∷ [])

-- the words of the first n devices: three each, from word 71 on
abbrev pub device_words : List ℕ → ℕ → List (ℕ × ℕ × ℕ)
device_words bytes zero = []
device_words bytes (suc n) = device_words bytes n
    ++ ((word_at bytes (71 + 3 * n), word_at bytes (72 + 3 * n), word_at bytes (73 + 3 * n)) ∷ [])

-- the three words of a device: base, size, and the bits of the permission
abbrev pub words_of_device : (ℕ × ℕ × Perm) → ℕ × ℕ × ℕ
words_of_device device = (device.0, device.1, bits_of device.2)

-- the words of all devices
abbrev pub words_of : List (ℕ × ℕ × Perm) → List (ℕ × ℕ × ℕ)
words_of devices = map words_of_device devices

-- the words 3 to 6, and those from word 7 on, are the ranges of a platform
pub record HasRanges (bytes : List ℕ) (layout : PlatformLayout) : Type 0 where
  pub monitor : layout.monitor ≡ (word_at bytes 3, word_at bytes 4)
  pub ram : layout.ram ≡ ram_in bytes (word_at bytes 5)
  pub devices : words_of layout.devices ≡ device_words bytes (word_at bytes 6)

-- the bytes are the frame of a platform
pub record IsPlatformFrame (bytes : List ℕ) (layout : PlatformLayout) : Type 0 where
  pub tag : word_at bytes 0 ≡ platform_tag
  pub harts : layout.harts ≡ word_at bytes 1
  pub entries : limit_number layout.limit ≡ word_at bytes 2
  pub ranges : HasRanges bytes layout

-- the frame has room for its ranges and devices
abbrev pub AreFew : List ℕ → Type 0
AreFew bytes = (word_at bytes 5 ≤ 32) × (word_at bytes 6 ≤ 32)

-- the third word of a device encodes no permission
abbrev pub LacksPermission : List ℕ → Type 0
LacksPermission bytes = (k : ℕ) × (k < word_at bytes 6)
    × ((perm : Perm) → bits_of perm ≡ word_at bytes (73 + 3 * k) → ⊥)

-- the rules for the numbers of harts and entries, each with its fault
abbrev pub shape_rules : List ℕ → List (PlatformFault × Type 0)
shape_rules bytes = (BadHarts, (0 < word_at bytes 1) × (word_at bytes 1 ≤ 4))
    ∷ ((BadEntries, (word_at bytes 2 ≡ 16) ⊎ (word_at bytes 2 ≡ 64)) ∷ [])

-- there is no room for the ranges; or this is the first broken rule among those for the ranges of a
-- platform and `more`
abbrev pub BreaksRule : List ℕ → List (PlatformFault × Type 0) → PlatformFault → Type 0
BreaksRule bytes more fault =
    ((fault ≡ BadNumber) × (AreFew bytes → ⊥))
    ⊎ (AreFew bytes × (layout : PlatformLayout) × HasRanges bytes layout
    × FailsFirst (platform_rules layout.monitor layout.ram layout.devices ++ more) fault)

-- the reason why bytes are not the ranges of a platform
abbrev pub AreNoRanges : EndReason → List ℕ → Type 0
AreNoRanges NotUnderstood bytes = AreFew bytes × LacksPermission bytes
AreNoRanges (Platform fault) bytes = BreaksRule bytes [] fault
AreNoRanges (NeedsEntries count) bytes = ⊥
AreNoRanges Memory bytes = ⊥

-- the reason why bytes of the size of a platform frame are invalid: another tag, or a device
-- without a permission, is not understood; otherwise the first broken rule is the reason
abbrev pub IsNoPlatform : EndReason → List ℕ → Type 0
IsNoPlatform NotUnderstood bytes = (word_at bytes 0 ≡ platform_tag → ⊥)
    ⊎ ((word_at bytes 0 ≡ platform_tag) × AreFew bytes × LacksPermission bytes)
IsNoPlatform (Platform fault) bytes = (word_at bytes 0 ≡ platform_tag)
    × BreaksRule bytes (shape_rules bytes) fault
IsNoPlatform (NeedsEntries count) bytes = ⊥
IsNoPlatform Memory bytes = ⊥

-- the result of reading the platform, by the bytes consumed
abbrev pub ReadsPlatform : Result (Result PlatformLayout EndReason) FrameFault → Option (List ℕ)
    → Option (List ℕ) → Type 0
ReadsPlatform (Ok (Ok layout)) before after = (bytes : List ℕ) × (length bytes ≡ 1336)
    × IsPlatformFrame bytes layout × Consumes before after bytes
ReadsPlatform (Ok (Err refusal)) before after = (bytes : List ℕ) × (length bytes ≡ 1336)
    × IsNoPlatform refusal bytes × Consumes before after bytes
ReadsPlatform (Err faults.NotUnderstood) before after = (bytes : List ℕ) × (length bytes < 1336)
    × IsAtEnd after × Consumes before after bytes
ReadsPlatform (Err faults.Read) before after = Breaks 1336 before after
ReadsPlatform (Err faults.Write) before after = ⊥
