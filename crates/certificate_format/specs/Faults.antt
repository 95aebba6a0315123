-- The conditions under which the next part cannot be read.
use Rattle.std.specs.Prelude.{◌≡◌, ◌≢◌, ℕ, ◌<◌, ◌≤◌, ◌⊎◌, List, [], ◌∷◌, ◌++◌, length, take}
use Rattle.pmp_encoding.specs.declared.perm.Perm.{Perm}
use Rattle.pmp_encoding.specs.Perms.{bits_of}
use Rattle.certificate_format.specs.declared.fault.ReadFault.{ReadFault}
use Rattle.certificate_format.specs.declared.fault.ReadFault.TheVariants.{BadMagic, BadVersion}
use Rattle.certificate_format.specs.declared.fault.ReadFault.TheVariants.{Truncated, BadTag}
use Rattle.certificate_format.specs.declared.fault.ReadFault.TheVariants.{BadPerm, BadLimit}
use Rattle.certificate_format.specs.declared.header.Version.{Version}
use Rattle.certificate_format.specs.Spelling.{magic, version_bytes}

-- the number of a fault
abbrev pub read_fault_number : ReadFault → ℕ
read_fault_number BadMagic = 1
read_fault_number BadVersion = 2
read_fault_number Truncated = 3
read_fault_number BadTag = 4
read_fault_number BadPerm = 5
read_fault_number BadLimit = 16

-- there are fewer than n bytes
abbrev pub ShortFault : ℕ → List ℕ → ReadFault → Type 0
ShortFault n bytes Truncated = length bytes < n
ShortFault n bytes _ = ⊥

-- there are too few bytes, or they differ from the magic
abbrev pub MagicFault : List ℕ → ReadFault → Type 0
MagicFault bytes Truncated = length bytes < 4
MagicFault bytes BadMagic = (4 ≤ length bytes) × (take 4 bytes ≢ magic)
MagicFault bytes _ = ⊥

-- the version byte is missing or neither 1 nor 2, or the limit byte of version 2 is missing or
-- neither 16 nor 64
abbrev pub VersionFault : List ℕ → ReadFault → Type 0
VersionFault bytes Truncated = (bytes ≡ []) ⊎ (bytes ≡ 2 ∷ [])
VersionFault bytes BadVersion = (b : ℕ) × (rest : List ℕ) × (bytes ≡ b ∷ rest) × (b ≢ 1) × (b ≢ 2)
VersionFault bytes BadLimit = (b : ℕ) × (rest : List ℕ) × (bytes ≡ 2 ∷ b ∷ rest) × (b ≢ 0x10)
    × (b ≢ 0x40)
VersionFault bytes _ = ⊥

-- the fault is in the magic; or the magic is right, and it is in the version; or both are right,
-- and it is in the count
pub data HeaderFault (bytes : List ℕ) (fault : ReadFault) : Type 0 where
  in_magic : MagicFault bytes fault → HeaderFault bytes fault
  in_version : (rest : List ℕ) → bytes ≡ magic ++ rest → VersionFault rest fault
      → HeaderFault bytes fault
  in_count : (version : Version) (rest : List ℕ) → bytes ≡ magic ++ (version_bytes version ++ rest)
      → ShortFault 4 rest fault → HeaderFault bytes fault

-- the tag is missing or unknown
abbrev pub TagFault : List ℕ → ReadFault → Type 0
TagFault bytes Truncated = bytes ≡ []
TagFault bytes BadTag = (b : ℕ) × (rest : List ℕ) × (bytes ≡ b ∷ rest) × (b ≢ 0) × (b ≢ 1)
TagFault bytes _ = ⊥

-- the permission is missing or unknown
abbrev pub PermFault : List ℕ → ReadFault → Type 0
PermFault bytes Truncated = bytes ≡ []
PermFault bytes BadPerm = (b : ℕ) × (rest : List ℕ) × (bytes ≡ b ∷ rest)
    × ((p : Perm) → bits_of p ≢ b)
PermFault bytes _ = ⊥
