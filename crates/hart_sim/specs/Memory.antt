-- Memory: a byte at each address, and the written pages.
use Rattle.std.specs.Prelude.{ℕ, zero, suc, ◌+◌, ◌-◌, ◌*◌, ◌/◌, ◌%◌, Bool, if◌then◌else◌, List, []}
use Rattle.std.specs.Prelude.{◌∷◌, is_some}
use Rattle.measurement.specs.Digests.{measured}
use Rattle.measurement.specs.declared.request.Create.{Create}
use Rattle.pmp_encoding.specs.Registers.{byte_of}
pub use Rattle.permission_map.specs.Runs.{in_range}
use Rattle.hart_sim.specs.declared.memory.Memory.{Memory}
use Rattle.hart_sim.specs.Groups.{byte_in, page_in}

-- `count` bytes from an address on
unfoldable pub bytes_at : (ℕ → ℕ) → ℕ → ℕ → List ℕ
bytes_at memory address zero = []
bytes_at memory address (suc count) = memory address ∷ bytes_at memory (address + 1) count

-- the digest of a new enclave: that of the current contents of its private pages
abbrev pub measured_in : (ℕ → ℕ) → Create → List ℕ
measured_in memory = measured (λ page. bytes_at memory (page * 4096) 4096)

-- the little-endian number of bytes
abbrev pub number_of_bytes : List ℕ → ℕ
number_of_bytes [] = 0
number_of_bytes (byte ∷ bytes) = byte + 256 * number_of_bytes bytes

-- the memory after storing the lowest bytes of a value at an address, lowest first
abbrev pub stored : (ℕ → ℕ) → ℕ → ℕ → ℕ → ℕ → ℕ
stored memory address size value a = if in_range address size a then byte_of value (a - address)
    else memory a

-- the memory with these pages zeroed
abbrev pub zeroed : (ℕ → ℕ) → ℕ → ℕ → ℕ → ℕ
zeroed memory first count a = if in_range first count (a / 4096) then 0 else memory a

-- the byte at an address
abbrev pub byte_at : Memory → ℕ → ℕ
byte_at memory a = byte_in (page_in memory (a / 4096)) (a % 4096)

-- the page has been written
abbrev pub is_written : Memory → ℕ → Bool
is_written memory page = is_some (page_in memory page)
