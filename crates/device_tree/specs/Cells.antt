-- Addresses and sizes in properties of a device tree. Devicetree Specification 0.4, sections 2.3.5,
-- 2.3.6 and 2.3.8.
use Rattle.std.specs.Prelude.{◌≡◌, ℕ, ◌+◌, ◌*◌, ◌<◌, ◌≤◌, List, [], ◌∷◌}
use Rattle.std.specs.Prelude.{length, drop}
use Rattle.byteorder.specs.Endian.{big_number}
use Rattle.device_tree.specs.declared.cells.Cells.{Cells}
use Rattle.device_tree.specs.declared.rows.Extent.{Extent}

-- the number in the first cells, of four bytes each
abbrev pub number_of : ℕ → List ℕ → ℕ
number_of cells bytes = big_number (4 * cells) bytes

-- the number of bytes of an address and a size
abbrev pub row_len : Cells → ℕ
row_len cells = 4 * (cells.address + cells.size)

-- the bytes are these rows, each an address and a size
abbrev pub AreRows : Cells → List ℕ → List Extent → Type 0
AreRows cells bytes [] = bytes ≡ []
AreRows cells bytes (first ∷ later) = (0 < row_len cells) × (row_len cells ≤ length bytes)
    × (first.base ≡ number_of cells.address bytes)
    × (first.size ≡ number_of cells.size (drop (4 * cells.address) bytes))
    × AreRows cells (drop (row_len cells) bytes) later
