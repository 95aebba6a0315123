-- The measured bytes of an enclave and their digest.
use Rattle.std.specs.Prelude.{ℕ, List, ◌++◌}
use Rattle.std.specs.List.{concat}
use Rattle.byteorder.specs.Endian.{little_bytes}
use Rattle.sha2.specs.Sha256.{sha256}
use Rattle.measurement.specs.declared.measured.Layout.{Layout}

-- the four numbers of a layout, each in eight bytes, the lowest first. The base is not included
abbrev pub layout_bytes : Layout → List ℕ
layout_bytes layout =
    little_bytes 8 layout.text_pages ++ little_bytes 8 layout.data_pages
    ++ little_bytes 8 layout.shared_count ++ little_bytes 8 layout.entry_offset

-- the SHA-256 digest (FIPS 180-4) of an enclave: of its layout and then the bytes of each private
-- page, by ascending address
abbrev pub digest_of : Layout → List (List ℕ) → List ℕ
digest_of layout pages = sha256 (layout_bytes layout ++ concat pages)
