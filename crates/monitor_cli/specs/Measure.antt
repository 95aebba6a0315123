-- The output of `measure`: the digest that the monitor measures for an enclave with a file's bytes.
use Rattle.std.specs.Prelude.{◌≡◌, ◌⊎◌, ℕ, ◌+◌, ◌*◌, ◌<◌, ◌≤◌, ◌++◌, List, take, drop, codes}
use Rattle.std.specs.Prelude.{decimal}
use Rattle.std.specs.Borrow.{Bor}
use Rattle.byteorder.specs.Endian.{little_number}
use Rattle.hex.specs.Hex.{encode_lower}
use Rattle.text_lines.specs.Written.{hex}
use Rattle.measurement.specs.declared.measured.Layout.{Layout}
use Rattle.measurement.specs.Digests.{blank_page, measured}
use Rattle.program_files.specs.declared.trouble.Trouble.{Trouble}
use Rattle.program_files.specs.declared.trouble.Trouble.TheVariants.{TooLarge}
use Rattle.program_files.specs.Reading.{Reading, IsUnread, HasBytes, HasNoBytes}
use Rattle.command_line.specs.Layouts.{at_zero}

-- the page of a file with this number, padded with zeros after the end of the file
abbrev pub page_of : List ℕ → ℕ → List ℕ
page_of bytes i = take 4096 (drop (4096 * i) bytes ++ blank_page)

-- the digest that the monitor measures for an enclave with this layout whose pages of text and data
-- contain these bytes, at any address
abbrev pub enclave_digest : Layout → List ℕ → List ℕ
enclave_digest layout bytes = measured (page_of bytes) (at_zero layout)

-- the number of bytes of its pages of text and data
abbrev pub enclave_bytes : Layout → ℕ
enclave_bytes layout = 4096 * (layout.text_pages + layout.data_pages)

-- `word K 0xWWWWWWWWWWWWWWWW`, a word of a digest as the monitor returns it: a little-endian number
-- of eight bytes
abbrev pub word_text : List ℕ → ℕ → List ℕ
word_text digest k = codes "word " ++ decimal k ++ codes " 0x"
    ++ hex 16 (little_number 8 (drop (8 * k) digest)) ++ codes "\n"

-- `digest DIGEST`, in lower-case hexadecimal, and its four words
abbrev pub digest_text : List ℕ → List ℕ
digest_text digest = codes "digest " ++ encode_lower digest ++ codes "\n" ++ word_text digest 0
    ++ word_text digest 1 ++ word_text digest 2 ++ word_text digest 3

-- `measure` reads the file and prints the text of its digest
abbrev pub IsDigested : {R : Type 0} → Layout → Reading R → List ℕ → ℕ → Type 0
IsDigested layout first text status = (bytes : List ℕ)
    × (layout.text_pages + layout.data_pages ≤ 1024) × HasBytes (enclave_bytes layout) first bytes
    × (text ≡ digest_text (enclave_digest layout bytes)) × (status ≡ 0)

-- a layout with more pages of text and data than an enclave may have is rejected before the file is
-- read
abbrev pub IsUndigested : {R : Type 0} → Bor (List ℕ) → Layout → Reading R → Trouble → Type 0
IsUndigested file layout first trouble =
    ((1024 < layout.text_pages + layout.data_pages) × (trouble ≡ TooLarge file) × IsUnread first)
    ⊎ ((layout.text_pages + layout.data_pages ≤ 1024)
    × HasNoBytes (enclave_bytes layout) file first trouble)
