-- Little-endian 64-bit words.
use Rattle.std.specs.Prelude.{ℕ, ◌*◌, List, [], ◌∷◌, ◌++◌, drop}
use Rattle.byteorder.specs.Endian.{little_bytes, little_number}

-- word k of some bytes
abbrev pub word_at : List ℕ → ℕ → ℕ
word_at bytes k = little_number 8 (drop (8 * k) bytes)

-- the bytes of words, one after another
abbrev pub bytes_of : List ℕ → List ℕ
bytes_of [] = []
bytes_of (word ∷ words) = little_bytes 8 word ++ bytes_of words

-- the tag of a platform: `platform` in ASCII, with the first letter in the lowest byte, like all
-- tags
abbrev pub platform_tag : ℕ
platform_tag = 0x6d726f6674616c70

-- the tag of a trap that is a call: `call`
abbrev pub call_tag : ℕ
call_tag = 0x6c6c6163

-- the tag of any other trap, which stops an enclave: `stop`
abbrev pub stop_tag : ℕ
stop_tag = 0x706f7473

-- the tag of a page that is measured: `page`
abbrev pub page_tag : ℕ
page_tag = 0x65676170

-- the tag of an answer: `answer`
abbrev pub answer_tag : ℕ
answer_tag = 0x726577736e61

-- the tag of a request for pages: `measure`
abbrev pub measure_tag : ℕ
measure_tag = 0x6572757361656d

-- the tag of the last frame: `end`
abbrev pub end_tag : ℕ
end_tag = 0x646e65
