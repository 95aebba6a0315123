-- A plan as JSON.
use Rattle.std.specs.Prelude.{◌≡◌, ℕ, ◌+◌, ◌-◌, ◌^◌, ◌<◌, ◌≤◌, ◌==◌, nat_le, nat_lt, List}
use Rattle.std.specs.Prelude.{if◌then◌else◌, [], ◌∷◌, ◌++◌, Option, Some, None, codes, decimal}
use Rattle.std.specs.Prelude.{length, slice_get, slice_index}
use Rattle.pmp_encoding.specs.declared.limit.Limit.{Limit}
use Rattle.pmp_encoding.specs.declared.limit.Limit.TheVariants.{Sixteen, SixtyFour}
use Rattle.pmp_encoding.specs.declared.region.Entry.{Entry}
use Rattle.std.specs.List.{concat}
use Rattle.pmp_encoding.specs.declared.perm.Perm.{Perm}
use Rattle.pmp_encoding.specs.declared.perm.Perm.TheVariants.{NoAccess}
use Rattle.pmp_encoding.specs.Limits.{limit_number}
use Rattle.pmp_encoding.specs.declared.xlen.Xlen.{Xlen}
use Rattle.pmp_encoding.specs.declared.xlen.Xlen.TheVariants.{Rv32, Rv64}
use Rattle.pmp_encoding.specs.Widths.{word_count}
use Rattle.map_text.specs.declared.listed_entry.ChainedEntry.{ChainedEntry}
use Rattle.map_text.specs.declared.listed_entry.ChainedEntry.TheVariants.{Block, Off, Tor}
use Rattle.map_text.specs.ListedEntries.{address_in, cfg_in, listed_blocks}
use Rattle.map_text.specs.Placed.{word_from}
use Rattle.map_text.specs.Texts.{register_text}
use Rattle.text_lines.specs.Written.{hex}
use Rattle.pmp_encoding.specs.Perms.{perm_word}
use Rattle.map_table.specs.RegisterRows.{rows_text}

-- a byte of a name in a string: a quote and a backslash after a backslash, a control character by
-- its number
abbrev pub json_byte : ℕ → List ℕ
json_byte b = if b == 34 then codes "\\\"" else if b == 92 then codes "\\\\" else if nat_lt b 32
    then codes "\\u" ++ hex 4 b else b ∷ []

-- the text before an item of a list: a comma if it is not the first, and a newline
abbrev pub json_before : ℕ → List ℕ
json_before i = if i == 0 then codes "\n" else codes ",\n"

-- the text before the name of the map
abbrev pub json_map_begin : List ℕ
json_map_begin = codes "{\n  \"map\": \""

-- a byte of the name
abbrev pub json_name_row : List ℕ → ℕ → List ℕ
json_name_row name i = json_byte (slice_index name i)

-- the limit
abbrev pub json_limit : Limit → List ℕ
json_limit Sixteen = codes "\",\n  \"limit\": 16,\n"
json_limit SixtyFour = codes "\",\n  \"limit\": 64,\n"

-- the number of the first entry, if it is not 0
abbrev pub json_first : ℕ → List ℕ
json_first first = if first == 0 then [] else codes "  \"first\": " ++ decimal first ++ codes ",\n"

-- the width, unless it is that of RV64
abbrev pub json_width : Xlen → List ℕ
json_width Rv32 = codes "  \"xlen\": 32,\n"
json_width Rv64 = []

-- whether the hart has room for that many entries, beginning at the first
abbrev pub json_fits : ℕ → Limit → ℕ → List ℕ
json_fits n limit first = if nat_le n (limit_number limit - first)
    then codes "  \"fits\": true,\n" else codes "  \"fits\": false,\n"

-- the limit, the width, the first entry and whether that many entries fit
abbrev pub json_hart : Xlen → Limit → ℕ → ℕ → List ℕ
json_hart xlen limit first n = json_limit limit ++ json_width xlen ++ json_first first
    ++ json_fits n limit first

-- the number of entries without TOR, if it is given
abbrev pub json_without_tor : Option ℕ → List ℕ
json_without_tor (Some n) = codes "  \"without_tor\": " ++ decimal n ++ codes ",\n"
json_without_tor None = []

-- the text before the entries
abbrev pub json_entries_begin : Xlen → Limit → ℕ → Option ℕ → ℕ → List ℕ
json_entries_begin xlen limit first without_tor n = concat (json_hart xlen limit first n
    ∷ json_without_tor without_tor ∷ codes "  \"entries\": [" ∷ [])

-- the number and the pair of the list's entry i
abbrev pub json_registers : Xlen → ℕ → ℕ → ChainedEntry → List ℕ
json_registers xlen first i e =
    json_before i ++ codes "    {\"index\": " ++ decimal (first + i) ++ codes ", \"cfg\": "
    ++ decimal (cfg_in e) ++ codes ", \"addr\": \"0x" ++ register_text xlen (address_in e)

-- the lowest address of a range, its size in bytes, and its permission
abbrev pub json_range : ℕ → ℕ → Perm → List ℕ
json_range base size perm = codes "\", \"base\": \"0x" ++ hex 16 base ++ codes "\", \"size\": "
    ++ decimal size ++ codes ", \"perm\": \"" ++ perm_word perm ++ codes "\"}"

-- the range that an entry matches: that of an OFF entry is empty, at the beginning of the chain
abbrev pub json_region : ChainedEntry → List ℕ
json_region (Block e) = json_range e.region.base (2 ^ e.region.log2) e.perm
json_region (Off begin) = json_range begin 0 NoAccess
json_region (Tor begin end perm) = json_range begin (end - begin) perm

-- an entry: its registers and its range
abbrev pub json_entry : Xlen → ℕ → ℕ → Option ChainedEntry → List ℕ
json_entry xlen first i (Some e) = json_registers xlen first i e ++ json_region e
json_entry xlen first i None = []

-- the list's entry i
abbrev pub json_entry_row : Xlen → ℕ → List ChainedEntry → ℕ → List ℕ
json_entry_row xlen first entries i = json_entry xlen first i (slice_get entries i)

-- the text before the configuration words
abbrev pub json_words_begin : List ℕ
json_words_begin = codes "\n  ],\n  \"pmpcfg\": ["

-- a configuration word, in which the bytes of entries below the first are zero
abbrev pub json_word_row : Xlen → ℕ → List ChainedEntry → ℕ → List ℕ
json_word_row xlen first entries i = json_before i ++ codes "    \"0x"
    ++ register_text xlen (word_from xlen first entries i) ++ codes "\""

-- the object, with this number of words
abbrev pub json_text : List ℕ → Xlen → Limit → ℕ → Option ℕ → List ChainedEntry → ℕ → List ℕ
json_text name xlen limit first without_tor entries words =
    (json_map_begin ++ rows_text (json_name_row name) 0 (length name))
    ++ ((json_entries_begin xlen limit first without_tor (length entries)
    ++ rows_text (json_entry_row xlen first entries) 0 (length entries))
    ++ ((json_words_begin ++ rows_text (json_word_row xlen first entries) 0 words)
    ++ codes "\n  ]\n}\n"))

-- the object, with all words of the hart, or with none if it has no room for the entries
pub record IsJsonListText (name : List ℕ) (xlen : Xlen) (limit : Limit) (first : ℕ)
    (without_tor : Option ℕ) (entries : List ChainedEntry) (text : List ℕ) : Type 0 where
  pub words : ℕ
  pub fits : length entries ≤ limit_number limit - first → words ≡ word_count xlen limit
  pub too_many : limit_number limit - first < length entries → words ≡ 0
  pub lines : text ≡ json_text name xlen limit first without_tor entries words

-- the object of NA4 and NAPOT entries
abbrev pub IsJsonText : List ℕ → Xlen → Limit → ℕ → List Entry → List ℕ → Type 0
IsJsonText name xlen limit first entries =
    IsJsonListText name xlen limit first None (listed_blocks entries)
