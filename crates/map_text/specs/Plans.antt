-- The output of `plan`.
use Rattle.std.specs.Prelude.{◌≡◌, ℕ, ◌+◌, ◌-◌, ◌<◌, ◌≤◌, zero, suc, List, [], ◌∷◌, ◌++◌, length}
use Rattle.pmp_encoding.specs.declared.limit.Limit.{Limit}
use Rattle.pmp_encoding.specs.declared.region.Entry.{Entry}
use Rattle.pmp_encoding.specs.Limits.{limit_number}
use Rattle.pmp_encoding.specs.declared.xlen.Xlen.{Xlen}
use Rattle.pmp_encoding.specs.Widths.{whole_word, word_count, word_number}
use Rattle.map_text.specs.declared.listed_entry.ChainedEntry.{ChainedEntry}
use Rattle.map_text.specs.ListedEntries.{address_in, cfg_in, listed_blocks}
use Rattle.map_text.specs.Placed.{word_from}
use Rattle.map_text.specs.Texts.{count_text, entry_text, word_text}

-- a line for each entry's registers, numbered from i
abbrev pub entries_text : Xlen → ℕ → List ChainedEntry → List ℕ
entries_text xlen i [] = []
entries_text xlen i (entry ∷ entries) = entry_text xlen i (cfg_in entry) (address_in entry)
    ++ entries_text xlen (i + 1) entries

-- the number of entries, and a line for each, numbered from `first` on
abbrev pub list_text : Xlen → ℕ → List ChainedEntry → List ℕ
list_text xlen first entries = count_text (length entries) ++ entries_text xlen first entries

-- a line for each of `count` configuration words, from the i-th on
abbrev pub words_text : Xlen → ℕ → List ChainedEntry → ℕ → ℕ → List ℕ
words_text xlen first entries i zero = []
words_text xlen first entries i (suc count) =
    word_text xlen (word_number xlen i) (word_from xlen first entries i)
    ++ words_text xlen first entries (i + 1) count

-- the number of entries, a line for each, and the words without an entry below the first, if the
-- hart has room for the entries
pub record IsListText (xlen : Xlen) (limit : Limit) (first : ℕ) (entries : List ChainedEntry)
    (text : List ℕ) : Type 0 where
  pub words : List ℕ
  pub lines : text ≡ list_text xlen first entries ++ words
  pub fits : length entries ≤ limit_number limit - first
      → words ≡ words_text xlen first entries (whole_word xlen first)
      (word_count xlen limit - whole_word xlen first)
  pub too_many : limit_number limit - first < length entries → words ≡ []

-- the same of NA4 and NAPOT entries
abbrev pub IsPlanText : Xlen → Limit → ℕ → List Entry → List ℕ → Type 0
IsPlanText xlen limit first entries = IsListText xlen limit first (listed_blocks entries)
