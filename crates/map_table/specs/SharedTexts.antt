-- A configuration word that the list shares with entries below it.
use Rattle.std.specs.Prelude.{ℕ, ◌-◌, ◌*◌, ◌%◌, ◌^◌, ◌==◌, ◌&&◌, not, nat_lt, if◌then◌else◌}
use Rattle.pmp_encoding.specs.declared.limit.Limit.{Limit}
use Rattle.pmp_encoding.specs.Limits.{limit_number}
use Rattle.pmp_encoding.specs.declared.xlen.Xlen.{Xlen}
use Rattle.pmp_encoding.specs.Widths.{word_entries}

-- the number of shared words: one if the list begins inside a word of the hart
abbrev pub shared_word_count : Xlen → Limit → ℕ → ℕ
shared_word_count xlen limit first = if not (first % word_entries xlen == 0)
    && nat_lt first (limit_number limit) then 1 else 0

-- the mask of the entries below the first in their shared word
abbrev pub kept_bits : Xlen → ℕ → ℕ
kept_bits xlen first = 2 ^ (8 * (first % word_entries xlen)) - 1
