-- The lines that the program prints.
use Rattle.std.specs.Prelude.{ℕ, List, ◌++◌, codes, decimal}
use Rattle.hex.specs.Hex.{encode_lower}
use Rattle.text_lines.specs.Written.{hex}
use Rattle.pmp_encoding.specs.declared.xlen.Xlen.{Xlen}
use Rattle.pmp_encoding.specs.Widths.{register_digits}

-- `entries N`
abbrev pub count_text : ℕ → List ℕ
count_text n = codes "entries " ++ decimal n ++ codes "\n"

-- all digits of a register: eight, or sixteen
abbrev pub register_text : Xlen → ℕ → List ℕ
register_text xlen value = hex (register_digits xlen) value

-- `I 0xCC 0xAAAAAAAAAAAAAAAA`, or with 32 bits `I 0xCC 0xAAAAAAAA`
abbrev pub entry_text : Xlen → ℕ → ℕ → ℕ → List ℕ
entry_text xlen i cfg addr = decimal i ++ codes " 0x" ++ hex 2 cfg ++ codes " 0x"
    ++ register_text xlen addr ++ codes "\n"

-- `pmpcfgK 0xWWWWWWWWWWWWWWWW`, or with 32 bits `pmpcfgK 0xWWWWWWWW`
abbrev pub word_text : Xlen → ℕ → ℕ → List ℕ
word_text xlen k word = codes "pmpcfg" ++ decimal k ++ codes " 0x" ++ register_text xlen word
    ++ codes "\n"

-- `accepted N`
abbrev pub accepted_text : ℕ → List ℕ
accepted_text n = codes "accepted " ++ decimal n ++ codes "\n"

-- `accepted N of L`
abbrev pub accepted_of_text : ℕ → ℕ → List ℕ
accepted_of_text n limit = codes "accepted " ++ decimal n ++ codes " of " ++ decimal limit
    ++ codes "\n"

-- `refused CODE NAME`
abbrev pub refused_text : ℕ → List ℕ → List ℕ
refused_text code name = codes "refused " ++ decimal code ++ codes " " ++ name ++ codes "\n"

-- `measure ID DIGEST`, the digest in lower-case hexadecimal
abbrev pub measure_text : ℕ → List ℕ → List ℕ
measure_text id digest = codes "measure " ++ decimal id ++ codes " " ++ encode_lower digest
    ++ codes "\n"
