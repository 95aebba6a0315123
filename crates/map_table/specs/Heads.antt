-- The comment on the conditions for writing the registers.
use Rattle.std.specs.Prelude.{ℕ, ◌==◌, if◌then◌else◌, List, [], ◌++◌, codes}
use Rattle.pmp_encoding.specs.declared.xlen.Xlen.{Xlen}
use Rattle.pmp_encoding.specs.declared.xlen.Xlen.TheVariants.{Rv32, Rv64}

-- the comment at the head of C and of assembly
abbrev pub head_begin : List ℕ
head_begin =
    codes "/*\n * PMP registers, planned by pmpmon. With them a hart lets supervisor and user mode\n"
    ++ codes " * do exactly what the map says, where all of this holds:\n"

-- the condition on the width of the hart's registers
abbrev pub head_width : Xlen → List ℕ
head_width Rv32 = codes " *  - the hart is RV32: its configuration words have 32 bits;\n"
head_width Rv64 = codes " *  - the hart is RV64: its configuration words have 64 bits;\n"

-- the conditions for every list
abbrev pub head_rules : List ℕ
head_rules =
    codes " *  - machine mode writes them, on each hart;\n"
    ++ codes " *  - no entry is locked (L = 0);\n"
    ++ codes " *  - the hart protects whole pages of 4096 bytes: its grain is no larger;\n"

-- the condition for a list that does not begin at entry 0
abbrev pub head_below : ℕ → List ℕ
head_below first =
    if first == 0 then []
    else
    codes " *  - no entry below these says otherwise where it matches: they are left as they are\n"
    ++ codes " *    and come first, and `pmpmon audit` of all registers tells what all of them mean;\n"

-- the end of the comment
abbrev pub head_end : List ℕ
head_end =
    codes " *  - the address registers are written first, then the configuration words, 0 to\n"
    ++ codes " *    each word after these too, and then comes sfence.vma.\n"
    ++ codes " */\n"
