-- The registers as assembly.
use Rattle.std.specs.Prelude.{◌≡◌, ℕ, ◌+◌, ◌-◌, ◌/◌, ◌==◌, if◌then◌else◌, List, [], ◌∷◌, ◌++◌}
use Rattle.std.specs.Prelude.{Option, Some, None, codes, decimal, length, slice_get}
use Rattle.std.specs.List.{concat}
use Rattle.pmp_encoding.specs.declared.limit.Limit.{Limit}
use Rattle.pmp_encoding.specs.declared.region.Entry.{Entry}
use Rattle.pmp_encoding.specs.declared.xlen.Xlen.{Xlen}
use Rattle.pmp_encoding.specs.declared.xlen.Xlen.TheVariants.{Rv32, Rv64}
use Rattle.pmp_encoding.specs.Widths.{whole_word, word_count, word_entries, word_number}
use Rattle.map_text.specs.declared.listed_entry.ChainedEntry.{ChainedEntry}
use Rattle.map_text.specs.ListedEntries.{listed_blocks}
use Rattle.map_text.specs.Placed.{word_from}
use Rattle.map_text.specs.Texts.{register_text}
use Rattle.map_table.specs.Names.{address_or_zero, note_text}
use Rattle.map_table.specs.Heads.{head_begin, head_below, head_end, head_rules, head_width}
use Rattle.map_table.specs.SharedTexts.{kept_bits, shared_word_count}
use Rattle.map_table.specs.RegisterRows.{rows_text}

-- the name of a routine, if it has one
abbrev pub label_of : Option (List ℕ) → List ℕ
label_of None = []
label_of (Some name) = name

-- the rest of its label
abbrev pub label_end : Option (List ℕ) → List ℕ
label_end None = []
label_end (Some name) = codes "_load:\n"

-- the head of assembly, with this label
abbrev pub asm_head : Xlen → ℕ → List ℕ → List ℕ → List ℕ
asm_head xlen first label end = concat (head_begin ∷ head_width xlen ∷ head_rules ∷ head_below first
    ∷ head_end ∷ label ∷ end ∷ [])

-- the note on the registers that the code changes
abbrev pub asm_registers_note : Xlen → Limit → ℕ → List ℕ
asm_registers_note xlen limit first =
    if shared_word_count xlen limit first == 0 then codes "/* Only t0 is changed. */\n"
    else codes "/* Only t0 and t1 are changed. */\n"

-- an instruction that the other width lacks: for RV64 one without effect, and for RV32 one that is
-- jumped over
abbrev pub asm_guard : Xlen → List ℕ
asm_guard Rv32 =
    codes "    j       1f /* over what an assembler for RV64 refuses */\n    rdtimeh zero\n1:\n"
asm_guard Rv64 = codes "    addiw   zero, zero, 0 /* an assembler for RV32 refuses this */\n"

-- the note and the guard instruction
abbrev pub asm_begin : Xlen → Limit → ℕ → List ℕ
asm_begin xlen limit first = asm_registers_note xlen limit first ++ asm_guard xlen

-- the instructions that write the address register of the list's entry i, with that entry
abbrev pub asm_address_row : Xlen → ℕ → List ChainedEntry → ℕ → List ℕ
asm_address_row xlen first entries i =
    (codes "    li      t0, 0x" ++ register_text xlen (address_or_zero (slice_get entries i))
    ++ codes " /* " ++ note_text (first + i) (slice_get entries i) ++ codes " */\n")
    ++ (codes "    csrw    pmpaddr" ++ decimal (first + i) ++ codes ", t0\n")

-- the instructions that read a shared word, and keep the bits of the entries below the first
abbrev pub asm_shared_read : Xlen → ℕ → List ℕ
asm_shared_read xlen first =
    codes "    csrr    t1, pmpcfg" ++ decimal (word_number xlen (first / word_entries xlen))
    ++ codes "\n    li      t0, 0x" ++ register_text xlen (kept_bits xlen first)
    ++ codes "\n    and     t1, t1, t0\n"

-- the instructions that write these bits together with the bytes of the list
abbrev pub asm_shared_write : Xlen → ℕ → List ChainedEntry → List ℕ
asm_shared_write xlen first entries =
    codes "    li      t0, 0x" ++ register_text xlen
    (word_from xlen first entries (first / word_entries xlen))
    ++ codes "\n    or      t0, t0, t1\n    csrw    pmpcfg"
    ++ decimal (word_number xlen (first / word_entries xlen)) ++ codes ", t0\n"

-- the write of the shared word
abbrev pub asm_shared_row : Xlen → ℕ → List ChainedEntry → ℕ → List ℕ
asm_shared_row xlen first entries i =
    asm_shared_read xlen first ++ asm_shared_write xlen first entries

-- the instructions that write a word without an entry below the first
abbrev pub asm_word_row : Xlen → ℕ → List ChainedEntry → ℕ → List ℕ
asm_word_row xlen first entries i =
    (codes "    li      t0, 0x" ++ register_text xlen
    (word_from xlen first entries (whole_word xlen first + i)) ++ codes "\n")
    ++ (codes "    csrw    pmpcfg" ++ decimal (word_number xlen (whole_word xlen first + i))
    ++ codes ", t0\n")

-- all words with an entry from the first on, in which those after the list are off
abbrev pub asm_words : Xlen → Limit → ℕ → List ChainedEntry → List ℕ
asm_words xlen limit first entries =
    rows_text (asm_shared_row xlen first entries) 0 (shared_word_count xlen limit first)
    ++ rows_text (asm_word_row xlen first entries) 0
    (word_count xlen limit - whole_word xlen first)

-- the last instruction, and the end of the routine if it has a name
abbrev pub asm_end : Option (List ℕ) → List ℕ
asm_end None = codes "    sfence.vma\n"
asm_end (Some name) = codes "    sfence.vma\n    ret\n"

-- the address registers of the entries, then the configuration words
abbrev pub asm_text : Option (List ℕ) → Xlen → Limit → ℕ → List ChainedEntry → List ℕ
asm_text name xlen limit first entries =
    asm_head xlen first (label_of name) (label_end name)
    ++ ((asm_begin xlen limit first ++ rows_text (asm_address_row xlen first entries) 0
    (length entries))
    ++ (asm_words xlen limit first entries
    ++ asm_end name))

-- the text of entries on a hart from `first` on
abbrev pub IsAsmListText : Option (List ℕ) → Xlen → Limit → ℕ → List ChainedEntry → List ℕ → Type 0
IsAsmListText name xlen limit first entries text = text ≡ asm_text name xlen limit first entries

-- the same of NA4 and NAPOT entries
abbrev pub IsAsmText : Option (List ℕ) → Xlen → Limit → ℕ → List Entry → List ℕ → Type 0
IsAsmText name xlen limit first entries =
    IsAsmListText name xlen limit first (listed_blocks entries)
