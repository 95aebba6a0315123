-- The registers as C.
use Rattle.std.specs.Prelude.{◌≡◌, ℕ, ◌+◌, ◌-◌, ◌/◌, ◌==◌, if◌then◌else◌, List, [], ◌∷◌, ◌++◌}
use Rattle.std.specs.Prelude.{Option, codes, decimal, length}
use Rattle.std.specs.List.{concat}
use Rattle.pmp_encoding.specs.declared.limit.Limit.{Limit}
use Rattle.pmp_encoding.specs.declared.limit.Limit.TheVariants.{Sixteen, SixtyFour}
use Rattle.pmp_encoding.specs.declared.region.Entry.{Entry}
use Rattle.pmp_encoding.specs.Limits.{limit_number}
use Rattle.pmp_encoding.specs.declared.xlen.Xlen.{Xlen}
use Rattle.pmp_encoding.specs.declared.xlen.Xlen.TheVariants.{Rv32, Rv64}
use Rattle.pmp_encoding.specs.Widths.{whole_word, word_count, word_entries, word_number}
use Rattle.map_text.specs.declared.listed_entry.ChainedEntry.{ChainedEntry}
use Rattle.map_text.specs.ListedEntries.{listed_blocks}
use Rattle.map_text.specs.Placed.{entry_from, word_from}
use Rattle.map_text.specs.Texts.{register_text}
use Rattle.map_table.specs.Names.{address_or_zero, array_link, place_text, prefix_of}
use Rattle.map_table.specs.Heads.{head_begin, head_below, head_end, head_rules, head_width}
use Rattle.map_table.specs.SharedTexts.{kept_bits, shared_word_count}
use Rattle.map_table.specs.RegisterRows.{rows_text}

-- the text before the arrays: a RISC-V compiler for the other width rejects it; a compiler for
-- another processor accepts it
abbrev pub c_begin : Xlen → List ℕ
c_begin Rv32 =
    codes "#if defined(__riscv) && __riscv_xlen != 32\n#error \"these are the registers of RV32\"\n#endif\n\n#include <stdint.h>\n\nstatic const uint32_t "
c_begin Rv64 =
    codes "#if defined(__riscv) && __riscv_xlen != 64\n#error \"these are the registers of RV64\"\n#endif\n\n#include <stdint.h>\n\nstatic const uint64_t "

-- the rest of the name of the array of address registers, and its size
abbrev pub c_addresses_size : Limit → List ℕ
c_addresses_size Sixteen = codes "addr[16] = {\n"
c_addresses_size SixtyFour = codes "addr[64] = {\n"

-- an address register: `    0x00000000040001ff, /* 0: 0x0000000010000000, 4 KiB, rw */`
abbrev pub c_address_row : Xlen → ℕ → List ChainedEntry → ℕ → List ℕ
c_address_row xlen first entries i =
    codes "    0x" ++ register_text xlen (address_or_zero (entry_from first entries i))
    ++ codes ", /* " ++ place_text first i (entry_from first entries i) ++ codes " */\n"

-- the end of that array, and the beginning of the array of configuration words
abbrev pub c_between : Xlen → List ℕ
c_between Rv32 = codes "};\n\nstatic const uint32_t "
c_between Rv64 = codes "};\n\nstatic const uint64_t "

-- the rest of the array's name, and its size
abbrev pub c_words_size : Xlen → Limit → List ℕ
c_words_size Rv32 Sixteen = codes "cfg[4] = {\n"
c_words_size Rv32 SixtyFour = codes "cfg[16] = {\n"
c_words_size Rv64 Sixteen = codes "cfg[2] = {\n"
c_words_size Rv64 SixtyFour = codes "cfg[8] = {\n"

-- a configuration word: `    0x00000000001f181b, /* pmpcfg0 */`
abbrev pub c_word_row : Xlen → ℕ → List ChainedEntry → ℕ → List ℕ
c_word_row xlen first entries i =
    (codes "    0x" ++ register_text xlen (word_from xlen first entries i))
    ++ (codes ", /* pmpcfg" ++ decimal (word_number xlen i) ++ codes " */\n")

-- all address registers of a hart, each with its entry, or the note that it is off or unchanged,
-- and all configuration words
abbrev pub c_arrays : List ℕ → List ℕ → Xlen → Limit → ℕ → List ChainedEntry → List ℕ
c_arrays prefix link xlen limit first entries =
    (concat (head_begin ∷ head_width xlen ∷ head_rules ∷ head_below first ∷ head_end ∷ c_begin xlen
    ∷ prefix ∷ link ∷ c_addresses_size limit ∷ [])
    ++ rows_text (c_address_row xlen first entries) 0 (limit_number limit))
    ++ (concat (c_between xlen ∷ prefix ∷ link ∷ c_words_size xlen limit ∷ [])
    ++ rows_text (c_word_row xlen first entries) 0 (word_count xlen limit))

-- the end of the second array, and the text before the number of entries
abbrev pub c_count_begin : List ℕ
c_count_begin = codes "};\n\n/* How many entries are in use; those after them are off. */\nenum { "

-- the beginning of the comment on the function that writes the registers
abbrev pub c_loader_note : List ℕ
c_loader_note = codes " };\n\n#ifdef __riscv\n/*\n"

-- the comment on the registers that it writes
abbrev pub c_loader_writes : ℕ → List ℕ
c_loader_writes first =
    if first == 0
    then codes " * Writes all of them. Machine mode calls it on each hart, with mstatus.MPRV = 0.\n"
    else
    codes " * Writes those of the first entry in use and of all after it. The others are left as\n"
    ++ codes " * they are, and so are their bytes of a configuration word that they share with these.\n"
    ++ codes " * Machine mode calls it on each hart, with mstatus.MPRV = 0.\n"

-- the comment on the order of the writes
abbrev pub c_loader_reason : List ℕ
c_loader_reason =
    codes " * The addresses are written first, so that no configuration word switches an entry\n"
    ++ codes " * on that has an address of an older list. Until that word is written an older entry\n"
    ++ codes " * may have a new address. This lets nobody in: no other mode runs on this hart before\n"
    ++ codes " * machine mode leaves, and an entry that is not locked does not bind machine mode.\n"
    ++ codes " * After sfence.vma nothing that was checked against the older list is used.\n */\n"
    ++ codes "static inline void "

-- an instruction that writes an address register: ` __asm__ volatile("csrw pmpaddr0, %0" : :
-- "r"(addr[0]));`
abbrev pub c_address_write : ℕ → ℕ → List ℕ
c_address_write first i = codes "    __asm__ volatile(\"csrw pmpaddr" ++ decimal (first + i)
    ++ codes ", %0\" : : \"r\"(addr[" ++ decimal (first + i) ++ codes "]));\n"

-- the text before the number of a shared word
abbrev pub c_shared_read_begin : Xlen → List ℕ
c_shared_read_begin Rv32 = codes "    uint32_t kept;\n    __asm__ volatile(\"csrr %0, pmpcfg"
c_shared_read_begin Rv64 = codes "    uint64_t kept;\n    __asm__ volatile(\"csrr %0, pmpcfg"

-- the instructions that read a shared word, and keep the bits of the entries below the first
abbrev pub c_shared_read : Xlen → ℕ → List ℕ
c_shared_read xlen first =
    c_shared_read_begin xlen ++ decimal (word_number xlen (first / word_entries xlen))
    ++ codes "\" : \"=r\"(kept));\n    kept &= 0x" ++ register_text xlen (kept_bits xlen first)
    ++ codes ";\n"

-- the instruction that writes these bits together with the bytes of the list
abbrev pub c_shared_write : Xlen → ℕ → List ℕ
c_shared_write xlen first = codes "    __asm__ volatile(\"csrw pmpcfg"
    ++ decimal (word_number xlen (first / word_entries xlen))
    ++ codes ", %0\" : : \"r\"(kept | cfg[" ++ decimal (first / word_entries xlen) ++ codes "]));\n"

-- the write of the shared word
abbrev pub c_shared_row : Xlen → ℕ → ℕ → List ℕ
c_shared_row xlen first i = c_shared_read xlen first ++ c_shared_write xlen first

-- an instruction that writes another configuration word: ` __asm__ volatile("csrw pmpcfg2, %0" : :
-- "r"(cfg[1]));`
abbrev pub c_word_write : Xlen → ℕ → ℕ → List ℕ
c_word_write xlen first i =
    codes "    __asm__ volatile(\"csrw pmpcfg"
    ++ decimal (word_number xlen (whole_word xlen first + i)) ++ codes ", %0\" : : \"r\"(cfg["
    ++ decimal (whole_word xlen first + i) ++ codes "]));\n"

-- the last instruction, and the end of the function
abbrev pub c_loader_end : List ℕ
c_loader_end = codes "    __asm__ volatile(\"sfence.vma\" : : : \"memory\");\n}\n#endif\n"

-- the text between the name of the number of entries and the number
abbrev pub c_count_is : List ℕ
c_count_is = codes "_count = "

-- the head of the function, which has its own names for the arrays
abbrev pub c_load_addresses : Xlen → List ℕ
c_load_addresses Rv32 = codes "_load(void)\n{\n    const uint32_t *addr = "
c_load_addresses Rv64 = codes "_load(void)\n{\n    const uint64_t *addr = "

-- the declaration of the configuration words in the C function
abbrev pub c_load_words : Xlen → List ℕ
c_load_words Rv32 = codes "addr;\n    const uint32_t *cfg = "
c_load_words Rv64 = codes "addr;\n    const uint64_t *cfg = "

-- the end of the declarations in the C function
abbrev pub c_load_begin : List ℕ
c_load_begin = codes "cfg;\n\n"

-- the text before the instructions: the number of entries, and that head
abbrev pub c_loader_begin : List ℕ → List ℕ → Xlen → ℕ → List ℕ → List ℕ
c_loader_begin prefix link xlen first count =
    concat (
    c_count_begin ∷ prefix ∷ c_count_is ∷ count ∷ c_loader_note ∷ c_loader_writes first
    ∷ c_loader_reason ∷ prefix ∷ c_load_addresses xlen ∷ prefix ∷ link ∷ c_load_words xlen
    ∷ prefix ∷ link ∷ c_load_begin ∷ []
    )

-- all words with an entry from the first on
abbrev pub c_word_writes : Xlen → Limit → ℕ → List ℕ
c_word_writes xlen limit first = rows_text (c_shared_row xlen first) 0
    (shared_word_count xlen limit first) ++ rows_text (c_word_write xlen first) 0
    (word_count xlen limit - whole_word xlen first)

-- the number of entries, and a function that writes the address registers from the first on, then
-- the configuration words
abbrev pub c_loader : List ℕ → List ℕ → Xlen → Limit → ℕ → List ℕ → List ℕ
c_loader prefix link xlen limit first count =
    (c_loader_begin prefix link xlen first count
    ++ rows_text (c_address_write first) 0 (limit_number limit - first))
    ++ (c_word_writes xlen limit first
    ++ c_loader_end)

-- the arrays, followed by the function that writes them
abbrev pub c_text : Option (List ℕ) → Xlen → Limit → ℕ → List ChainedEntry → List ℕ
c_text name xlen limit first entries =
    c_arrays (prefix_of name) (array_link name) xlen limit first entries
    ++ c_loader (prefix_of name) (array_link name) xlen limit first (decimal (length entries))

-- the text of entries on a hart from `first` on
abbrev pub IsCListText : Option (List ℕ) → Xlen → Limit → ℕ → List ChainedEntry → List ℕ → Type 0
IsCListText name xlen limit first entries text = text ≡ c_text name xlen limit first entries

-- the same of NA4 and NAPOT entries
abbrev pub IsCText : Option (List ℕ) → Xlen → Limit → ℕ → List Entry → List ℕ → Type 0
IsCText name xlen limit first entries =
    IsCListText name xlen limit first (listed_blocks entries)
