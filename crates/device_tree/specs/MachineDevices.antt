-- Devices that belong to machine mode, by their property `compatible`. Devicetree Specification
-- 0.4, section 2.3.1, and the bindings of the Linux kernel.
use Rattle.std.specs.Prelude.{ℕ, zero, suc, ◌/◌, Bool, false, ◌&&◌, ◌||◌, leb, ◌==◌, bytes_eq}
use Rattle.std.specs.Prelude.{List, [], ◌∷◌, ◌++◌, Option, None, Some, length, take, drop, codes}
use Rattle.byteorder.specs.Endian.{big_number}

-- the bytes begin with the text
abbrev pub is_front : List ℕ → List ℕ → Bool
is_front text bytes = leb (length text) (length bytes)
    && bytes_eq (take (length text) bytes) text

-- the text occurs directly after a zero
abbrev pub follows_zero : List ℕ → List ℕ → Bool
follows_zero text [] = false
follows_zero text (byte ∷ bytes) = (byte == 0 && is_front text bytes) || follows_zero text bytes

-- the text, given with its final zero, is one of the texts in the bytes
unfoldable pub has_text : List ℕ → List ℕ → Bool
has_text ended bytes = is_front ended bytes || follows_zero ended bytes

-- the text is one of the texts in the bytes
abbrev pub is_listed : List ℕ → List ℕ → Bool
is_listed text bytes = has_text (text ++ 0 ∷ []) bytes

-- the device combines the timer and the software interrupts of harts
abbrev pub is_clint : List ℕ → Bool
is_clint bytes = is_listed (codes "riscv,clint0") bytes
    || is_listed (codes "thead,c900-clint") bytes

-- the device is SiFive's CLINT
abbrev pub is_sifive_clint : List ℕ → Bool
is_sifive_clint bytes = is_listed (codes "sifive,clint0") bytes
    || is_listed (codes "sifive,clint2") bytes

-- the device is a timer of harts
abbrev pub is_timer : List ℕ → Bool
is_timer bytes = is_listed (codes "riscv,aclint-mtimer") bytes
    || is_listed (codes "thead,c900-aclint-mtimer") bytes

-- the device sends software interrupts to harts
abbrev pub is_sender : List ℕ → Bool
is_sender bytes = is_listed (codes "riscv,aclint-mswi") bytes
    || is_listed (codes "thead,c900-aclint-mswi") bytes

-- the device is Andes' timer of harts, or its source of software interrupts
abbrev pub is_andes : List ℕ → Bool
is_andes bytes = is_listed (codes "andestech,plmt0") bytes
    || is_listed (codes "andestech,plicsw") bytes

-- the device is an interrupt controller of the Advanced Interrupt Architecture, for one privilege
-- level
abbrev pub is_controller : List ℕ → Bool
is_controller bytes = is_listed (codes "riscv,aplic") bytes
    || is_listed (codes "riscv,imsics") bytes

-- one of these pairs of cells, a hart's controller and an interrupt number of the hart, names the
-- external interrupt of machine mode
abbrev pub has_machine_interrupt : ℕ → List ℕ → Bool
has_machine_interrupt zero bytes = false
has_machine_interrupt (suc pairs) bytes = (leb 8 (length bytes)
    && big_number 4 (drop 4 bytes) == 11)
    || has_machine_interrupt pairs (drop 8 bytes)

-- the device interrupts harts in machine mode, according to `interrupts-extended`
abbrev pub interrupts_machine : Option (List ℕ) → Bool
interrupts_machine None = false
interrupts_machine (Some bytes) = has_machine_interrupt (length bytes / 8) bytes

-- a device with this `compatible` belongs to machine mode: by it alone, or as a controller that
-- interrupts harts in machine mode or delegates to others
abbrev pub is_machine : Option (List ℕ) → Option (List ℕ) → Bool → Bool
is_machine None interrupts delegates = false
is_machine (Some bytes) interrupts delegates = (is_clint bytes || is_sifive_clint bytes)
    || ((is_timer bytes || is_sender bytes)
    || (is_andes bytes || (is_controller bytes && (delegates || interrupts_machine interrupts))))
