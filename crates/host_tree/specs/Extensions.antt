-- The names of a hart's extensions: in `riscv,isa` separated by `_`, and in `riscv,isa-extensions`
-- each with its terminating zero. See Linux's binding riscv/extensions.yaml.
use Rattle.std.specs.Prelude.{ℕ, Bool, cond, ◌==◌, ◌||◌, bytes_eq}
use Rattle.std.specs.Prelude.{List, [], ◌∷◌, ◌++◌, codes, drop}

-- the monitor closes the extension: it needs bits in `menvcfg`, `mseccfg` or `mstateen0`, counters
-- other than the time, or calls that the monitor lacks
abbrev pub is_closed_name : List ℕ → Bool
is_closed_name name = bytes_eq name (codes "svadu") || (bytes_eq name (codes "svpbmt")
    || (bytes_eq name (codes "zkr")
    || (bytes_eq name (codes "zicfilp") || (bytes_eq name (codes "zicfiss")
    || (bytes_eq name (codes "ssnpm") || (bytes_eq name (codes "sscofpmf")
    || (bytes_eq name (codes "smcdeleg") || (bytes_eq name (codes "ssccfg")
    || (bytes_eq name (codes "ssctr") || (bytes_eq name (codes "ssdbltrp")
    || (bytes_eq name (codes "smstateen") || (bytes_eq name (codes "ssstateen")
    || (bytes_eq name (codes "smaia") || (bytes_eq name (codes "ssaia")
    || (bytes_eq name (codes "smcsrind") || (bytes_eq name (codes "sscsrind")
    || (bytes_eq name (codes "zcmt") || (bytes_eq name (codes "zicntr")
    || bytes_eq name (codes "zihpm")))))))))))))))))))

-- the separator and the name after it, or nothing if the name is closed
abbrev pub kept_unit : List ℕ → List ℕ
kept_unit [] = []
kept_unit (separator ∷ name) = cond (is_closed_name name) [] (separator ∷ name)

-- the byte ends a name: it is `_` or 0
abbrev pub separates : ℕ → Bool
separates byte = byte == 95 || byte == 0

-- the open names of a unit, which is a separator and the bytes after it so far, and of later bytes
abbrev pub open_from : List ℕ → List ℕ → List ℕ
open_from unit [] = kept_unit unit
open_from unit (byte ∷ later) = cond (separates byte)
    (kept_unit unit ++ open_from (byte ∷ []) later) (open_from (unit ++ byte ∷ []) later)

-- the names that are not closed; each closed name goes with the separator before it
abbrev pub open_names : List ℕ → List ℕ
open_names names = drop 1 (open_from (95 ∷ []) names)
