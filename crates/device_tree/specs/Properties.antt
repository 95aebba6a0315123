-- Values of the properties of a node. Devicetree Specification 0.4, section 2.3.
use Rattle.std.specs.Prelude.{ℕ, Bool, true, cond, eqb, leb, ◌&&◌, ◌||◌, bytes_eq}
use Rattle.std.specs.Prelude.{List, [], ◌∷◌, Option, None, Some, length, codes, ◌++◌}
use Rattle.byteorder.specs.Endian.{big_number}
use Rattle.device_tree.specs.Pieces.{Part, begins, has, ends}

-- the value of the first property with the name among these parts
abbrev pub value_in : List ℕ → List Part → Option (List ℕ)
value_in name [] = None
value_in name (has first ∷ later) = cond (bytes_eq first.name name) (Some first.value)
    (value_in name later)
value_in name (begins node ∷ later) = value_in name later
value_in name (ends ∷ later) = value_in name later

-- the number of cells in a value: four bytes, a number up to four; or `default` if there is no
-- value
abbrev pub cells_in : ℕ → Option (List ℕ) → Option ℕ
cells_in default None = Some default
cells_in default (Some value) = cond (eqb (length value) 4 && leb (big_number 4 value) 4)
    (Some (big_number 4 value)) None

-- a value is this text, with or without its final zero
abbrev pub is_text : List ℕ → List ℕ → Bool
is_text text value = bytes_eq value (text ++ 0 ∷ []) || bytes_eq value text

-- the node is enabled: it has no status, or `okay` or `ok`
abbrev pub is_okay_value : Option (List ℕ) → Bool
is_okay_value None = true
is_okay_value (Some value) = is_text (codes "okay") value || is_text (codes "ok") value

-- a node is enabled: it has no status, or `okay` or `ok`
abbrev pub is_okay : List Part → Bool
is_okay properties = is_okay_value (value_in (codes "status") properties)
