-- The properties of a node in the host's tree. Devicetree Specification 0.4, section 2.3.4.
use Rattle.std.specs.Prelude.{ℕ, Bool, ◌&&◌, ◌||◌, cond, bytes_eq}
use Rattle.std.specs.Prelude.{List, [], ◌∷◌, ◌++◌, codes}
use Rattle.device_tree.specs.Pieces.{Setting}
use Rattle.host_tree.specs.Written.{setting}
use Rattle.host_tree.specs.Extensions.{open_names}

-- the status of a closed node
abbrev pub disabled : Setting
disabled = setting (codes "status") (codes "disabled" ++ 0 ∷ [])

-- the property lists a hart's extensions
abbrev pub names_extensions : List ℕ → Bool
names_extensions name = bytes_eq name (codes "riscv,isa")
    || bytes_eq name (codes "riscv,isa-extensions")

-- the value of a property: closed extensions are removed from a hart's list, all else is unchanged
abbrev pub host_value : Bool → List ℕ → List ℕ → List ℕ
host_value hart name value = cond (hart && names_extensions name) (open_names value) value

-- the rest of a property of a node, which may be a hart and may be closed
abbrev pub left_setting : Bool → Bool → Setting → List Setting
left_setting hart closed one = cond (closed && bytes_eq one.name (codes "status")) []
    (setting one.name (host_value hart one.name one.value) ∷ [])

-- the rest of properties, in their order
abbrev pub left_settings : Bool → Bool → List Setting → List Setting
left_settings hart closed [] = []
left_settings hart closed (first ∷ later) = left_setting hart closed first
    ++ left_settings hart closed later

-- a closed node begins with its status
abbrev pub status_of : Bool → List Setting
status_of closed = cond closed (disabled ∷ []) []

-- the properties of a node as the host gets them
abbrev pub host_settings : Bool → Bool → List Setting → List Setting
host_settings hart closed own = status_of closed ++ left_settings hart closed own
