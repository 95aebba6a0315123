-- The bytes of a chain of blocks.
use Rattle.std.specs.Prelude.{ℕ, zero, suc, ◌+◌, ◌-◌, ◌^◌, List, [], ◌∷◌, ◌++◌, cond, ltb}
use Rattle.pmp_encoding.specs.declared.perm.Perm.{Perm}
use Rattle.pmp_match.specs.Bounds.{Leaf}
use Rattle.entry_planner.specs.declared.costs.BlockCost.{BlockCost}
use Rattle.entry_planner.specs.Plans.{cost_in}
use Rattle.certificate_format.specs.Spelling.{costs_bytes, node_bytes}

-- the bytes before the node of the smallest block: each split block's tag and costs, and the leaf
-- of each lower half that does not contain the smallest block
abbrev pub head_bytes : List BlockCost → ℕ → ℕ → ℕ → Perm → List ℕ
head_bytes costs i zero place before = []
head_bytes costs i (suc n) place before =
    (1 ∷ costs_bytes (cost_in costs i))
    ++ cond (ltb place (2 ^ n)) (head_bytes costs (i + 1) n place before) (node_bytes (Leaf before)
    ++ head_bytes costs (i + 1) n (place - 2 ^ n) before)

-- the bytes after that node: the leaf of each upper half that does not contain the smallest block
abbrev pub tail_bytes : ℕ → ℕ → Perm → List ℕ
tail_bytes zero place behind = []
tail_bytes (suc n) place behind =
    cond (ltb place (2 ^ n)) (node_bytes (Leaf behind)
    ++ tail_bytes n place behind) (tail_bytes n (place - 2 ^ n) behind)

-- that many leaves of one permission
abbrev pub leaves_bytes : ℕ → Perm → List ℕ
leaves_bytes zero perm = []
leaves_bytes (suc n) perm = node_bytes (Leaf perm) ++ leaves_bytes n perm
