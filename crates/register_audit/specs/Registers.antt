-- The number of entries of registers that are not OFF.
use Rattle.std.specs.Prelude.{ℕ, ◌+◌, ◌/◌, ◌%◌, ◌==◌, List, [], ◌∷◌, if◌then◌else◌}

-- 0 for an entry that is OFF according to its mode, bits 4:3 of its byte, otherwise 1
abbrev pub one_on : ℕ → ℕ
one_on cfg = if cfg / 8 % 4 == 0 then 0 else 1

-- the number of entries with these configuration bytes that are not OFF
abbrev pub count_on : List ℕ → ℕ
count_on [] = 0
count_on (cfg ∷ cfgs) = one_on cfg + count_on cfgs
