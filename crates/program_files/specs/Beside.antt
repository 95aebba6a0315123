-- Names of the temporary file beside a place.
use Rattle.std.specs.Prelude.{ℕ, ◌+◌, ◌<◌, List, ◌≡◌, ◌++◌, codes, encode_utf8}
use Rattle.std.specs.Path.{path_with_file_name}

-- the name of a place with `.part`
abbrev pub part_name : List ℕ → List ℕ
part_name place = place ++ codes ".part"

-- a short name in the folder of a place
abbrev pub short_part_name : List ℕ → List ℕ
short_part_name place = path_with_file_name place (codes "pmpmon.part")

-- a name followed by one digit
abbrev pub IsNumbered : List ℕ → List ℕ → Type 0
IsNumbered name numbered = (digit : ℕ) × (digit < 10)
    × (numbered ≡ name ++ encode_utf8 (48 + digit))
