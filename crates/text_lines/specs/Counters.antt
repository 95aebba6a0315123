-- The digits of a number, with the last one separate.
use Rattle.std.specs.Prelude.{ℕ, List, [], ◌∷◌, ◌++◌, take}
use Rattle.text_lines.specs.declared.counter.Counter.{Counter}

-- the digits before the last one, and the last one
abbrev pub digits_of : Counter → List ℕ
digits_of number = take number.len number.front ++ number.last ∷ []
