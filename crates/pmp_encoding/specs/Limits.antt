-- The number of entries of a bank.
use Rattle.std.specs.Prelude.{ℕ}
use Rattle.pmp_encoding.specs.declared.limit.Limit.{Limit}
use Rattle.pmp_encoding.specs.declared.limit.Limit.TheVariants.{Sixteen, SixtyFour}

-- the number of entries
abbrev pub limit_number : Limit → ℕ
limit_number Sixteen = 16
limit_number SixtyFour = 64
