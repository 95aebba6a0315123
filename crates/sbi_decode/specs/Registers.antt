-- The integer registers of RV64: x1 to x31, and x0, which is always zero.
use Rattle.std.specs.Prelude.{ℕ, zero, suc, List, replicate, slice_index, slice_set}

-- a register file: the program counter, and x1 to x31 in that order
pub record RegisterFile : Type 0 where
  pub pc : ℕ
  pub xs : List ℕ

-- the value of xn
abbrev pub x_of : RegisterFile → ℕ → ℕ
x_of file zero = 0
x_of file (suc n) = slice_index file.xs n

-- all registers are zero
abbrev pub zeros : RegisterFile
zeros = record { pc = 0; xs = replicate 31 0 }

-- the file with xn set; setting x0 changes nothing
abbrev pub with_x : RegisterFile → ℕ → ℕ → RegisterFile
with_x file zero value = file
with_x file (suc n) value = record file { xs = slice_set file.xs n value }
