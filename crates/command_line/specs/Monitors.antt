-- The range of a platform's monitor, from the command line.
use Rattle.std.specs.Prelude.{ℕ, ◌≡◌, ◌<◌, ◌≤◌, ◌+◌, ◌%◌, ◌^◌, Option, Some, None, codes}
use Rattle.text_lines.specs.Numbers.{number_of}
use Rattle.command_line.specs.Subcommands.{Text}

-- the name of the base, the first value of `--monitor`, which is that of the option
abbrev pub base_name : Text
base_name = codes "monitor"

-- the name of the size, the second value, which is that in the usage
abbrev pub size_name : Text
size_name = codes "SIZE"

-- bytes from a base on are whole pages of the space, at least one
pub record AreWholePages (base size : ℕ) : Type 0 where
  pub from_page : base % 4096 ≡ 0
  pub pages : size % 4096 ≡ 0
  pub some : 0 < size
  pub inside : base + size ≤ 2 ^ 56

-- the base and the size that two words spell, or `None` if one of them is missing
abbrev pub Spells : Option Text → Option Text → Option (ℕ × ℕ) → Type 0
Spells (Some base) (Some size) monitor = (b n : ℕ) × (number_of base ≡ Some b)
    × (number_of size ≡ Some n) × (monitor ≡ Some (b, n))
Spells base size monitor = monitor ≡ None

-- the monitor from the values of `--monitor`, if they are given
abbrev pub IsMonitor : (Text → Option Text) → Option (ℕ × ℕ) → Type 0
IsMonitor value monitor = Spells (value base_name) (value size_name) monitor

-- a monitor, if there is one, consists of whole pages
abbrev pub IsOfPages : Option (ℕ × ℕ) → Type 0
IsOfPages None = Unit {0}
IsOfPages (Some (base, size)) = AreWholePages base size
