-- Sizes and permissions as text.
use Rattle.std.specs.Prelude.{ℕ, ◌/◌, ◌%◌, ◌^◌, ◌==◌, if◌then◌else◌, List, ◌++◌, codes, decimal}
use Rattle.pmp_encoding.specs.declared.perm.Perm.{Perm}
use Rattle.pmp_encoding.specs.declared.perm.Perm.TheVariants.{NoAccess, Read, ReadWrite, Execute}
use Rattle.pmp_encoding.specs.declared.perm.Perm.TheVariants.{ReadExecute, ReadWriteExecute}

-- the letters of a permission, with a hyphen for each one that it lacks
abbrev pub letters_of : Perm → List ℕ
letters_of NoAccess = codes "---"
letters_of Read = codes "r--"
letters_of ReadWrite = codes "rw-"
letters_of Execute = codes "--x"
letters_of ReadExecute = codes "r-x"
letters_of ReadWriteExecute = codes "rwx"

-- the number of units in a size, and the name of the unit
abbrev pub counted_in : ℕ → ℕ → List ℕ → List ℕ
counted_in size unit name = decimal (size / unit) ++ name

-- a number of bytes in the largest unit that divides it
abbrev pub size_text : ℕ → List ℕ
size_text size =
    if size % 2 ^ 50 == 0 then counted_in size (2 ^ 50) (codes " PiB")
    else if size % 2 ^ 40 == 0 then counted_in size (2 ^ 40) (codes " TiB")
    else if size % 2 ^ 30 == 0 then counted_in size (2 ^ 30) (codes " GiB")
    else if size % 2 ^ 20 == 0 then counted_in size (2 ^ 20) (codes " MiB")
    else if size % 2 ^ 10 == 0 then counted_in size (2 ^ 10) (codes " KiB")
    else counted_in size 1 (codes " B")
