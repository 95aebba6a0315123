-- The calls of the monitor in the SBI binary encoding: the extension id in a7, the function id in
-- a6, and arguments in a0 to a5.
use Rattle.std.specs.Prelude.{ℕ, ◌+◌, ◌==◌, not, Option, Some, None, if◌then◌else◌, slice_index}
use Rattle.sbi_decode.specs.Registers.{RegisterFile}
use Rattle.sbi_decode.specs.declared.calls.Call.{Call}
use Rattle.sbi_decode.specs.declared.calls.Call.TheVariants.{Create, Destroy, Run, Stop, Resume}
use Rattle.sbi_decode.specs.declared.calls.Call.TheVariants.{Exit, Measure}

-- the argument registers by their ABI names: a0 to a7 are x10 to x17
abbrev pub a_of : RegisterFile → ℕ → ℕ
a_of file n = slice_index file.xs (9 + n)

-- the call that the registers name, with its arguments, or `None` for any other extension or
-- function
abbrev pub call_of : RegisterFile → Option Call
call_of file =
    if not (a_of file 7 == 0x08454E43) then None
    else if a_of file 6 == 0 then Some
    (Create (a_of file 0) (a_of file 1) (a_of file 2) (a_of file 3) (a_of file 4) (a_of file 5))
    else if a_of file 6 == 1 then Some (Destroy (a_of file 0))
    else if a_of file 6 == 2 then Some (Run (a_of file 0))
    else if a_of file 6 == 3 then Some Stop
    else if a_of file 6 == 4 then Some (Resume (a_of file 0))
    else if a_of file 6 == 5 then Some (Exit (a_of file 0))
    else if a_of file 6 == 6 then Some (Measure (a_of file 0) (a_of file 1))
    else None
