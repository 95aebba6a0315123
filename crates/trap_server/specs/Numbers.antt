-- The number that tells the firmware how the loop ended.
use Rattle.std.specs.Prelude.{ℕ, ℤ, pos, Result, Ok, Err}
use Rattle.trap_server.specs.declared.fault.ServeFault.{ServeFault}
use Rattle.trap_server.specs.declared.fault.ServeFault.TheVariants.{Refused, Read, Write}

-- 0 if the input ended, 1 if a frame was refused, 2 if a read failed, 3 if a write failed
abbrev pub served_number : Result (Unit {0}) ServeFault → ℤ
served_number (Ok done) = pos 0
served_number (Err (Refused refusal)) = pos 1
served_number (Err Read) = pos 2
served_number (Err Write) = pos 3
