-- The numbers of the extensions. (SBI, chapters 4 to 10; the console: version 2.0, chapter 12)
use Rattle.std.specs.Prelude.{ℕ, ◌==◌, Option, Some, None, if◌then◌else◌}
use Rattle.sbi_calls.specs.declared.extension.Extension.{Extension}
use Rattle.sbi_calls.specs.declared.extension.Extension.TheVariants.{Base, Time, Ipi, Rfence, Hsm}
use Rattle.sbi_calls.specs.declared.extension.Extension.TheVariants.{Srst, Console, Monitor, Stops}

-- the extension of a number: its name in ASCII, except for the base extension. The monitor's two
-- are in the experimental space, 0x08000000 to 0x08ffffff, and in the firmware's, 0x0a000000 to
-- 0x0affffff
abbrev pub extension_of : ℕ → Option Extension
extension_of number =
    if number == 0x10 then Some Base
    else if number == 0x54494d45 then Some Time
    else if number == 0x735049 then Some Ipi
    else if number == 0x52464e43 then Some Rfence
    else if number == 0x48534d then Some Hsm
    else if number == 0x53525354 then Some Srst
    else if number == 0x4442434e then Some Console
    else if number == 0x08454e43 then Some Monitor
    else if number == 0x0a454e43 then Some Stops
    else None
