-- The errors. (SBI, chapter 3, "Standard SBI Errors")
use Rattle.std.specs.Prelude.{ℕ, ◌-◌, ◌^◌}
use Rattle.sbi_calls.specs.declared.error.SbiError.{SbiError}
use Rattle.sbi_calls.specs.declared.error.SbiError.TheVariants.{NotSupported, InvalidParam}
use Rattle.sbi_calls.specs.declared.error.SbiError.TheVariants.{InvalidAddress, AlreadyAvailable}

-- an error is negative: -n as a word of 64 bits
abbrev pub minus : ℕ → ℕ
minus n = 2 ^ 64 - n

-- the word of each error
abbrev pub error_word : SbiError → ℕ
error_word NotSupported = minus 2
error_word InvalidParam = minus 3
error_word InvalidAddress = minus 5
error_word AlreadyAvailable = minus 6
