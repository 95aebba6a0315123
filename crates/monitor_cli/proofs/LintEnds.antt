-- How a lint of bytes that were read ends.
use Rattle.std.proofs.Common.{◌^◌, ℕ, Bool, List, Result, Ok, Err, IfOk, IfErr, inl}
use Rattle.std.specs.Borrow.{Bor}
use Rattle.program_files.specs.declared.trouble.Trouble.{Trouble}
use Rattle.program_files.specs.Reading.{HasBytes, HasNoBytes, Reading}
use Rattle.monitor_cli.specs.Lints.{Finds, IsFound, IsOfDevices}

pub of_bytes :
    {R : Type 0} (platform : Bool) (file : Bor (List ℕ)) (first : Reading R) (bytes : List ℕ) (found : Result Bool Trouble) → HasBytes (2 ^ 20) first bytes
    → IfOk found (IsFound platform bytes) → IfErr found IsOfDevices
    → Finds (λ is. (bytes : List ℕ) × HasBytes (2 ^ 20) first bytes × IsFound platform bytes is) (HasNoBytes (2 ^ 20) file first) found
of_bytes platform file first bytes (Ok is) read ok stopped = (bytes, read, ok)
of_bytes platform file first bytes (Err trouble) read ok stopped = inl stopped
