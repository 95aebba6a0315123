-- Why there is no platform of a file.
use Rattle.std.proofs.Common.{◌≡◌, ◌⊎◌, ◌^◌, inl, inr, List, ℕ, Result, Ok, Err, IfErr}
use Rattle.std.specs.Borrow.{Bor}
use Rattle.platforms.specs.Platform.{PlatformLayout}
use Rattle.input_files.specs.Document.{IsPlatformFile}
use Rattle.program_files.specs.declared.trouble.Trouble.{Trouble}
use Rattle.program_files.specs.declared.trouble.Trouble.TheVariants.{NotAPlatform, Memory}
use Rattle.program_files.specs.Reading.{HasBytes, Reading}
use Rattle.monitor_cli.specs.Platforms.{HasNoPlatform}
use Rattle.monitor_cli.specs.Platforms as platforms

-- why there is no platform of a file whose bytes were read
pub no_platform :
    {R X : Type 0} (file : Bor (List ℕ)) (source : Reading R) (bytes : List ℕ) (result : Result X Trouble) → HasBytes (2 ^ 20) source bytes
    → IfErr result (λ trouble. (trouble ≡ Memory) ⊎ ((trouble ≡ NotAPlatform file) × ((platform : PlatformLayout) → IsPlatformFile bytes platform → ⊥)))
    → IfErr result (HasNoPlatform file source)
no_platform file source bytes (Ok x) read refused = tt
no_platform file source bytes (Err trouble) read (inl e) = rw e (platforms.HasNoPlatform.memory bytes read)
no_platform file source bytes (Err trouble) read (inr p) = rw p.0 (platforms.HasNoPlatform.no_platform bytes read p.1)
