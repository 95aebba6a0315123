-- The platform of a file that a command reads.
use Rattle.std.specs.Prelude.{ℕ, ◌^◌, List}
use Rattle.std.specs.Borrow.{Bor}
use Rattle.platforms.specs.Platform.{PlatformLayout}
use Rattle.input_files.specs.Document.{IsPlatformFile}
use Rattle.input_files.specs.declared.fault.TextFault.{TextFault}
use Rattle.input_files.specs.declared.fault.TextFault.TheVariants as texts
use Rattle.platforms.specs.declared.boot_fault.BootFault.{BootFault}
use Rattle.platforms.specs.declared.boot_fault.BootFault.TheVariants as boots
use Rattle.program_files.specs.declared.trouble.Trouble.{Trouble}
use Rattle.program_files.specs.declared.trouble.Trouble.TheVariants.{NeedsEntries, NotAPlatform}
use Rattle.program_files.specs.declared.trouble.Trouble.TheVariants.{Memory}
use Rattle.program_files.specs.Reading.{HasBytes, HasNoBytes, Reading}

-- the bytes of a file are the platform
pub record HasPlatform {R : Type 0} (source : Reading R) (platform : PlatformLayout) : Type 0 where
  pub bytes : List ℕ
  pub read : HasBytes (2 ^ 20) source bytes
  pub is_platform : IsPlatformFile bytes platform

-- the reason why the platform of a file was not returned
pub data HasNoPlatform {R : Type 0} (file : Bor (List ℕ)) (source : Reading R) : Trouble
    → Type 0 where
  no_bytes : (trouble : Trouble) → HasNoBytes (2 ^ 20) file source trouble
      → HasNoPlatform file source trouble
  no_platform : (bytes : List ℕ) → HasBytes (2 ^ 20) source bytes
      → ((platform : PlatformLayout) → IsPlatformFile bytes platform → ⊥)
      → HasNoPlatform file source (NotAPlatform file)
  memory : (bytes : List ℕ) → HasBytes (2 ^ 20) source bytes → HasNoPlatform file source Memory

-- the failure for a fault of a platform's text
abbrev pub text_trouble : Bor (List ℕ) → TextFault → Trouble
text_trouble file texts.NotAPlatform = NotAPlatform file
text_trouble file texts.Memory = Memory

-- the failure for a refusal to boot
abbrev pub boot_trouble : BootFault → Trouble
boot_trouble (boots.NeedsMoreEntries n) = NeedsEntries n
boot_trouble boots.Memory = Memory
