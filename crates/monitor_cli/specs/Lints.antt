-- The results of `lint`: whether a file is valid.
use Rattle.std.specs.Prelude.{◌≡◌, ◌⊎◌, ℕ, ◌^◌, ◌==◌, Bool, true, false, List, Option, Some, None}
use Rattle.std.specs.Prelude.{Result, Ok, Err, codes}
use Rattle.std.specs.List.{ends_with}
use Rattle.std.specs.Borrow.{Bor}
use Rattle.input_files.specs.declared.taker.Taker.TheVariants as takers
use Rattle.input_files.specs.Traces.{is_trace}
use Rattle.input_files.specs.Maps.{IsVerdictOfLines}
use Rattle.pmp_encoding.specs.declared.xlen.Xlen.{Xlen}
use Rattle.platforms.specs.Platform.{PlatformLayout}
use Rattle.input_files.specs.Platforms.{IsPlatformVerdict}
use Rattle.register_audit.specs.declared.listing.Listing.{Listing}
use Rattle.register_audit.specs.RegisterListings.{IsFirstUnknown, listed}
use Rattle.command_line.specs.declared.options.LintKind.{LintKind}
use Rattle.command_line.specs.declared.options.LintKind.TheVariants as kinds
use Rattle.program_files.specs.declared.trouble.Trouble.{Trouble}
use Rattle.program_files.specs.declared.trouble.Trouble.TheVariants.{Memory, Output}
use Rattle.program_files.specs.Reading.{HasBytes, HasNoBytes, IsUnread, Reading}
use Rattle.monitor_cli.specs.Platforms.{HasNoPlatform, HasPlatform}

-- a file whose name ends in `.toml` should be a platform, any other one a map
abbrev pub names_platform : List ℕ → Bool
names_platform name = ends_with (λ a b. a == b) name (codes ".toml")

-- the verdict on bytes as a platform, if the first argument is true, and otherwise as a map
abbrev pub IsFound : Bool → List ℕ → Bool → Type 0
IsFound true bytes is = IsPlatformVerdict bytes is
IsFound false bytes is = IsVerdictOfLines bytes is

-- the verdict on bytes as a listing of registers
abbrev pub IsListingFound : Xlen → List ℕ → Bool → Type 0
IsListingFound xlen bytes true = (leaves : Listing) × (listed xlen bytes ≡ Some leaves)
IsListingFound xlen bytes false = (n : ℕ) × IsFirstUnknown xlen bytes n

-- the number of harts for a trace: that of a platform if one is named, otherwise four
abbrev pub HasHarts : {R : Type 0} → Option (Bor (List ℕ)) → Reading R → ℕ → Type 0
HasHarts None source harts = (harts ≡ 4) × IsUnread source
HasHarts (Some file) source harts = (platform : PlatformLayout) × HasPlatform source platform
    × (harts ≡ platform.harts)

-- the reason why that is unknown
abbrev pub HasNoHarts : {R : Type 0} → Option (Bor (List ℕ)) → Reading R → Trouble → Type 0
HasNoHarts None source trouble = ⊥
HasNoHarts (Some file) source trouble = HasNoPlatform file source trouble

-- a failure that is not about the input: of an allocation or of standard output
abbrev pub IsOfDevices : Trouble → Type 0
IsOfDevices trouble = (trouble ≡ Output) ⊎ (trouble ≡ Memory)

-- a file is found to be valid or not; or there is a failure: of an allocation, of standard output,
-- or of this kind
abbrev pub Finds : (Bool → Type 0) → (Trouble → Type 0) → Result Bool Trouble → Type 0
Finds IsIt IsTrouble (Ok is) = IsIt is
Finds IsIt IsTrouble (Err trouble) = IsOfDevices trouble ⊎ IsTrouble trouble

-- `lint` for each kind of file: it is read, and for a trace the named platform is read first
abbrev pub Lints : {R : Type 0} → LintKind → Xlen → Bor (List ℕ) → Option (Bor (List ℕ)) → Reading R
    → Reading R → Result Bool Trouble → Type 0
Lints kinds.ByName xlen file platform first second done =
    Finds (λ is. (bytes : List ℕ) × HasBytes (2 ^ 20) first bytes
    × IsFound (names_platform file.now) bytes is)
    (HasNoBytes (2 ^ 20) file first) done
Lints kinds.Registers xlen file platform first second done =
    Finds (λ is. (bytes : List ℕ) × HasBytes (2 ^ 20) first bytes × IsListingFound xlen bytes is)
    (HasNoBytes (2 ^ 20) file first) done
Lints kinds.Trace xlen file platform first second done =
    Finds (λ is. (harts : ℕ) × (bytes : List ℕ) × HasHarts platform second harts
    × HasBytes (2 ^ 30) first bytes × (is ≡ is_trace (takers.Run harts) bytes))
    (λ trouble. HasNoHarts platform second trouble ⊎ HasNoBytes (2 ^ 30) file first trouble) done
