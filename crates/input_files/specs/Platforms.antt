-- Verdicts on platform files.
use Rattle.std.specs.Prelude.{Bool, true, false, List, ℕ}
use Rattle.platforms.specs.Platform.{PlatformLayout}
use Rattle.input_files.specs.Document.{IsPlatformFile, IsPlatformText}

-- the verdict on a text as a platform
abbrev pub IsTextVerdict : List ℕ → Bool → Type 0
IsTextVerdict text true = (platform : PlatformLayout) × IsPlatformText text platform
IsTextVerdict text false = (platform : PlatformLayout) → IsPlatformText text platform → ⊥

-- the verdict on the bytes of a file as a platform
abbrev pub IsPlatformVerdict : List ℕ → Bool → Type 0
IsPlatformVerdict bytes true = (platform : PlatformLayout) × IsPlatformFile bytes platform
IsPlatformVerdict bytes false = (platform : PlatformLayout) → IsPlatformFile bytes platform → ⊥
