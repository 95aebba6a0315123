use Rattle.std.proofs.Common.{ℕ, List, ◌≡◌, ◌⊎◌, Err, ap, inl, inr, refl, sym}
use Rattle.std.specs.Borrow.{Bor}
use Rattle.platforms.specs.Platform.{PlatformLayout}
use Rattle.input_files.specs.declared.fault.TextFault.{TextFault}
use Rattle.input_files.specs.declared.fault.TextFault.TheVariants as texts
use Rattle.program_files.specs.declared.trouble.Trouble.TheVariants.{NotAPlatform, Memory}
use Rattle.input_files.specs.Document.{IsPlatformFile}
use Rattle.monitor_cli.specs.Platforms.{text_trouble}
use Rattle.monitor_cli.proofs.platform_inputs.platform_in.Goals as goal

by_fault : (fault : TextFault) (file : Bor (List ℕ)) (P : Type 0) → (fault ≡ texts.NotAPlatform → P)
    → (text_trouble file fault ≡ Memory) ⊎ ((text_trouble file fault ≡ NotAPlatform file) × P)
by_fault texts.NotAPlatform file P p = inr (refl, p refl)
by_fault texts.Memory file P p = inl refl

pub returns-in-Err-clause-refused : goal.returns-in-Err-clause-refused
returns-in-Err-clause-refused c =
    rw c.text_trouble.ensures
    (by_fault c.in-Err.fault c.args.file ((platform : PlatformLayout) → IsPlatformFile c.args.bytes.now platform → ⊥)
    (λ e platform said. c.in-Err.ensures.refused (ap (λ f. Err f) e) platform (rw (sym c.in-Ok.ensures.cases.0) at said.platform_text)))
