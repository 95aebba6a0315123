-- Comparison of registers with a view.
use Rattle.std.specs.Prelude.{◌≡◌, List, Bool, true, false}
use Rattle.pmp_encoding.specs.declared.extent.Extent.{Extent}
use Rattle.pmp_encoding.specs.Views.{View}
use Rattle.pmp_match.specs.declared.registers.Registers.{Registers}
use Rattle.pmp_match.specs.declared.access.Mode.{Mode}
use Rattle.pmp_match.specs.Reserved.{IsFirstReserved}
use Rattle.register_audit.specs.declared.verdict.Verdict.{Verdict}
use Rattle.register_audit.specs.declared.verdict.Verdict.TheVariants as verdicts
use Rattle.register_audit.specs.Registers.{count_on}
use Rattle.register_audit.specs.Findings.{CutsAlone, IsFirstDifference}
use Rattle.register_audit.specs.Modes.{AreGiven, MeanFor}

-- the meaning of a verdict for a mode
abbrev pub IsVerdict : Mode → View → Registers → Verdict → Type 0
IsVerdict mode view registers (verdicts.Means count) = MeanFor mode registers view
    × (count_on registers.cfgs ≡ count)
IsVerdict mode view registers (verdicts.Differs stretch) =
    (given : List Extent) × AreGiven mode registers given × IsFirstDifference view given stretch
IsVerdict mode view registers (verdicts.Cuts entry at) =
    (given : List Extent) × AreGiven mode registers given × CutsAlone view given entry at
IsVerdict mode view registers (verdicts.NoMeaning found) = IsFirstReserved registers found

-- the verdict is positive
abbrev pub is_meant : Verdict → Bool
is_meant (verdicts.Means count) = true
is_meant _ = false

-- the verdict is a stretch that differs
abbrev pub is_difference : Verdict → Bool
is_difference (verdicts.Differs stretch) = true
is_difference _ = false
