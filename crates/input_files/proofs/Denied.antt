-- Pages without a permission, by the run that comes next.
use Rattle.std.proofs.Common.{◌≡◌, List, [], Bool, true, false, refl}
use Rattle.pmp_encoding.specs.declared.perm.Perm.TheVariants.{NoAccess}
use Rattle.permission_map.specs.declared.runs.Run.{Run}
use Rattle.input_files.specs.declared.idle_lines.Numbered.{Numbered}
use Rattle.input_files.specs.Settings.{IsAllowedOn, IsDeniedOn, IsRedundantDenial, SetTo, allowed, denied}

pub said_by :
    (kept : List Numbered) (setting : Run) (before : List Run) (b : Bool) → SetTo [] kept before → setting.perm ≡ NoAccess
    → (b ≡ true → IsDeniedOn before setting)
    → (b ≡ false → IsAllowedOn before setting) → IsRedundantDenial kept setting b
said_by kept setting before true set none d a = denied before set none (d refl)
said_by kept setting before false set none d a = allowed before set (a refl)
