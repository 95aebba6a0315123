-- What stretches that agree say of their bytes, and of the meaning of the list.
use Rattle.std.proofs.Common.{◌≡◌, ◌∙◌, ℕ, ◌/◌, ◌<◌, ◌≤◌, List, [], ◌∷◌, ◌++◌, All, ⊎_elim, sym, arith}
use Rattle.std.specs.List.{AllByRecursion}
use Rattle.std.proofs.lemmas.Bool.{cases_lt}
use Rattle.std.proofs.lemmas.List.Elements.{recursion_from_All}
use Rattle.pmp_encoding.specs.declared.extent.Extent.{Extent}
use Rattle.pmp_encoding.specs.Views.{View}
use Rattle.pmp_match.specs.RegisterBytes.{perm_at}
use Rattle.map_table.specs.declared.stretch.Stretch.{Stretch}
use Rattle.map_table.specs.Stretches.{AreStretches, IsStretch}
use Rattle.register_audit.specs.Findings.{IsFirstDifference, IsFirstOdd, agrees}

agreed_by :
    (view : View) (extents : List Extent) (from to : ℕ) (all : List Stretch) → AreStretches view extents from all to → AllByRecursion agrees all
    → (byte : ℕ) → from ≤ byte → byte < to → perm_at extents byte ≡ view (byte / 4096)
agreed_by view extents from to [] are agree byte low high = absurd (omega arith)
agreed_by view extents from to (s ∷ all) are agree byte low high =
    ⊎_elim
    (λ here. are.1.given byte (omega arith) here ∙ sym agree.0 ∙ sym (are.1.wanted byte (omega arith) here))
    (λ behind. agreed_by view extents s.end to all are.2 agree.1 byte behind high)
    (cases_lt byte s.end)

-- stretches that agree give each of their bytes the view's permission
pub agreed :
    (view : View) (extents : List Extent) (from to : ℕ) (all : List Stretch) → AreStretches view extents from all to → All agrees all
    → (byte : ℕ) → from ≤ byte → byte < to → perm_at extents byte ≡ view (byte / 4096)
agreed view extents from to all are agree = agreed_by view extents from to all are (recursion_from_All agrees all agree)

-- the stretches before one, and that one
parted :
    (view : View) (extents : List Extent) (from to : ℕ) (before behind : List Stretch) (s : Stretch) → AreStretches view extents from (before ++ s ∷ behind) to
    → AreStretches view extents from before s.first × IsStretch view extents s
parted view extents from to [] behind s are = (sym are.0, are.1)
parted view extents from to (x ∷ before) behind s are =
    let rest = parted view extents x.end to before behind s are.2 in ((are.0, are.1, rest.0), rest.1)

pub difference :
    (view : View) (extents : List Extent) (to : ℕ) (all : List Stretch) (s : Stretch) → AreStretches view extents 0 all to → IsFirstOdd all s
    → IsFirstDifference view extents s
difference view extents to all s are odd =
    let parts = parted view extents 0 to odd.before odd.behind s (rw odd.split at are) in
    record {
      stretch = parts.1;
      differs = odd.odd;
      same_below = λ byte below. agreed view extents 0 s.first odd.before parts.0 odd.agree byte (omega arith) below;
    }
