-- The pages of one stretch more.
use Rattle.std.proofs.Common.{◌≡◌, ◌∙◌, ℕ, drop, get_or, length, subst, ◌+◌, ◌-◌, ◌*◌, ◌^◌, ◌<◌, ◌≤◌, ⊎_elim, List, sym, arith}
use Rattle.std.proofs.lemmas.Bool.{cases_lt}
use Rattle.pmp_encoding.specs.declared.extent.Extent.{Extent}
use Rattle.pmp_encoding.specs.declared.perm.Perm.{Perm}
use Rattle.pmp_encoding.specs.declared.perm.Perm.TheVariants.{NoAccess}
use Rattle.permission_map.specs.declared.runs.Run.{Run}
use Rattle.permission_map.specs.Overwrite.{AreOverwritten}
use Rattle.permission_map.specs.Runs.{view_of_runs}
use Rattle.permission_map.proofs.Overwritten.{changed_below, changed_in, changed_past}
use Rattle.std.proofs.lemmas.List.{drop_more}
use Rattle.pmp_encoding.specs.Views.{View}
use Rattle.register_audit.specs.Pages.{IsTooFine}
use Rattle.pmp_match.specs.RegisterBytes.{perm_at}
use Rattle.map_table.specs.declared.stretch.Stretch.{Stretch}
use Rattle.map_table.specs.Stretches.{AreStretches, IsStretch}

-- the stretch of a place is one, and the others come after it
pub next_stretch :
    (view : View) (xs : List Extent) (at : ℕ) (all : List Stretch) (i : ℕ) (d : Stretch) → i < length all → AreStretches view xs at (drop i all) (2 ^ 56)
    → ((get_or all i d).first ≡ at) × IsStretch view xs (get_or all i d) × AreStretches view xs (get_or all i d).end (drop (i + 1) all) (2 ^ 56)
next_stretch view xs at all i d inside are = subst (λ ss. AreStretches view xs at ss (2 ^ 56)) (drop_more all i d inside) are

-- a stretch more: the pages that begin before its end have what the extents give their first byte
pub one_more :
    (old new : List Run) (xs : List Extent) (at end from to : ℕ) (perm : Perm)
    → ((page : ℕ) → 4096 * page < at → view_of_runs old page ≡ perm_at xs (4096 * page))
    → ((byte : ℕ) → at ≤ byte → byte < end → perm_at xs byte ≡ perm) → end ≤ 2 ^ 56 → at ≤ 4096 * from → 4096 * from < at + 4096 → end ≤ 4096 * to → from ≤ to
    → AreOverwritten old from (to - from) perm new → (page : ℕ) → 4096 * page < end → view_of_runs new page ≡ perm_at xs (4096 * page)
one_more old new xs at end from to perm before given inside low high past order are page less =
    ⊎_elim (λ below. are.view_is page (omega (arith, less, inside)) ∙ changed_below (view_of_runs old) from (to - from) perm page below
    ∙ before page (omega (arith, below, high)))
    (λ above.
    are.view_is page (omega (arith, less, inside)) ∙ changed_in (view_of_runs old) from (to - from) perm page above (omega (arith, less, past, order))
    ∙ sym (given (4096 * page) (omega (arith, above, low)) less))
    (cases_lt page from)

-- and the others nothing
pub none_more :
    (old new : List Run) (at from to : ℕ) (perm : Perm) → ((page : ℕ) → at ≤ 4096 * page → page < 2 ^ 44 → view_of_runs old page ≡ NoAccess) → at ≤ 4096 * from
    → from ≤ to
    → AreOverwritten old from (to - from) perm new → (page : ℕ) → to ≤ page → page < 2 ^ 44 → view_of_runs new page ≡ NoAccess
none_more old new at from to perm none low order are page past small =
    are.view_is page small ∙ changed_past (view_of_runs old) from (to - from) perm page (omega (arith, past, order))
    ∙ none page (omega (arith, past, order, low)) small

-- too many ranges with one stretch more
pub too_fine :
    (old new : List Run) (xs : List Extent) (at end from to : ℕ) (perm : Perm)
    → ((page : ℕ) → 4096 * page < at → view_of_runs old page ≡ perm_at xs (4096 * page))
    → ((page : ℕ) → at ≤ 4096 * page → page < 2 ^ 44 → view_of_runs old page ≡ NoAccess)
    → ((byte : ℕ) → at ≤ byte → byte < end → perm_at xs byte ≡ perm) → end ≤ 2 ^ 56 → at ≤ 4096 * from → 4096 * from < at + 4096 → end ≤ 4096 * to
    → 4096 * to < end + 4096 → from ≤ to
    → AreOverwritten old from (to - from) perm new → 4096 < length new → IsTooFine xs
too_fine old new xs at end from to perm before none given inside low high past close order are many = record {
  runs = new;
  are_runs = are.are_runs;
  many = many;
  to = to;
  below = λ page less. one_more old new xs at end from to perm before given inside low high past order are page (omega (arith, less, close));
  none = none_more old new at from to perm none low order are;
}
