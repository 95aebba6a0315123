use Rattle.std.proofs.Common.{[], ◌≡◌, ℕ, Err, ap, drop, get_or, length, ◌+◌, ◌-◌, ◌*◌, ◌^◌, ◌<◌, ◌≤◌, List, arith}
use Rattle.pmp_encoding.specs.declared.extent.Extent.{Extent}
use Rattle.pmp_encoding.specs.declared.perm.Perm.TheVariants.{NoAccess}
use Rattle.permission_map.specs.declared.runs.Run.{Run}
use Rattle.permission_map.specs.Overwrite.{AreOverwritten}
use Rattle.permission_map.specs.Runs.{view_of_runs}
use Rattle.pmp_match.specs.RegisterBytes.{perm_at}
use Rattle.map_table.specs.declared.stretch.Stretch.{Stretch}
use Rattle.map_table.specs.Stretches.{AreStretches}
use Rattle.register_audit.specs.Pages.{IsTooFine}
use Rattle.register_audit.proofs.EachPage.{next_stretch, too_fine}
use Rattle.register_audit.proofs.pages.first_bytes.Goals as goal

fine_stretch :
    (old new : List Run) (xs : List Extent) (all : List Stretch) (at i : ℕ) (d : Stretch) (from to : ℕ) → i < length all
    → AreStretches (view_of_runs []) xs at (drop i all) (2 ^ 56)
    → ((page : ℕ) → 4096 * page < at → view_of_runs old page ≡ perm_at xs (4096 * page))
    → ((page : ℕ) → at ≤ 4096 * page → page < 2 ^ 44 → view_of_runs old page ≡ NoAccess)
    → (get_or all i d).first ≤ 4096 * from → 4096 * from < (get_or all i d).first + 4096 → (get_or all i d).end ≤ 4096 * to
    → 4096 * to < (get_or all i d).end + 4096
    → AreOverwritten old from (to - from) (get_or all i d).given new → 4096 < length new → IsTooFine xs
fine_stretch old new xs all at i d from to inside are before none low high past close over many =
    let next = next_stretch (view_of_runs []) xs at all i d inside are in
    let is : (get_or all i d).first ≡ at = next.0 in
    let stretch = next.1 in
    too_fine old new xs at (get_or all i d).end from to (get_or all i d).given before none
    (λ byte after below. stretch.given byte (omega (arith, is, after)) below) stretch.inside
    (omega (arith, is, low)) (omega (arith, is, high)) past close (omega (arith, stretch.some, high, past)) over many

pub returns-in-Err-TooManyRanges-clause-many : goal.returns-in-Err-TooManyRanges-clause-many
returns-in-Err-TooManyRanges-clause-many c = λ e.
    let inv = c.loop-stretch.invariant in
    let many = c.in-Err-TooManyRanges.ensures.too_many.0 (ap (λ f. Err f) c.in-Err-TooManyRanges.field-0-is) in
    fine_stretch _ many.1.0 c.args.extents.now _ inv.0 _ _ _ _ c.loop-stretch-test.true inv.1 inv.2 inv.3 c.page_from-from.ensures.from
    c.page_from-from.ensures.first
    c.page_from-to.ensures.from c.page_from-to.ensures.first many.1.1 many.1.2
