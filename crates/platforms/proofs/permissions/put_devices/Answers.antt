use Rattle.std.proofs.Common.{ℕ, ◌≡◌, ◌+◌, ◌-◌, ◌/◌, ◌<◌, subst, List, length, drop, get_or, arith}
use Rattle.std.proofs.lemmas.List.{get_or_default}
use Rattle.pmp_encoding.specs.declared.perm.Perm.TheVariants.{NoAccess}
use Rattle.permission_map.specs.Runs.{view_of_runs}
use Rattle.pmp_encoding.specs.Views.{SameView, overwritten}
use Rattle.platforms.specs.Platform.{device_perm}
use Rattle.pmp_encoding.specs.declared.perm.Perm.{Perm}
use Rattle.pmp_encoding.specs.declared.pages.PageRange.{PageRange}
use Rattle.platforms.proofs.Mapped.{device_set}
use Rattle.platforms.proofs.permissions.put_devices.Goals as goal

abbrev nothing : ℕ × ℕ × Perm
nothing = (0, 0, NoAccess)

pub loop-i-preserved : goal.loop-i-preserved
loop-i-preserved c =
    let devices : List (ℕ × ℕ × Perm) = c.args.devices.now in
    let i : ℕ = c.loop-i.i - 1 in
    let inside : i < length devices = omega (arith, c.loop-i.invariant.inside, c.loop-i-test.true) in
    let d : ℕ × ℕ × Perm = get_or devices i nothing in
    let next : i + 1 ≡ c.loop-i.i = omega (arith, c.loop-i-test.true) in
    let before : SameView (view_of_runs c.loop-i.perms) (device_perm (drop (i + 1) devices)) = rw next c.loop-i.invariant.view in
    let pages : PageRange = c.of_bytes.result in
    let begun : SameView (view_of_runs c.set_pages.new.map) (overwritten (view_of_runs c.loop-i.perms) (d.0 / 4096) pages.count d.2) =
    subst (λ first. SameView (view_of_runs c.set_pages.new.map) (overwritten (view_of_runs c.loop-i.perms) first pages.count d.2)) c.of_bytes.ensures.first
    c.in_ok-set_pages.ensures.view
    in
    let set : SameView (view_of_runs c.set_pages.new.map) (overwritten (view_of_runs c.loop-i.perms) (d.0 / 4096) (d.1 / 4096) d.2) =
    subst (λ count. SameView (view_of_runs c.set_pages.new.map) (overwritten (view_of_runs c.loop-i.perms) (d.0 / 4096) count d.2)) c.of_bytes.ensures.count
    begun
    in
    record {
      inside = omega (arith, inside);
      few = omega (arith, c.loop-i.invariant.few, c.in_ok-set_pages.ensures.few, next);
      view = device_set devices i d (view_of_runs c.loop-i.perms) (view_of_runs c.set_pages.new.map) inside
          (get_or_default devices i nothing d inside) before set;
    }
