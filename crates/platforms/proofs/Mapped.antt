-- Ranges set one before the other.
use Rattle.std.proofs.Common.{ℕ, suc, ◌≡◌, ◌+◌, ◌/◌, ◌<◌, ◌∙◌, sym, ap, cond, List, ◌∷◌, length, get_or, drop, drop-cons, add-one}
use Rattle.pmp_encoding.specs.declared.perm.Perm.{Perm}
use Rattle.pmp_encoding.specs.declared.perm.Perm.TheVariants.{NoAccess, ReadWriteExecute}
use Rattle.pmp_encoding.specs.Views.{in_range}
use Rattle.pmp_encoding.specs.Views.{View, SameView, overwritten}
use Rattle.pmp_encoding.specs.declared.pages.PageRange.{PageRange}
use Rattle.platforms.specs.Platform.{PlatformLayout, device_perm, platform_perm}
use Rattle.platforms.specs.Ranges.{has_page}
use Rattle.platforms.proofs.ShortNames.{is_among}

-- the list from a place on
pub from_place : {X : Type 0} (xs : List X) (i : ℕ) (x : X) → i < length xs → x ≡ get_or xs i x → drop i xs ≡ x ∷ drop (i + 1) xs
from_place xs i x inside is = drop-cons xs i x inside ∙ ap (λ y. y ∷ drop (suc i) xs) (sym is) ∙ ap (λ j. x ∷ drop j xs) (sym (add-one i))

pub device_set :
    (devices : List (ℕ × ℕ × Perm)) (i : ℕ) (d : ℕ × ℕ × Perm) (old new : View) → i < length devices → d ≡ get_or devices i d
    → SameView old (device_perm (drop (i + 1) devices))
    → SameView new (overwritten old (d.0 / 4096) (d.1 / 4096) d.2) → SameView new (device_perm (drop i devices))
device_set devices i d old new inside is before set page small =
    set page small
    ∙ ap (λ p. cond (in_range (d.0 / 4096) (d.1 / 4096) page) d.2 p) (before page small)
    ∙ sym (ap (λ ds. device_perm ds page) (from_place devices i d inside is))

-- the devices set first, then the memory, then nothing on the monitor's pages: that is what the platform allows
pub platform_view :
    (layout : PlatformLayout) (devices : List (ℕ × ℕ × Perm)) (ram : List (ℕ × ℕ)) (pages : PageRange) (first second third : View) → layout.devices ≡ devices
    → layout.ram ≡ ram
    → pages ≡ record { first = layout.monitor.0 / 4096; count = layout.monitor.1 / 4096 } → SameView first (device_perm devices)
    → SameView second (λ page. cond (is_among ram page) ReadWriteExecute (first page)) → SameView third (overwritten second pages.first pages.count NoAccess)
    → SameView third (λ page. cond (has_page layout.monitor page) NoAccess (platform_perm layout page))
platform_view layout devices ram pages first second third devices_are ram_is pages_are on_devices on_ram on_monitor page small =
    on_monitor page small
    ∙ ap (λ (r : PageRange). cond (in_range r.first r.count page) NoAccess (second page)) pages_are
    ∙ ap (λ p. cond (has_page layout.monitor page) NoAccess p)
    (on_ram page small ∙ ap (λ p. cond (is_among ram page) ReadWriteExecute p) (on_devices page small ∙ sym (ap (λ ds. device_perm ds page) devices_are))
    ∙ sym (ap (λ rs. cond (is_among rs page) ReadWriteExecute (device_perm layout.devices page)) ram_is))
