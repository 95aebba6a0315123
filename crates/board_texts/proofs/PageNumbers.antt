-- The pages of an extent, by their bytes.
use Rattle.std.proofs.Common.{◌≡◌, ℕ, ◌+◌, ◌-◌, ◌*◌, ◌/◌, ◌^◌, ◌<◌, ◌&&◌, nat_le, nat_lt, min, arith}
use Rattle.std.proofs.lemmas.Grind.{common_steps}
use Rattle.std.proofs.lemmas.Bool.Decides.{nat_tests}
use Rattle.pmp_encoding.specs.Views.{in_range}
use Rattle.device_tree.specs.declared.rows.Extent.{Extent}
use Rattle.board_texts.specs.Pages.{has_all_of, has_byte_of, inner, outer}

inner_numbers :
    (base size page : ℕ) → page < 2 ^ 44
    → (nat_le (min ((base + 4095) / 4096) (2 ^ 44)) page
    && nat_lt page (min ((base + 4095) / 4096) (2 ^ 44) + (min ((base + size) / 4096) (2 ^ 44) - min ((base + 4095) / 4096) (2 ^ 44))))
    ≡ (nat_le base (4096 * page) && nat_le (4096 * page + 4096) (base + size))
inner_numbers base size page inside = grind (arith, nat_tests, common_steps, inside)

pub inner_is : (extent : Extent) (page : ℕ) → page < 2 ^ 44 → in_range (inner extent).first (inner extent).count page ≡ has_all_of extent page
inner_is extent page inside = inner_numbers extent.base extent.size page inside

outer_numbers :
    (base size page : ℕ) → page < 2 ^ 44 → 0 < size
    → (nat_le (min (base / 4096) (2 ^ 44)) page
    && nat_lt page (min (base / 4096) (2 ^ 44) + (min ((base + size + 4095) / 4096) (2 ^ 44) - min (base / 4096) (2 ^ 44))))
    ≡ (nat_lt (4096 * page) (base + size) && nat_lt base (4096 * page + 4096))
outer_numbers base size page inside some = grind (arith, nat_tests, common_steps, inside, some)

pub outer_is : (extent : Extent) (page : ℕ) → page < 2 ^ 44 → in_range (outer extent).first (outer extent).count page ≡ has_byte_of extent page
outer_is extent page inside = grind (arith, nat_tests, common_steps, inside, outer_numbers extent.base extent.size page inside)
