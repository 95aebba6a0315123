-- The addresses that an entry of mode TOR, top of range, matches.
use Rattle.std.specs.Prelude.{ℕ, ◌*◌, nat_lt, if◌then◌else◌}
use Rattle.pmp_encoding.specs.declared.extent.Extent.{Extent}
use Rattle.pmp_encoding.specs.declared.perm.Perm.{Perm}
use Rattle.pmp_encoding.specs.declared.perm.Perm.TheVariants.{NoAccess}

-- the empty extent
abbrev pub nowhere : Extent
nowhere = record { base = 0; end = 0; perm = NoAccess }

-- the addresses from 4 * bottom up to but excluding 4 * top, or none unless bottom < top
abbrev pub tor_extent : ℕ → ℕ → Perm → Extent
tor_extent bottom top perm =
    if nat_lt bottom top then record { base = 4 * bottom; end = 4 * top; perm = perm } else nowhere
