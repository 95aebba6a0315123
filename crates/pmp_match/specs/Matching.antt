-- The decision of a list of entries, computed from their extents.
use Rattle.std.specs.Prelude.{◌+◌, List, [], ◌∷◌, Bool, ◌&&◌, ◌||◌, nat_lt, nat_le, if◌then◌else◌}
use Rattle.pmp_encoding.specs.declared.extent.Extent.{Extent}
use Rattle.pmp_match.specs.declared.access.Access.{Access}
use Rattle.pmp_match.specs.Decision.{is_machine}
use Rattle.pmp_match.specs.Kinds.{holds}

-- the extent contains some byte of the access
abbrev pub touches : Extent → Access → Bool
touches x a = nat_lt x.base (a.address + a.size) && nat_lt a.address x.end

-- the extent contains each byte of the access and, outside machine mode, its permission allows the
-- kind
abbrev pub grants : Extent → Access → Bool
grants x a = (nat_le x.base a.address && nat_le (a.address + a.size) x.end)
    && (is_machine a.mode || holds x.perm a.kind)

-- the decision of the first extent with a byte of the access. If no extent has one, only machine
-- mode is allowed
abbrev pub lets_through : List Extent → Access → Bool
lets_through [] a = is_machine a.mode
lets_through (x ∷ extents) a = if touches x a then grants x a else lets_through extents a
