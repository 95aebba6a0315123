-- Extents that are read one after another, and what the entries say from which they come.
use Rattle.std.proofs.Common.{◌≡◌, ℕ, ◌+◌, ◌<◌, List, [], ◌∷◌, length, drop, get_or, map, true, cond, refl, sym, ap, ◌∙◌}
use Rattle.std.proofs.lemmas.List.{at_drop_more}
use Rattle.pmp_encoding.specs.declared.extent.Extent.{Extent}
use Rattle.pmp_encoding.specs.declared.region.Entry.{Entry}
use Rattle.pmp_encoding.specs.Extents.{extent_of}
use Rattle.pmp_match.specs.declared.access.Access.{Access}
use Rattle.pmp_match.specs.Decision.{allows}
use Rattle.pmp_match.specs.Matching.{touches, grants, lets_through}

-- the first extent with a byte of the access decides it
pub decided_at :
    (extents : List Extent) (i : ℕ) (d : Extent) (a : Access) → i < length extents → touches (get_or extents i d) a ≡ true
    → grants (get_or extents i d) a ≡ lets_through (drop i extents) a
decided_at extents i d a inside touched =
    sym
    (at_drop_more (λ xs. lets_through xs a) extents i d inside
    ∙ ap (λ t. cond t (grants (get_or extents i d) a) (lets_through (drop (i + 1) extents) a)) touched)

-- entries say what their extents say
pub entries_say : (entries : List Entry) (a : Access) → lets_through (map extent_of entries) a ≡ allows entries a
entries_say [] a = refl
entries_say (e ∷ entries) a = ap (λ rest. cond (touches (extent_of e) a) (grants (extent_of e) a) rest) (entries_say entries a)
