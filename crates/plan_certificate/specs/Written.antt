-- The written certificate, in which each entry is its canonical pair.
use Rattle.std.specs.Prelude.{ℕ, List, ◌++◌, length}
use Rattle.std.specs.List.{flat_map}
use Rattle.pmp_encoding.specs.declared.limit.Limit.{Limit}
use Rattle.pmp_encoding.specs.declared.limit.Limit.TheVariants.{Sixteen, SixtyFour}
use Rattle.pmp_encoding.specs.declared.region.Entry.{Entry}
use Rattle.pmp_encoding.specs.Encoding.{cfg_of, address_of}
use Rattle.pmp_match.specs.Bounds.{BoundTree}
use Rattle.prefix_tree.specs.Trees.{PermTree}
use Rattle.entry_planner.specs.Plans.{Planned, costed}
use Rattle.certificate_format.specs.declared.header.Version.{Version}
use Rattle.certificate_format.specs.declared.header.Version.TheVariants.{One, Two}
use Rattle.certificate_format.specs.Spelling.{pair_bytes, header_bytes, node_bytes}

-- version 1 for sixteen entries, version 2 for sixty-four
abbrev pub version_for : Limit → Version
version_for Sixteen = One
version_for SixtyFour = Two SixtyFour

-- the bytes of an entry: its canonical pair
abbrev pub entry_bytes : Entry → List ℕ
entry_bytes e = pair_bytes (cfg_of e, address_of e)

-- the header, the entries in order, and the root
abbrev pub certificate_bytes : Version → List Entry → BoundTree → List ℕ
certificate_bytes version entries tree =
    header_bytes (record { version = version; count = length entries })
    ++ (flat_map entry_bytes entries ++ node_bytes tree)

-- the certificate of a plan of a tree, for a hart with that limit
abbrev pub certificate_for : Limit → Planned → PermTree → List ℕ
certificate_for limit plan tree =
    certificate_bytes (version_for limit) plan.entries (costed plan.costs 0 tree)
