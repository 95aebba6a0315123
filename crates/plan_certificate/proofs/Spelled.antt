-- What is written is spelled so.
use Rattle.std.proofs.Common.{◌^◌, ◌<◌, List, [], ◌∷◌, length, refl}
use Rattle.std.specs.List.{flat_map}
use Rattle.pmp_encoding.specs.declared.region.Entry.{Entry}
use Rattle.pmp_encoding.specs.Encoding.{cfg_of, address_of}
use Rattle.pmp_encoding.proofs.Pairs.{pair_is}
use Rattle.pmp_match.specs.Bounds.{BoundTree}
use Rattle.certificate_format.specs.declared.header.Version.{Version}
use Rattle.certificate_format.specs.Spelling.{SpellsEntries, FitsNode, Spells}
use Rattle.plan_certificate.specs.Written.{entry_bytes, certificate_bytes}

entries_spelled : (entries : List Entry) → SpellsEntries (flat_map entry_bytes entries) entries
entries_spelled [] = refl
entries_spelled (e ∷ entries) =
    (entry_bytes e, flat_map entry_bytes entries, refl, record { pair = (cfg_of e, address_of e); means = pair_is e; spelled = refl }, entries_spelled entries)

pub certificate_spelled : (version : Version) (entries : List Entry) (tree : BoundTree) → length entries < 2 ^ 32 → FitsNode 44 tree
    → Spells (certificate_bytes version entries tree) version entries tree
certificate_spelled version entries tree counted fits = record {
  listed = flat_map entry_bytes entries;
  spelled = refl;
  counted = counted;
  in_order = entries_spelled entries;
  fits = fits;
}
