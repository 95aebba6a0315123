-- The extents of a list of entries.
use Rattle.std.specs.Prelude.{List, map}
use Rattle.pmp_encoding.specs.declared.extent.Extent.{Extent}
use Rattle.pmp_encoding.specs.declared.region.Entry.{Entry}
use Rattle.pmp_encoding.specs.Extents.{extent_of}

-- the extents of a list of NA4 and NAPOT entries, in its order
abbrev pub matched_by : List Entry → List Extent
matched_by entries = map extent_of entries
