use Rattle.std.proofs.Common.{◌^◌}
use Rattle.permission_map.specs.Runs.{view_of_runs}
use Rattle.pmp_match.specs.Lists.{matched_by}
use Rattle.map_table.proofs.Listed.{rows_of}
use Rattle.map_table.proofs.tables.picture.Goals as goal

pub picture_of-requires : goal.picture_of-requires
picture_of-requires c = rw (c.in_ok-tree.ensures, c.as_slice-2.ensures.value, c.as_slice.ensures.value, c.in_ok-extents.ensures)
    (rows_of (view_of_runs c.args.map.now) (matched_by c.args.entries.now) 0 (2 ^ 56) _ c.in_ok-all.ensures)
