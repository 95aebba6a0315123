use Rattle.std.proofs.Common.{arith}
use Rattle.std.proofs.lemmas.Grind.{common_steps}
use Rattle.map_table.proofs.Pieces.{first_rows}
use Rattle.map_table.proofs.json.push_rows.Goals as goal

pub returns : goal.returns
returns c =
    first_rows c.args.extents.now c.args.all.now _ _ _ _ _ _ c.in_ok-extend_from_slice.ensures.items c.in_ok-push_row.ensures c.in_ok-push_more.ensures
    (grind (arith, common_steps, c.in-len1-up.len_at_least))
