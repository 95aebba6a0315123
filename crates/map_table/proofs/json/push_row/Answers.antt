use Rattle.map_table.proofs.Pieces.{two}
use Rattle.map_table.proofs.json.push_row.Goals as goal

pub returns : goal.returns
returns c = two _ _ _ _ _ (rw (c.as_slice.ensures.value, c.stretch_line-line.ensures) at c.in_ok-extend_from_slice.ensures.items) c.in_ok-push_entry.ensures
