use Rattle.map_table.proofs.Pieces.{four}
use Rattle.map_table.proofs.json.push_decider.Goals as goal

pub returns : goal.returns
returns c =
    four _ _ _ _ _ _ _ _ _ (rw (c.as_slice.ensures.value, c.number_line.ensures) at c.in_ok-extend_from_slice.ensures.items)
    c.in_ok-extend_from_slice-2.ensures.items
    (rw (c.as_slice-2.ensures.value, c.in_ok-behind.ensures) at c.in_ok-push_numbers.ensures) c.in_ok-extend_from_slice-3.ensures.items
