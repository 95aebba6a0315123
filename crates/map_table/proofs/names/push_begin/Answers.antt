use Rattle.map_table.proofs.Pieces.{two}
use Rattle.map_table.proofs.names.push_begin.Goals as goal

pub returns-clause-items : goal.returns-clause-items
returns-clause-items c = two _ _ _ _ _ c.push_text.ensures.items c.push_address.ensures.items
