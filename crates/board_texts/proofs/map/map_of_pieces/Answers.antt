use Rattle.std.proofs.Common.{inl, inr, refl}
use Rattle.board_texts.proofs.map.map_of_pieces.Goals as goal

pub returns-in-Err-clause-refused : goal.returns-in-Err-clause-refused
returns-in-Err-clause-refused c = λ block tree e placed. inl (c.in-Err.fault, refl, c.in-Err.ensures.place block tree e placed)

pub returns-clause-refused : goal.returns-clause-refused
returns-clause-refused c = λ block tree e placed. inr c.in-Err-map_of_board.ensures.refused
