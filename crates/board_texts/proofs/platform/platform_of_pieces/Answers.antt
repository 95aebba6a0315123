use Rattle.std.proofs.Common.{inl, inr, refl}
use Rattle.board_texts.proofs.platform.platform_of_pieces.Goals as goal

pub returns-in-Err-clause-refused : goal.returns-in-Err-clause-refused
returns-in-Err-clause-refused c = λ block tree e placed. inl (c.in-Err.fault, refl, c.in-Err.ensures.place block tree e placed)
