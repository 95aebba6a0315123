use Rattle.board_texts.proofs.PageNumbers.{inner_is, outer_is}
use Rattle.board_texts.proofs.pages.pages_law.Goals as goal

pub returns-clause-outer : goal.returns-clause-outer
returns-clause-outer c = λ extent page inside. outer_is extent page inside

pub returns-clause-inner : goal.returns-clause-inner
returns-clause-inner c = λ extent page inside. inner_is extent page inside
