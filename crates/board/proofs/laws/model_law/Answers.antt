use Rattle.board.proofs.Modelled.{runs_on_board}
use Rattle.board.proofs.laws.model_law.Goals as goal

-- the law of a board, of each board that the induction comes to
pub returns : goal.returns
returns c = λ layout opened events replies s run rules answer. runs_on_board c.board_law.ensures layout opened rules answer events replies s run
