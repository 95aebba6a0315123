use Rattle.board.proofs.Boards.{board_kept}
use Rattle.board.proofs.laws.board_law.Goals as goal

-- the laws of the loop and of the model, for a board
pub returns : goal.returns
returns c = λ layout opened events board run rules answer can.
    board_kept c.firmware_law.ensures c.step_law.ensures layout opened rules answer events board run can
