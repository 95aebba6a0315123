use Rattle.board.proofs.Timed.{unseen}
use Rattle.board.proofs.laws.time_law.Goals as goal

pub returns : goal.returns
returns c = λ layout opened events board run rules first can.
    let atomic = unseen c.board_law.ensures c.firmware_law.ensures c.step_law.ensures layout opened rules first events board run can in
    (atomic, c.board_law.ensures layout opened events board atomic rules first can)
