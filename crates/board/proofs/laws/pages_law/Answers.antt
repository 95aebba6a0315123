use Rattle.board.proofs.Stayed.{fresh_stay, new_stay}
use Rattle.board.proofs.laws.pages_law.Goals as goal

pub returns-clause-fresh : goal.returns-clause-fresh
returns-clause-fresh c = λ layout opened events old new run rules answer can on.
    fresh_stay c.board_law.ensures layout opened rules answer events old new run can on

pub returns-clause-made : goal.returns-clause-made
returns-clause-made c = λ layout opened events old mid new trap frame read question answered run rules first can x on.
    new_stay c.board_law.ensures layout opened rules first events old mid new trap frame read question answered run can x on
