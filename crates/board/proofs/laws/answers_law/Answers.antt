use Rattle.board.proofs.Answered.{well_formed}
use Rattle.board.proofs.laws.answers_law.Goals as goal

pub returns : goal.returns
returns c = λ layout opened read written s served rules first. (well_formed c.firmware_law.ensures layout opened rules first read written s served).0
