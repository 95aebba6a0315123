use Rattle.text_lines.proofs.InputLines.{one_list_of_lines, raw_lines-are}
use Rattle.text_lines.proofs.laws.lines_law.Goals as goal

pub returns-clause-one : goal.returns-clause-one
returns-clause-one c = one_list_of_lines

pub returns-clause-these : goal.returns-clause-these
returns-clause-these c = raw_lines-are
