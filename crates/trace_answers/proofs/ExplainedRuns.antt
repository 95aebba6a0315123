-- A machine whose answers are explained does what it does without comments.
use Rattle.text_lines.specs.LineLoop.{Meaning}
use Rattle.text_lines.proofs.Mapped.{Follows}
use Rattle.hart_sim.specs.declared.machine.Machine.{Machine}
use Rattle.hart_sim.specs.Reports.{DoesLine}
use Rattle.trace_answers.specs.declared.explained_run.ExplainingMachine.{ExplainingMachine}
use Rattle.trace_answers.specs.Explained.{explaining}

abbrev pub any : ExplainingMachine → Type 0
any lines = Unit {0}

abbrev pub machine_of : ExplainingMachine → Machine
machine_of lines = lines.machine

abbrev pub explains : Meaning ExplainingMachine
explains = λ old n line said new. explaining DoesLine old.machine n line said new.machine

pub follows : Follows any machine_of explains (explaining DoesLine)
follows = λ s n line said t h is. (tt, is)
