-- The output of `judge --registers` for a trace of accesses.
use Rattle.pmp_match.specs.declared.registers.Registers.{Registers}
use Rattle.text_lines.specs.LineLoop.{Meaning}
use Rattle.hart_trace.specs.Answers.{Outcomes, answered_by}
use Rattle.register_audit.specs.Judgement.{RegistersJudge}

-- the outcomes of accesses under registers
abbrev pub by_registers : Registers → Outcomes
by_registers registers = λ access result. RegistersJudge registers access result

-- the answers to the lines of a trace under registers
abbrev pub judged_by_registers : Registers → Meaning (Unit {0})
judged_by_registers registers = answered_by (by_registers registers)
