use Rattle.hart_trace.proofs.FaultTexts.{each_fault}
use Rattle.hart_trace.proofs.lines.fault_text.Goals as goal

pub returns : goal.returns
returns c = rw (c.from.ensures, c.number.ensures) (each_fault _ c.args.cause)
