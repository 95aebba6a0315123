use Rattle.std.proofs.lemmas.Option.{IfSome_then}
use Rattle.hart_trace.proofs.PlainEvents.{irq_event}
use Rattle.hart_trace.proofs.plain_events.plain_interrupt.Goals as goal

pub returns : goal.returns
returns c = IfSome_then c.behind_irq.result c.behind_irq.ensures (λ behind is. irq_event c.args.text.now behind.now is)
