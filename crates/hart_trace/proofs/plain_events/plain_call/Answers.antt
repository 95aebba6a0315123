use Rattle.std.proofs.lemmas.Option.{IfSome_then}
use Rattle.hart_trace.specs.declared.event.Event.TheVariants as events
use Rattle.hart_trace.proofs.PlainEvents.{call_event}
use Rattle.hart_trace.proofs.plain_events.plain_call.Goals as goal

pub returns : goal.returns
returns c = IfSome_then c.plain_words.result c.plain_words.ensures (λ behind call. call_event c.args.text.now c.in_ok-rest.rest.now behind.now
    (events.Ecall c.plain_words.new.words) c.in_ok-rest.ensures call)
