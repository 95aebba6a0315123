use Rattle.std.proofs.Common.{take}
use Rattle.hart_trace.specs.declared.event.Event.TheVariants as events
use Rattle.hart_sim.proofs.AnsweredLines.{comes, known}
use Rattle.hart_sim.proofs.trace_run.MachineInterpreter.interpret_ahead.Goals as goal

pub answer-requires-clause-hart : goal.answer-requires-clause-hart
answer-requires-clause-hart c =
    (known c.args.self.now c.harts-harts.result c.in-Some.hart (take c.in-Some.len c.args.ahead.now)
    (events.Access c.in-Some.access c.in-Some.value) c.harts-harts.ensures.value c.harts-harts.ensures.some c.in-Some.ensures.access).0

pub answer-requires-clause-event : goal.answer-requires-clause-event
answer-requires-clause-event c =
    (known c.args.self.now c.harts-harts.result c.in-Some.hart (take c.in-Some.len c.args.ahead.now)
    (events.Access c.in-Some.access c.in-Some.value) c.harts-harts.ensures.value c.harts-harts.ensures.some c.in-Some.ensures.access).1

pub returns-in-Some-clause-comes : goal.returns-in-Some-clause-comes
returns-in-Some-clause-comes c = λ k.
    let line = take c.in-Some.len c.args.ahead.now in
    comes c.args.self.now _ c.harts-harts.result c.in-Some.hart c.args.count line _
    (events.Access c.in-Some.access c.in-Some.value) c.answer.result c.harts-harts.ensures.value c.in-Some.ensures.access c.answer.ensures.answered
    (c.answer.ensures.done k) c.answer.ensures.refusal (c.answer.ensures.starved k)

pub answer-requires-in-Some-setting_ahead-clause-hart : goal.answer-requires-in-Some-setting_ahead-clause-hart
answer-requires-in-Some-setting_ahead-clause-hart c =
    (known c.args.self.now c.harts-harts.result c.in-Some-setting_ahead.hart (take c.in-Some-setting_ahead.len c.args.ahead.now)
    (events.Reg c.in-Some-setting_ahead.register c.in-Some-setting_ahead.value) c.harts-harts.ensures.value c.harts-harts.ensures.some
    c.in-Some-setting_ahead.ensures.setting).0

pub answer-requires-in-Some-setting_ahead-clause-event : goal.answer-requires-in-Some-setting_ahead-clause-event
answer-requires-in-Some-setting_ahead-clause-event c =
    (known c.args.self.now c.harts-harts.result c.in-Some-setting_ahead.hart (take c.in-Some-setting_ahead.len c.args.ahead.now)
    (events.Reg c.in-Some-setting_ahead.register c.in-Some-setting_ahead.value) c.harts-harts.ensures.value c.harts-harts.ensures.some
    c.in-Some-setting_ahead.ensures.setting).1

pub returns-in-Some-setting_ahead-clause-comes : goal.returns-in-Some-setting_ahead-clause-comes
returns-in-Some-setting_ahead-clause-comes c = λ k.
    let line = take c.in-Some-setting_ahead.len c.args.ahead.now in
    comes c.args.self.now _ c.harts-harts.result c.in-Some-setting_ahead.hart c.args.count line _
    (events.Reg c.in-Some-setting_ahead.register c.in-Some-setting_ahead.value) c.answer-in-Some-setting_ahead.result c.harts-harts.ensures.value
    c.in-Some-setting_ahead.ensures.setting c.answer-in-Some-setting_ahead.ensures.answered
    (c.answer-in-Some-setting_ahead.ensures.done k) c.answer-in-Some-setting_ahead.ensures.refusal (c.answer-in-Some-setting_ahead.ensures.starved k)

pub answer_call-requires-clause-hart : goal.answer_call-requires-clause-hart
answer_call-requires-clause-hart c =
    (known c.args.self.now c.harts-harts.result c.in-Some-call_ahead.hart (take c.in-Some-call_ahead.len c.args.ahead.now)
    (events.Ecall c.call_ahead.new.words) c.harts-harts.ensures.value c.harts-harts.ensures.some c.in-Some-call_ahead.ensures.call).0

pub returns-in-Some-call_ahead-clause-comes : goal.returns-in-Some-call_ahead-clause-comes
returns-in-Some-call_ahead-clause-comes c = λ k.
    let line = take c.in-Some-call_ahead.len c.args.ahead.now in
    comes c.args.self.now _ c.harts-harts.result c.in-Some-call_ahead.hart c.args.count line _
    (events.Ecall c.call_ahead.new.words) c.answer_call.result c.harts-harts.ensures.value c.in-Some-call_ahead.ensures.call c.answer_call.ensures.answered
    (c.answer_call.ensures.done k) c.answer_call.ensures.refusal (c.answer_call.ensures.starved k)

pub answer-requires-2-clause-hart : goal.answer-requires-2-clause-hart
answer-requires-2-clause-hart c =
    (known c.args.self.now c.harts-harts.result c.in_ok-hart.hart (take c.in_ok-hart.len c.args.ahead.now)
    (events.Irq) c.harts-harts.ensures.value c.harts-harts.ensures.some c.in_ok-hart.ensures.interrupt).0

pub answer-requires-2-clause-event : goal.answer-requires-2-clause-event
answer-requires-2-clause-event c =
    (known c.args.self.now c.harts-harts.result c.in_ok-hart.hart (take c.in_ok-hart.len c.args.ahead.now)
    (events.Irq) c.harts-harts.ensures.value c.harts-harts.ensures.some c.in_ok-hart.ensures.interrupt).1

pub returns-clause-comes : goal.returns-clause-comes
returns-clause-comes c = λ k.
    let line = take c.in_ok-hart.len c.args.ahead.now in
    comes c.args.self.now _ c.harts-harts.result c.in_ok-hart.hart c.args.count line _
    (events.Irq) c.answer-2.result c.harts-harts.ensures.value c.in_ok-hart.ensures.interrupt c.answer-2.ensures.answered
    (c.answer-2.ensures.done k) c.answer-2.ensures.refusal (c.answer-2.ensures.starved k)
