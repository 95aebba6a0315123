use Rattle.std.proofs.Common.{inl, inr, refl}
use Rattle.monitor_core.proofs.parts.MonitorParts.measure.Goals as goal

pub returns-in-Ok-clause-step : goal.returns-in-Ok-clause-step
returns-in-Ok-clause-step c = λ sets. inl
    (c.in-Ok.word, c.in-Ok.ensures.value, record { state = c.answer.ensures.state sets; told = c.done.ensures; zeroes = refl })

pub returns-in-Err-clause-step : goal.returns-in-Err-clause-step
returns-in-Err-clause-step c = λ sets. inr (c.in-Err.refusal, c.in-Err.ensures.refused, c.refuse_for.ensures.step sets)
