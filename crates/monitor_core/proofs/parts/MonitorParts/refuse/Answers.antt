use Rattle.std.proofs.Common.{◌∙◌, refl, ap}
use Rattle.monitor_core.specs.Changes.{answering}
use Rattle.monitor_core.specs.Parts.{state_in}
use Rattle.monitor_core.proofs.parts.MonitorParts.refuse.Goals as goal

pub returns-clause-step : goal.returns-clause-step
returns-clause-step c = λ sets.
    let s = state_in c.args.self.now sets in
    record {
      state = c.answer.ensures.state sets ∙ ap (λ word. answering s c.args.hart word 0) c.word_below_zero.ensures;
      told = c.refused.ensures;
      zeroes = refl;
    }
