use Rattle.std.proofs.Common.{◌∙◌, sym}
use Rattle.hart_trace.proofs.ForJudge.{meaning_is}
use Rattle.hart_trace.proofs.trace.said_in.Goals as goal

pub returns-clause-value : goal.returns-clause-value
returns-clause-value c =
    c.said_by.ensures.value
    ∙ meaning_is c.args.harts c.args.line.now c.content_of-content.result.now c.content_of-content.ensures
    (sym c.are_allowed.ensures ∙ c.if-not-are_allowed.false)
