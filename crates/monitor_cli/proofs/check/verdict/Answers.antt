use Rattle.std.proofs.Common.{◌∙◌, refl, subst}
use Rattle.certificate_check.specs.Certificates.{IsJudged, IsRightWith, RefusalStands}
use Rattle.certificate_check.proofs.OneFault.{refusal_once, right_stands}
use Rattle.monitor_cli.specs.Verdicts.{no}
use Rattle.monitor_cli.proofs.Judgements.{line_of_right, yes_with}
use Rattle.monitor_cli.proofs.check.verdict.Goals as goal

pub returns-in-Ok-clause-yes : goal.returns-in-Ok-clause-yes
returns-in-Ok-clause-yes c = λ view bytes judged n right.
    let read : IsRightWith view bytes c.in-Ok.header = subst (IsJudged view bytes) c.in-Ok.is judged in
    (c.yes_line.ensures ∙ line_of_right view bytes c.in-Ok.header n read right, refl)

pub returns-in-Ok-clause-no : goal.returns-in-Ok-clause-no
returns-in-Ok-clause-no c = λ view bytes judged refusal stands.
    let read : IsRightWith view bytes c.in-Ok.header = subst (IsJudged view bytes) c.in-Ok.is judged in
    absurd (right_stands view bytes _ refusal read.right stands)

pub returns-in-Ok-clause-verdict : goal.returns-in-Ok-clause-verdict
returns-in-Ok-clause-verdict c = λ view bytes judged.
    let read : IsRightWith view bytes c.in-Ok.header = subst (IsJudged view bytes) c.in-Ok.is judged in
    yes_with view bytes _ c.in-Ok.header c.yes_line.ensures read

pub returns-in-Err-clause-yes : goal.returns-in-Err-clause-yes
returns-in-Err-clause-yes c = λ view bytes judged n right.
    let fault : RefusalStands view bytes c.in-Err.refusal = subst (IsJudged view bytes) c.in-Err.is judged in
    absurd (right_stands view bytes n _ right fault)

pub returns-in-Err-clause-no : goal.returns-in-Err-clause-no
returns-in-Err-clause-no c = λ view bytes judged refusal stands.
    let fault : RefusalStands view bytes c.in-Err.refusal = subst (IsJudged view bytes) c.in-Err.is judged in
    (rw (refusal_once view bytes refusal c.in-Err.refusal stands fault) c.no_line.ensures, refl)

pub returns-in-Err-clause-verdict : goal.returns-in-Err-clause-verdict
returns-in-Err-clause-verdict c = λ view bytes judged.
    let fault : RefusalStands view bytes c.in-Err.refusal = subst (IsJudged view bytes) c.in-Err.is judged in
    rw c.no_line.ensures (no c.in-Err.refusal (λ n right. right_stands view bytes n _ right fault) fault)
