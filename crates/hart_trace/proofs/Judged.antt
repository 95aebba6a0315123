-- Every line is judged alike, so that no state is left to tell of.
use Rattle.std.proofs.Common.{◌≡◌, ◌∙◌, ap}
use Rattle.std.specs.Prelude.{Result, Ok, Err, IfOk}
use Rattle.text_lines.specs.declared.fault.RunFault.{RunFault}
use Rattle.text_lines.specs.LineLoop.{Meaning}
use Rattle.text_lines.proofs.Mapped.{Follows}
use Rattle.hart_trace.specs.declared.judge.LineJudge.{LineJudge}
use Rattle.hart_trace.specs.Answers.{Outcomes, answered_by}

-- by one judge
abbrev pub Keeps : {J : Type 0} → J → LineJudge J → Type 0
Keeps by lines = lines.by.now ≡ by

abbrev pub judges : {J : Type 0} → (J → Outcomes) → Meaning (LineJudge J)
judges outcomes = λ old n line answer new. answered_by (outcomes old.by.now) tt n line answer tt × (new ≡ old)

abbrev pub stateless : {J : Type 0} → LineJudge J → Unit {0}
stateless lines = tt

pub follows : {J : Type 0} (outcomes : J → Outcomes) (by : J) → Follows (Keeps by) stateless (judges outcomes) (answered_by (outcomes by))
follows {J} outcomes by s n line said t h d = (ap (λ (j : LineJudge J). j.by.now) d.1 ∙ h, rw h at d.0)

pub if_ok : {A B : Type 0} (r : Result (Unit {0}) RunFault) → (A → B) → IfOk r (λ _. A) → IfOk r (λ _. B)
if_ok (Ok done) f a = f a
if_ok (Err fault) f a = a
