-- Every line is judged and explained alike, so no state is left.
use Rattle.std.proofs.Common.{◌≡◌, ◌∙◌, ℕ, ◌+◌, ◌++◌, Bool, true, false, List, Some, ap, decimal}
use Rattle.text_lines.specs.LineLoop.{Meaning, text_of}
use Rattle.text_lines.proofs.Mapped.{Follows}
use Rattle.hart_trace.specs.Answers.{Outcomes, answered_by}
use Rattle.trace_answers.specs.declared.explaining_judges.ExplainingJudge.{ExplainingJudge}
use Rattle.trace_answers.specs.Explained.{explained, explaining}

-- by one judge
abbrev pub Keeps : {J D : Type 0} → J → ExplainingJudge J D → Type 0
Keeps by lines = lines.by.now ≡ by

abbrev pub explains : {J D : Type 0} → (J → Outcomes) → Meaning (ExplainingJudge J D)
explains outcomes = λ old n line said new. explaining (answered_by (outcomes old.by.now)) tt n line said tt × (new ≡ old)

abbrev pub stateless : {J D : Type 0} → ExplainingJudge J D → Unit {0}
stateless lines = tt

pub follows :
    {J D : Type 0} (outcomes : J → Outcomes) (by : J)
    → Follows (Keeps by) (stateless {J = J} {D = D}) (explains outcomes) (explaining (answered_by (outcomes by)))
follows {J} {D} outcomes by s n line said t h d = (ap (λ (j : ExplainingJudge J D). j.by.now) d.1 ∙ h, rw h at d.0)

-- an answer with a comment after it
pub explained_where :
    {S : Type 0} (does : Meaning S) (s new_s : S) (n : ℕ) (line : List ℕ) (answered : Bool) (old new comment : List ℕ) → answered ≡ true
    → does s n line (text_of answered n old) new_s → decimal (n + 1) ++ new ≡ explained (decimal (n + 1) ++ old) comment
    → explaining does s n line (text_of answered n new) new_s
explained_where does s new_s n line false old new comment e done is = cc
explained_where does s new_s n line true old new comment e done is = (Some (decimal (n + 1) ++ old), done, (comment, ap (λ t. Some t) is))
