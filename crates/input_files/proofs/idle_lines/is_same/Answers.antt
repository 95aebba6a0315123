use Rattle.std.proofs.Common.{rules, ◌∙◌, sym, true≢false}
use Rattle.std.proofs.lemmas.Slice.Eq.{slice_eq-Decides}
use Rattle.input_files.proofs.idle_lines.is_same.Goals as goal

pub returns-clause-same : goal.returns-clause-same
returns-clause-same c = λ e. sym c.ranges-2.ensures.value ∙ ((slice_eq-Decides (λ a b. (search rules, search rules)) _ _ _ c.eq.ensures).0 e
    ∙ c.ranges-3.ensures.value)

pub returns-clause-different : goal.returns-clause-different
returns-clause-different c = λ e same. true≢false (sym ((slice_eq-Decides (λ a b. (search rules, search rules)) _ _ _ c.eq.ensures).1
    (c.ranges-2.ensures.value ∙ (same ∙ sym c.ranges-3.ensures.value))) ∙ e)
