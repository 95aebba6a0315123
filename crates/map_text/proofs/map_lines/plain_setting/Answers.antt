use Rattle.std.proofs.Common.{◌≡◌, ◌∙◌, ℕ, List, ◌∷◌, ◌++◌, ap}
use Rattle.map_text.proofs.PlainSettings.{marked, plain_says-if}
use Rattle.map_text.proofs.map_lines.plain_setting.Goals as goal

pub returns-clause-says : goal.returns-clause-says
returns-clause-says c =
    let low = c.in_ok-base.ensures.digits in
    let high = c.in_ok-size.ensures.digits in
    let word = c.in_ok-third.third.now in
    let second : c.in_ok-second.second.now ≡ marked high.digits ++ 32 ∷ word =
    c.in_ok-digits-2.ensures ∙ ap (λ (xs : List ℕ). 48 ∷ 120 ∷ xs) (high.parts ∙ ap (λ xs. high.digits ++ xs) c.in_ok-third.ensures) in
    let line : c.args.line.now ≡ marked low.digits ++ 32 ∷ (marked high.digits ++ 32 ∷ word) =
    c.in_ok-digits.ensures
    ∙ ap (λ (xs : List ℕ). 48 ∷ 120 ∷ xs) (low.parts ∙ ap (λ xs. low.digits ++ xs) (c.in_ok-second.ensures ∙ ap (λ (xs : List ℕ). 32 ∷ xs) second)) in
    rw line
    (plain_says-if low.digits high.digits word c.in_ok-base.base c.in_ok-size.size c.in_ok-first.first c.in_ok-count.count c.in_ok-perm.perm c.setting_on.result
    low.value_is high.value_is c.in_ok-first.ensures c.in_ok-count.ensures c.in_ok-perm.ensures.some c.in_ok-perm.ensures.value c.setting_on.ensures.value)
