use Rattle.std.proofs.Common.{◌≡◌, ◌∙◌, ◌%◌, ◌-◌, ◌∷◌, ◌++◌, ℕ, List, ap, arith, drop, length, sym, take}
use Rattle.std.proofs.lemmas.Grind.{common_steps}
use Rattle.hart_trace.specs.Plain.{keyword}
use Rattle.hart_trace.proofs.plain.behind_keyword.Goals as goal

-- `&line[k..]` is read as `take (length line - k) (drop k line)`
rest_from : (k : ℕ) (line : List ℕ) → take (length line - k) (drop k line) ≡ drop k line
rest_from k line = grind (arith, common_steps)

pub returns : goal.returns
returns c =
    let said = c.keyword_of-said.result in
    let line = c.args.line.now in
    let len : said.len % 8 ≡ said.len = omega (arith, c.keyword_of-said.ensures.short) in
    let rest : drop said.len line ≡ take (length line - said.len % 8) (drop (said.len % 8) line) = ap (λ k. drop k line) (sym len)
    ∙ sym (rest_from (said.len % 8) line) in
    c.keyword_of-said.ensures.said line c.in_ok-first.first c.in_ok-first.ensures c.if-first-said.false ∙ ap (λ xs. keyword said.kind ++ 32 ∷ xs) rest
