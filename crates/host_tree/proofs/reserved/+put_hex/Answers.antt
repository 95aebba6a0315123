use Rattle.std.proofs.Common.{ℕ, ◌-◌, ◌/◌, ◌%◌, List, [], ◌∷◌, ◌++◌, ap, sym, ◌∙◌, arith}
use Rattle.host_tree.specs.Ranges.{hex_digit, hex_text}
use Rattle.host_tree.proofs.Fronts.{two_joined}
use Rattle.host_tree.proofs.HexTexts.{high, low}
use Rattle.host_tree.proofs.reserved.+put_hex.Goals as goal

pub returns-then-value-lt16-clause-put : goal.returns-then-value-lt16-clause-put
returns-then-value-lt16-clause-put t c = c.in_ok-put_digit.ensures.put
    ∙ ap (λ (x : List ℕ). c.args.out.now.items ++ x) (sym (low c.args.most c.args.value (omega arith) (omega arith)))

pub returns-clause-put : goal.returns-clause-put
returns-clause-put t c = two_joined c.args.out.now.items _ _ (hex_text (c.args.most - 1) (c.args.value / 16)) (hex_digit (c.args.value % 16) ∷ [])
    c.in_ok-put_hex.ensures.put c.in_ok-put_digit-2.ensures.put
    ∙ ap (λ (x : List ℕ). c.args.out.now.items ++ x) (high c.args.most c.args.value (omega arith) (omega arith))
