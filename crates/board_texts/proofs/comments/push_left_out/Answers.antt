use Rattle.std.proofs.Common.{◌∙◌, ◌++◌, ap, ℕ, List}
use Rattle.board_texts.proofs.Parts.{three}
use Rattle.board_texts.proofs.comments.push_left_out.Goals as goal

pub returns : goal.returns
returns c = three _ _ _ _ _ _ _ c.in_ok-push.ensures c.in_ok-push_range.ensures
    (c.in_ok-push-2.ensures ∙ ap (λ (t : List ℕ). c.push_range.new.text.items ++ t) c.left_reason.ensures)
