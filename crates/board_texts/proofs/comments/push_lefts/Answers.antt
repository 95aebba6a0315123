use Rattle.std.proofs.Common.{refl}
use Rattle.device_tree.specs.Meaning.{said_of}
use Rattle.board_texts.specs.Comments.{left_text, lefts_text}
use Rattle.board_texts.specs.Pages.{range_of}
use Rattle.board_texts.proofs.Parts.{next_part}
use Rattle.board_texts.proofs.comments.push_lefts.Goals as goal

pub loop-one-preserved : goal.loop-one-preserved
loop-one-preserved c = next_part (λ found. lefts_text c.args.runs.now (said_of found)) (λ one. left_text c.args.runs.now (range_of one)) (λ x xs. refl) _ _ _
    c.args.found.now c.loop-one.one-index _ c.loop-one-test.true c.loop-one.invariant c.in_ok-push_left.ensures
