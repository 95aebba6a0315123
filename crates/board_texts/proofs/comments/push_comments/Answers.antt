use Rattle.std.proofs.Common.{refl}
use Rattle.device_tree.specs.Meaning.{said_of}
use Rattle.board_texts.specs.Comments.{comment_text, comments_on}
use Rattle.board_texts.specs.Pages.{range_of}
use Rattle.board_texts.proofs.PagesMet.{inside, own}
use Rattle.board_texts.proofs.Parts.{next_part}
use Rattle.board_texts.proofs.comments.push_comments.Goals as goal

pub push_comment_by-requires : goal.push_comment_by-requires
push_comment_by-requires c = own c.args.found.now c.args.pages.now c.loop-i.i _ _ c.requires c.loop-i-test.true

pub loop-i-preserved : goal.loop-i-preserved
loop-i-preserved c = next_part (λ found. comments_on c.args.run.now (said_of found)) (λ one. comment_text c.args.run.now (range_of one))
    (λ x xs. refl) _ _ _ c.args.found.now c.loop-i.i _ (inside c.args.found.now c.args.pages.now c.loop-i.i c.requires c.loop-i-test.true)
    c.loop-i.invariant c.in_ok-push_comment_by.ensures
