-- An extent that begins before the end of eight bytes has some where it ends after their first.
use Rattle.register_audit.proofs.Cut.{met_by}
use Rattle.register_audit.proofs.cut_access.has_some.Goals as goal

pub returns-then-extent-at : goal.returns-then-extent-at
returns-then-extent-at c = met_by c.args.extent.now c.args.at c.requires.words c.if-extent-at.true
