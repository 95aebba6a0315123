use Rattle.std.proofs.Common.{◌∙◌, ◌++◌, ap}
use Rattle.trap_server.specs.Answers.{changes_bytes}
use Rattle.trap_server.proofs.answer.put_front.Goals as goal

pub returns-clause-bytes : goal.returns-clause-bytes
returns-clause-bytes c = c.put_changes.ensures.bytes ∙ ap (λ xs. xs ++ changes_bytes c.args.changes.now) c.put_head.ensures

pub returns-clause-first : goal.returns-clause-first
returns-clause-first c = c.put_changes.ensures.first

pub returns-clause-second : goal.returns-clause-second
returns-clause-second c = c.put_changes.ensures.second

pub returns-clause-third : goal.returns-clause-third
returns-clause-third c = c.put_changes.ensures.third
