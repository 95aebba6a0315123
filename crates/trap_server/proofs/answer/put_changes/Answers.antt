use Rattle.std.proofs.Common.{◌++◌, take}
use Rattle.trap_server.specs.Answers.{change_bytes}
use Rattle.trap_server.proofs.Appended.{two_parts}
use Rattle.trap_server.proofs.answer.put_changes.Goals as goal

pub returns-clause-bytes : goal.returns-clause-bytes
returns-clause-bytes c =
    let changes = c.args.changes.now in
    let second = change_bytes changes.second in
    let third = change_bytes changes.third in
    let one = take 120 c.put_change.new.frame in
    let two = take 152 c.put_change-2.new.frame in
    let all = take 184 c.put_change-3.new.frame in
    two_parts (take 88 c.args.frame.now) one all (change_bytes changes.first) (second ++ third) c.put_change.ensures.bytes
    (two_parts one two all second third c.put_change-2.ensures.bytes c.put_change-3.ensures.bytes)

pub returns-clause-first : goal.returns-clause-first
returns-clause-first c = c.put_change.ensures.words

pub returns-clause-second : goal.returns-clause-second
returns-clause-second c = c.put_change-2.ensures.words

pub returns-clause-third : goal.returns-clause-third
returns-clause-third c = c.put_change-3.ensures.words
