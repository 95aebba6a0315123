use Rattle.std.proofs.Common.{◌∙◌, ◌+◌, ◌*◌, ◌++◌, ap, arith, take}
use Rattle.byteorder.specs.Endian.{little_bytes}
use Rattle.trap_server.specs.Answers.{kind_number}
use Rattle.trap_server.proofs.Appended.{word_more}
use Rattle.trap_server.proofs.answer.put_change.Goals as goal

pub returns-clause-bytes : goal.returns-clause-bytes
returns-clause-bytes c =
    let from = c.args.from in
    let change = c.args.change.now in
    let start = take (8 * from) c.args.frame.now in
    let kind = little_bytes 8 (kind_number change.kind) in
    let whose = little_bytes 8 change.enclave in
    let one = little_bytes 8 change.first in
    let two = little_bytes 8 change.second in
    let a = c.put_word.ensures.front ∙ ap (λ n. start ++ little_bytes 8 n) c.kind_number.ensures in
    let b = word_more c.put_word.new.bytes c.put_word-2.new.bytes start kind whose (8 * from + 8) (from + 1) (8 * from + 16) (omega arith) (omega arith) a
    c.put_word-2.ensures.front in
    let d = word_more c.put_word-2.new.bytes c.put_word-3.new.bytes start (kind ++ whose) one (8 * from + 16) (from + 2) (8 * from + 24) (omega arith)
    (omega arith) b c.put_word-3.ensures.front in
    word_more c.put_word-3.new.bytes c.put_word-4.new.bytes start ((kind ++ whose) ++ one) two (8 * from + 24) (from + 3) (8 * from + 32) (omega arith)
    (omega arith) d c.put_word-4.ensures.front

pub returns-clause-words : goal.returns-clause-words
returns-clause-words c = (c.put_word-3.ensures.fits, c.put_word-4.ensures.fits)
