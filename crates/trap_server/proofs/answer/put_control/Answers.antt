use Rattle.std.proofs.Common.{◌+◌, ◌*◌, ◌++◌, arith, take}
use Rattle.byteorder.specs.Endian.{little_bytes}
use Rattle.trap_server.proofs.Appended.{word_more}
use Rattle.trap_server.proofs.answer.put_control.Goals as goal

pub returns-clause-bytes : goal.returns-clause-bytes
returns-clause-bytes c =
    let from = c.args.from in
    let words = c.args.control.now in
    let start = take (8 * from) c.args.frame.now in
    let w0 = little_bytes 8 words.status in
    let w1 = little_bytes 8 words.satp in
    let w2 = little_bytes 8 words.mie in
    let w3 = little_bytes 8 words.scounteren in
    let w4 = little_bytes 8 words.senvcfg in
    let w5 = little_bytes 8 words.hstatus in
    let w6 = little_bytes 8 words.medeleg in
    let w7 = little_bytes 8 words.mideleg in
    let w8 = little_bytes 8 words.mode in
    let p1 = w0 ++ w1 in
    let p2 = p1 ++ w2 in
    let p3 = p2 ++ w3 in
    let p4 = p3 ++ w4 in
    let p5 = p4 ++ w5 in
    let p6 = p5 ++ w6 in
    let p7 = p6 ++ w7 in
    let to-1 = word_more c.put_word.new.bytes c.put_word-2.new.bytes start w0 w1 (8 * from + 8) (from + 1) (8 * from + 16) (omega arith)
    (omega arith) c.put_word.ensures.front c.put_word-2.ensures.front in
    let to-2 = word_more c.put_word-2.new.bytes c.put_word-3.new.bytes start p1 w2 (8 * from + 16) (from + 2) (8 * from + 24) (omega arith)
    (omega arith) to-1 c.put_word-3.ensures.front in
    let to-3 = word_more c.put_word-3.new.bytes c.put_word-4.new.bytes start p2 w3 (8 * from + 24) (from + 3) (8 * from + 32) (omega arith)
    (omega arith) to-2 c.put_word-4.ensures.front in
    let to-4 = word_more c.put_word-4.new.bytes c.put_word-5.new.bytes start p3 w4 (8 * from + 32) (from + 4) (8 * from + 40) (omega arith)
    (omega arith) to-3 c.put_word-5.ensures.front in
    let to-5 = word_more c.put_word-5.new.bytes c.put_word-6.new.bytes start p4 w5 (8 * from + 40) (from + 5) (8 * from + 48) (omega arith)
    (omega arith) to-4 c.put_word-6.ensures.front in
    let to-6 = word_more c.put_word-6.new.bytes c.put_word-7.new.bytes start p5 w6 (8 * from + 48) (from + 6) (8 * from + 56) (omega arith)
    (omega arith) to-5 c.put_word-7.ensures.front in
    let to-7 = word_more c.put_word-7.new.bytes c.put_word-8.new.bytes start p6 w7 (8 * from + 56) (from + 7) (8 * from + 64) (omega arith)
    (omega arith) to-6 c.put_word-8.ensures.front in
    word_more c.put_word-8.new.bytes c.put_word-9.new.bytes start p7 w8 (8 * from + 64) (from + 8) (8 * from + 72) (omega arith)
    (omega arith) to-7 c.put_word-9.ensures.front

pub returns-clause-fits : goal.returns-clause-fits
returns-clause-fits c = record {
  status = c.put_word.ensures.fits;
  satp = c.put_word-2.ensures.fits;
  mie = c.put_word-3.ensures.fits;
  scounteren = c.put_word-4.ensures.fits;
  senvcfg = c.put_word-5.ensures.fits;
  hstatus = c.put_word-6.ensures.fits;
  medeleg = c.put_word-7.ensures.fits;
  mideleg = c.put_word-8.ensures.fits;
  mode = c.put_word-9.ensures.fits;
}
