use Rattle.std.proofs.Common.{◌≡◌, ◌∙◌, ◌+◌, ◌-◌, ◌*◌, ◌++◌, take, length, replicate, ap, sym, append_assoc, arith}
use Rattle.byteorder.specs.Endian.{little_bytes}
use Rattle.trap_server.specs.Answers.{listed_address, address_bytes}
use Rattle.trap_server.proofs.Appended.{word_more}
use Rattle.trap_server.proofs.Lengths.{address_step}
use Rattle.trap_server.proofs.Past.{address_past}
use Rattle.trap_server.proofs.answer.put_addresses.Goals as goal

pub loop-i-preserved : goal.loop-i-preserved
loop-i-preserved c =
    let entries = c.args.entries.now in
    let from = c.args.from in
    let i = c.loop-i.i in
    word_more c.loop-i.frame c.put_word.new.bytes (take (8 * from) c.args.frame.now) (address_bytes entries i) (little_bytes 8 (listed_address entries i))
    (8 * from + 8 * i) (from + i) (8 * from + 8 * (i + 1)) (omega arith) (omega arith) c.loop-i.invariant
    (c.put_word.ensures.front ∙ ap (λ w. take (8 * (from + i)) c.loop-i.frame ++ little_bytes 8 w) c.listed_address.ensures)
    ∙ ap (λ xs. take (8 * from) c.args.frame.now ++ xs) (address_step entries i)

pub returns : goal.returns
returns c =
    let entries = c.args.entries.now in
    let from = c.args.from in
    let start = take (8 * from) c.args.frame.now in
    let n = length entries in
    let last : c.loop-i.i ≡ n = omega (arith, c.loop-i-test.false, c.loop-i.auto.i-end) in
    let rest : (8 * from + 512) - (8 * from + 8 * n) ≡ 8 * (64 - n) = omega (arith, c.requires.few) in
    let all : n + (64 - n) ≡ 64 = omega (arith, c.requires.few) in
    c.clear.ensures ∙ ap (λ k. take (8 * from + 8 * k) c.loop-i.frame ++ replicate ((8 * from + 512) - (8 * from + 8 * n)) 0) (sym last)
    ∙ ap (λ xs. xs ++ replicate ((8 * from + 512) - (8 * from + 8 * n)) 0) c.loop-i.invariant
    ∙ ap (λ k. (start ++ address_bytes entries c.loop-i.i) ++ replicate k 0) rest
    ∙ ap (λ k. (start ++ address_bytes entries k) ++ replicate (8 * (64 - n)) 0) last
    ∙ append_assoc start (address_bytes entries n) (replicate (8 * (64 - n)) 0)
    ∙ ap (λ xs. start ++ xs) (sym (address_past entries (64 - n)) ∙ ap (address_bytes entries) all)
