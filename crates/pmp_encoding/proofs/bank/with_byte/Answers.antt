-- The byte is shifted past all that the word has.
use Rattle.std.proofs.Common.{◌≡◌, ℕ, ◌+◌, ◌*◌, ◌%◌, ◌^◌, ◌<◌, ◌≤◌, ap, ◌∙◌, arith}
use Rattle.pmp_encoding.specs.Registers.{byte_of}
use Rattle.pmp_encoding.proofs.Bytes.{pow_rises, put_shifted, put_small, put_here, put_others}
use Rattle.pmp_encoding.proofs.bank.with_byte.Goals as goal

sum : (word j byte shifted : ℕ) → j < 8 → word < 2 ^ (8 * j) → byte < 256 → shifted ≡ byte → word + shifted * 2 ^ (8 * j) % 2 ^ 64 ≡ word + byte * 2 ^ (8 * j)
sum word j byte shifted place above fits is =
    ap (λ b. word + b * 2 ^ (8 * j) % 2 ^ 64) is ∙ ap (λ n. word + n) (put_shifted word j byte place above fits)

pub overflow_add-result : goal.overflow_add-result
overflow_add-result c =
    let fits : c.args.byte < 256 = omega arith in
    let is = sum c.args.word c.args.j c.args.byte c.from.result c.requires.place c.requires.above fits c.from.ensures in
    let small = put_small c.args.word c.args.j c.args.byte c.requires.place c.requires.above fits in
    let most : 2 ^ (8 * (c.args.j + 1)) ≤ 2 ^ 64 = pow_rises (8 * (c.args.j + 1)) 64 (omega arith) in
    record { fits = omega (arith, is, small, most) }

pub returns-clause-here : goal.returns-clause-here
returns-clause-here c =
    let fits : c.args.byte < 256 = omega arith in
    ap (λ n. byte_of n c.args.j) (sum c.args.word c.args.j c.args.byte c.from.result c.requires.place c.requires.above fits c.from.ensures)
    ∙ put_here c.args.word c.args.j c.args.byte c.requires.place c.requires.above fits

pub returns-clause-others : goal.returns-clause-others
returns-clause-others c = λ k apart.
    let fits : c.args.byte < 256 = omega arith in
    ap (λ n. byte_of n k) (sum c.args.word c.args.j c.args.byte c.from.result c.requires.place c.requires.above fits c.from.ensures)
    ∙ put_others c.args.word c.args.j c.args.byte c.requires.place c.requires.above fits k apart

pub returns-clause-small : goal.returns-clause-small
returns-clause-small c =
    let fits : c.args.byte < 256 = omega arith in
    let is = sum c.args.word c.args.j c.args.byte c.from.result c.requires.place c.requires.above fits c.from.ensures in
    omega (arith, is, put_small c.args.word c.args.j c.args.byte c.requires.place c.requires.above fits)
