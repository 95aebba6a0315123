use Rattle.std.proofs.Common.{◌≡◌, ◌∙◌, ◌↔◌, ◌-◌, ◌%◌, ◌^◌, ◌<◌, true, sym, subst, arith}
use Rattle.pmp_encoding.specs.Lists.{MeansList}
use Rattle.pmp_encoding.specs.Registers.{pairs_from}
use Rattle.sbi_calls.proofs.StartLemmas.{first_permitted, judged_by_list, one_more}
use Rattle.sbi_calls.specs.StartAddresses.{FirstAllow, ListsAnswer}
use Rattle.sbi_calls.proofs.start_address.is_executable.Goals as goal

pub loop-after-preserved : goal.loop-after-preserved
loop-after-preserved c =
    let bank = c.args.bank.now in
    let after = c.loop-after.after in
    let answer = c.answer_from-answer.result in
    let inside : after < 64 = omega (arith, c.loop-after-test.true) in
    let pairs = pairs_from bank.cfg bank.addr (64 - after) after in
    record {
      list = one_more bank after (λ all. ListsAnswer all c.args.address answer) inside
          (c.answer_from-answer.ensures.list pairs c.loop-after.invariant.list);
      first = one_more bank after (λ all. (answer ≡ true) ↔ FirstAllow all c.args.address) inside
          (c.answer_from-answer.ensures.first pairs c.loop-after.invariant.first);
    }

pub returns : goal.returns
returns c =
    let bank = c.args.bank.now in
    let over : c.loop-after.after ≡ 64 = omega (arith, c.loop-after-test.false, c.loop-after.auto.after-end) in
    let even : c.args.address % 2 ≡ 0 = omega (arith, c.if-address-ne0.false) in
    let inside : c.args.address < 2 ^ 56 = omega (arith, c.if-address-ge-SPACE.false) in
    record {
      list = λ entries known.
          let list = subst (λ n. MeansList (pairs_from bank.cfg bank.addr (64 - n) n) entries) (sym over) known in
          c.loop-after.invariant.list entries list ∙ sym (judged_by_list entries c.args.address even inside);
      first = first_permitted (pairs_from bank.cfg bank.addr 0 64) c.args.address c.loop-after.answer even inside
          (subst (λ n. (c.loop-after.answer ≡ true) ↔ FirstAllow (pairs_from bank.cfg bank.addr (64 - n) n) c.args.address) over
          c.loop-after.invariant.first);
    }
