-- What is computed is the judgement by any list of the bank, and the bank has one.
use Rattle.pmp_match.proofs.Judged.{Judges-from_computed}
use Rattle.pmp_encoding.proofs.Meant.{bank_some}
use Rattle.pmp_match.proofs.judgement.judge.Goals as goal

pub returns-clause-by_its_list : goal.returns-clause-by_its_list
returns-clause-by_its_list c =
    let list = bank_some c.args.bank.now in (
      list.0,
      list.1,
      Judges-from_computed list.0 c.args.access.now c.judged.result (c.judged.ensures list.0 list.1),
    )

pub returns-clause-by_no_other : goal.returns-clause-by_no_other
returns-clause-by_no_other c = λ entries list. Judges-from_computed entries c.args.access.now c.judged.result (c.judged.ensures entries list)
