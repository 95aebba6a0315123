-- An aligned access within a segment is judged by it, and the bank has a list.
use Rattle.std.proofs.Common.{◌∙◌, sym}
use Rattle.pmp_encoding.proofs.Meant.{bank_some}
use Rattle.pmp_match.proofs.Segmented.{judged_within}
use Rattle.pmp_match.proofs.segments.Segments.judge.Goals as goal

pub returns-then-is_aligned-clause-by_no_other : goal.returns-then-is_aligned-clause-by_no_other
returns-then-is_aligned-clause-by_no_other c =
    judged_within c.args.self.now.bank.now c.near-segment.result c.args.access.now c.judge.result c.near-segment.ensures (c.has.ensures c.if-has.true)
    (sym c.is_aligned.ensures ∙ c.if-is_aligned.true) c.judge.ensures

pub returns-then-is_aligned-clause-by_its_list : goal.returns-then-is_aligned-clause-by_its_list
returns-then-is_aligned-clause-by_its_list c =
    let list = bank_some c.args.self.now.bank.now in (list.0, list.1, returns-then-is_aligned-clause-by_no_other c list.0 list.1)
