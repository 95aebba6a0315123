use Rattle.std.proofs.Common.{◌∙◌, sym, subst}
use Rattle.pmp_encoding.specs.Banks.{HasList}
use Rattle.trace_answers.proofs.ListsMet.{reason_loaded, reason_woken}
use Rattle.trace_answers.proofs.asked.reason_on.Goals as goal

pub returns-then-marked : goal.returns-then-marked
returns-then-marked c =
    reason_woken c.args.machine.now c.args.hart c.args.access.now c.reason_of.result c.of-woken.result (sym c.marked.ensures ∙ c.if-marked.true)
    (rw c.table-table.ensures.kept at (subst (HasList c.of-woken.result) c.host_entries.ensures.value c.of-woken.ensures.list)) c.reason_of.ensures

pub returns : goal.returns
returns c = reason_loaded c.args.machine.now c.args.hart c.args.access.now c.reason_of-2.result c.bank.result.now
    (sym c.marked.ensures ∙ c.if-marked.false) c.bank.ensures.bank c.reason_of-2.ensures
