use Rattle.std.proofs.Common.{◌∙◌, [], ap, sym}
use Rattle.std.proofs.lemmas.Result.{err_from_is_err_and}
use Rattle.pmp_match.specs.declared.access.Kind.{Kind}
use Rattle.text_lines.specs.Columns.{placed_at, words_in}
use Rattle.hart_trace.specs.declared.fault.EventKind.{EventKind}
use Rattle.hart_trace.proofs.EventWords.{exceeds, look_more, look_read, no_look}
use Rattle.hart_trace.proofs.event_words.load_in.Goals as goal

pub returns-in_err-access-clause-value : goal.returns-in_err-access-clause-value
returns-in_err-access-clause-value c =
    let p = err_from_is_err_and c.from_residual.result c.from_residual.ensures.1 in
    rw p.1 (sym (no_look Kind.Load (words_in (placed_at c.args.text.now c.args.at)) c.in_err-access.ensures.fault.says))

pub returns-in_err-access-clause-fault : goal.returns-in_err-access-clause-fault
returns-in_err-access-clause-fault c =
    let p = err_from_is_err_and c.from_residual.result c.from_residual.ensures.1 in
    rw (p.1, p.2) (c.in_err-access.ensures.fault.wrong [])

pub returns-in_err-end_in-clause-value : goal.returns-in_err-end_in-clause-value
returns-in_err-end_in-clause-value c =
    let p = err_from_is_err_and c.from_residual-in_err-end_in.result c.from_residual-in_err-end_in.ensures.1 in
    let more = c.in_err-end_in.ensures.fault in
    rw p.1 (sym (look_more Kind.Load (words_in (placed_at c.args.text.now c.args.at)) _ _ _ _ c.in_ok-access.ensures.read.says (ap words_in more.2)))

pub returns-in_err-end_in-clause-fault : goal.returns-in_err-end_in-clause-fault
returns-in_err-end_in-clause-fault c =
    let p = err_from_is_err_and c.from_residual-in_err-end_in.result c.from_residual-in_err-end_in.ensures.1 in
    rw (p.1, p.2) (c.in_ok-access.ensures.read.right [] ∙ exceeds EventKind.Load c.args.text.now c.in_ok-access.end _ c.in_err-end_in.ensures.fault)

pub returns-clause-value : goal.returns-clause-value
returns-clause-value c = sym (look_read Kind.Load (words_in (placed_at c.args.text.now c.args.at)) _ _ c.in_ok-access.ensures.read.says
    (ap words_in c.in_ok-end_in.ensures.end))
