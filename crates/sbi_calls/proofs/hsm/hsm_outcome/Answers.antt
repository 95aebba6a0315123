use Rattle.std.proofs.Common.{◌∙◌, ap}
use Rattle.sbi_calls.specs.Hsm.{start_outcome}
use Rattle.sbi_calls.proofs.StartLemmas.{one_answer}
use Rattle.sbi_calls.proofs.Starts.{start_is}
use Rattle.sbi_calls.proofs.hsm.hsm_outcome.Goals as goal

pub returns-in-0-clause-start : goal.returns-in-0-clause-start
returns-in-0-clause-start c = λ executable known.
    let same = one_answer c.args.bank.now c.args.call.now.a1 c.is_executable.result executable c.is_executable.ensures known in
    c.start_outcome.ensures.value ∙ ap (λ e. start_outcome c.args.call.now c.args.harts.now e) same
    ∙ start_is c.args.call.now c.args.harts.now executable c.in-0.is
