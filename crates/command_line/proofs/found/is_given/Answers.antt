use Rattle.std.proofs.Common.{◌∙◌}
use Rattle.clap.specs.Words.{found_of}
use Rattle.clap.proofs.WalkLemmas.{one_text-rows}
use Rattle.command_line.specs.Given.{flags_of}
use Rattle.command_line.proofs.Given.{read}
use Rattle.command_line.proofs.found.is_given.Goals as goal

pub returns : goal.returns
unfolding flags_of
returns c =
    let rows = one_text-rows (found_of c.args.given.now) c.args.name.now in
    rw c.unwrap_or.ensures (read _ _ _ (λ e. c.get_one-flag.ensures.none (rows ∙ e)) (λ t e. c.get_one-flag.ensures.value t (rows ∙ e)))
