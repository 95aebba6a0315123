use Rattle.std.proofs.Common.{◌∙◌, ap, option_map}
use Rattle.clap.specs.Words.{found_of}
use Rattle.clap.proofs.WalkLemmas.{raw_values-rows}
use Rattle.command_line.proofs.Seconds.{of_item, of_none, of_texts}
use Rattle.command_line.proofs.found.second_in.Goals as goal

pub returns-in_default : goal.returns-in_default
returns-in_default c = of_none _ (c.in_default.ensures ∙ raw_values-rows (found_of c.args.given.now) c.args.name.now)

pub returns : goal.returns
returns c =
    let all = c.in-Some.ensures ∙ raw_values-rows (found_of c.args.given.now) c.args.name.now in
    ap (λ it. option_map (λ s. s.now) it) (c.copied.ensures ∙ of_item c.in-Some.values.now _ c.get.ensures.lookup) ∙ of_texts c.in-Some.values.now _ all
