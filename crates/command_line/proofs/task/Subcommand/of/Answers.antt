use Rattle.std.proofs.Common.{◌≢◌, ◌∙◌, All, [], ◌∷◌, arith, subst, sym, true≢false}
use Rattle.std.proofs.lemmas.List.{take_all}
use Rattle.std.proofs.lemmas.List.Elements.{All-more}
use Rattle.command_line.specs.declared.task.Subcommand.{Subcommand}
use Rattle.command_line.specs.declared.task.Subcommand.TheVariants as subcommands
use Rattle.command_line.specs.Subcommands.{subcommand_word}
use Rattle.command_line.proofs.task.Subcommand.of.Goals as goal

pub loop-subcommand-preserved : goal.loop-subcommand-preserved
loop-subcommand-preserved c =
    All-more (λ it. c.args.word.now ≢ subcommand_word it) _ _ _ c.loop-subcommand-test.true c.loop-subcommand.invariant (λ e.
    true≢false (sym (c.is_named.ensures.1 e) ∙ c.if-is_named.false)
    )

-- what holds of each in the list holds of each
each :
    (P : Subcommand → Type 0)
    → All P (subcommands.Run ∷ subcommands.Plan ∷ subcommands.Judge ∷ subcommands.Check ∷ subcommands.Show ∷ subcommands.Audit ∷ subcommands.Map
    ∷ subcommands.Lint ∷ subcommands.Measure ∷ subcommands.Platform ∷ [])
    → (subcommand : Subcommand) → P subcommand
each P all subcommands.Run = all 0 subcommands.Run (omega arith)
each P all subcommands.Plan = all 1 subcommands.Run (omega arith)
each P all subcommands.Judge = all 2 subcommands.Run (omega arith)
each P all subcommands.Check = all 3 subcommands.Run (omega arith)
each P all subcommands.Show = all 4 subcommands.Run (omega arith)
each P all subcommands.Audit = all 5 subcommands.Run (omega arith)
each P all subcommands.Map = all 6 subcommands.Run (omega arith)
each P all subcommands.Lint = all 7 subcommands.Run (omega arith)
each P all subcommands.Measure = all 8 subcommands.Run (omega arith)
each P all subcommands.Platform = all 9 subcommands.Run (omega arith)

pub returns-clause-none : goal.returns-clause-none
returns-clause-none c = λ none subcommand.
    each (λ it. c.args.word.now ≢ subcommand_word it) (subst (All (λ it. c.args.word.now ≢ subcommand_word it))
    (take_all _ _ c.loop-subcommand-test.false) c.loop-subcommand.invariant) subcommand
