-- A command with one argument more, and the program with one subcommand more.
use Rattle.std.proofs.Common.{ℕ, ◌+◌, ◌<◌, List, ◌∷◌, length, drop, slice_index_or, ◌≤◌, [], ◌≡◌, ◌∙◌, ap, sym}
use Rattle.std.proofs.lemmas.Grind.{common_steps}
use Rattle.std.proofs.Common.{arith}
use Rattle.clap.specs.Words.{App, Rule, with_rule, with_subcommand}
use Rattle.command_line.specs.CommandLine.{app_by, rule_by, with_arguments, with_subcommands}
use Rattle.command_line.specs.declared.table.Argument.{Argument}
use Rattle.command_line.specs.declared.task.Subcommand.{Subcommand}

next_one : {A : Type 0} (all : List A) (i : ℕ) (d : A) → i < length all → drop i all ≡ slice_index_or all i d ∷ drop (i + 1) all
next_one all i d h = grind (arith, common_steps)

-- nothing stands after the last
pub none_left : {A : Type 0} (all : List A) (i : ℕ) → length all ≤ i → drop i all ≡ []
none_left all i h = grind (arith, common_steps)

pub with_next_argument :
    (old new whole : App) (rule : Rule) (all : List Argument) (i : ℕ) (d : Argument) → i < length all → new ≡ with_rule old rule
    → rule ≡ rule_by (slice_index_or all i d) → with_arguments old (drop i all) ≡ whole → with_arguments new (drop (i + 1) all) ≡ whole
unfolding with_arguments
with_next_argument old new whole rule all i d h more is before =
    ap (λ app. with_arguments app (drop (i + 1) all)) (more ∙ ap (with_rule old) is) ∙ ap (with_arguments old) (sym (next_one all i d h)) ∙ before

pub with_next_subcommand :
    (old new whole app : App) (all : List Subcommand) (i : ℕ) (d : Subcommand) → i < length all → new ≡ with_subcommand old app.top
    → app ≡ app_by (slice_index_or all i d) → with_subcommands old (drop i all) ≡ whole → with_subcommands new (drop (i + 1) all) ≡ whole
unfolding with_subcommands
with_next_subcommand old new whole app all i d h more is before =
    ap (λ it. with_subcommands it (drop (i + 1) all)) (more ∙ ap (λ it. with_subcommand old it.top) is) ∙ ap (with_subcommands old) (sym (next_one all i d h))
    ∙ before
