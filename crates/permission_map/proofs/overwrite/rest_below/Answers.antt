use Rattle.std.proofs.Common.{rules, ◌∙◌, sym, arith}
use Rattle.std.proofs.lemmas.List.{append-nil}
use denote.Enum.Bare.{same_true, same_false}
use Rattle.pmp_encoding.specs.contracts.perm.Perm.{the_type}
use Rattle.permission_map.proofs.Parted.{below_end, below_clear, below_cut_at, below_joined_at}
use Rattle.permission_map.proofs.overwrite.rest_below.Goals as goal

pub returns-then-kept-runs : goal.returns-then-kept-runs
returns-then-kept-runs c =
    rw append-nil (below_end c.args.runs.now c.args.kept c.args.first c.args.perm c.requires.runs c.requires.low c.if-kept-runs.true)

pub returns-then-run-first : goal.returns-then-run-first
returns-then-run-first c =
    rw append-nil (below_clear c.args.runs.now c.args.kept c.args.first c.args.perm _ c.requires.runs c.requires.low (omega arith) c.if-run-first.true)

pub returns-then-eq : goal.returns-then-eq
returns-then-eq c =
    rw append-nil (below_joined_at c.args.runs.now c.args.kept c.args.first c.args.perm _ c.requires.runs c.requires.high (omega arith) c.if-run-first.false
    (same_true the_type (search rules) _ _ (sym c.eq.ensures ∙ c.if-eq.true)))

pub returns : goal.returns
returns c =
    below_cut_at c.args.runs.now c.args.kept c.args.first c.args.perm _ c.requires.runs c.requires.high (omega arith) c.if-run-first.false
    (same_false the_type _ _ (sym c.eq.ensures ∙ c.if-eq.false))
