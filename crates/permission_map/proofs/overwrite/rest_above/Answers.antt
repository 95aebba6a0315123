use Rattle.std.proofs.Common.{rules, ◌∙◌, ◌-◌, sym, arith}
use Rattle.std.proofs.lemmas.Bool.{leb-true, leb-false}
use denote.Enum.Bare.{same_true, same_false}
use Rattle.pmp_encoding.specs.contracts.perm.Perm.{the_type}
use Rattle.pmp_encoding.specs.declared.perm.Perm.TheVariants.{NoAccess}
use Rattle.permission_map.proofs.Parted.{above_all, above_clear, above_cut_at, above_joined_at, ends_small}
use Rattle.permission_map.proofs.overwrite.rest_above.Goals as goal

pub returns-then-gone-eq0 : goal.returns-then-gone-eq0
returns-then-gone-eq0 c =
    above_all c.args.runs.now c.args.gone c.args.end c.args.perm c.requires.runs c.requires.space c.requires.high c.if-gone-eq0.true

pub returns-then-is_over : goal.returns-then-is_over
returns-then-is_over c =
    above_clear c.args.runs.now c.args.gone c.args.end c.args.perm _ c.requires.runs c.requires.space c.requires.high (omega arith) c.requires.inside
    (leb-true _ _ (sym c.is_over.ensures ∙ c.if-is_over.true))

pub overflow_add-stop : goal.overflow_add-stop
overflow_add-stop c =
    let small = ends_small c.args.runs.now (c.args.gone - 1) (record { first = 0; count = 0; perm = NoAccess }) c.requires.runs (omega arith) in
    omega (arith, small)

pub returns-then-eq : goal.returns-then-eq
returns-then-eq c =
    above_joined_at c.args.runs.now c.args.gone c.args.end c.args.perm _ c.requires.runs c.requires.low (omega arith) c.requires.inside
    (leb-false _ _ (sym c.is_over.ensures ∙ c.if-is_over.false))
    (same_true the_type (search rules) _ _ (sym c.eq.ensures ∙ c.if-eq.true))

pub returns : goal.returns
returns c =
    above_cut_at c.args.runs.now c.args.gone c.args.end c.args.perm _ c.requires.runs c.requires.low (omega arith) c.requires.inside
    (leb-false _ _ (sym c.is_over.ensures ∙ c.if-is_over.false))
    (same_false the_type _ _ (sym c.eq.ensures ∙ c.if-eq.false))
