use Rattle.std.proofs.Common.{◌≡◌, ◌∙◌, ◌+◌, ◌-◌, ◌<◌, ◌≤◌, suc, slice_index_or, sym, arith}
use Rattle.pmp_encoding.specs.declared.perm.Perm.TheVariants.{NoAccess}
use Rattle.permission_map.specs.declared.runs.Run.{Run}
use Rattle.prefix_tree.proofs.Cut.{none_ended, last_ended, last_goes_on}
use Rattle.prefix_tree.proofs.map_blocks.ended_before.Goals as goal

pub returns-then-begun-eq0 : goal.returns-then-begun-eq0
returns-then-begun-eq0 c =
    none_ended c.args.runs.now c.args.page (record { first = 0; count = 0; perm = NoAccess }) c.requires.runs (sym c.if-begun-eq0.true ∙ c.requires.begun)

pub returns-then-saturating_sub-last : goal.returns-then-saturating_sub-last
returns-then-saturating_sub-last c =
    let d : Run = record { first = 0; count = 0; perm = NoAccess } in
    let some : suc (c.args.begun - 1) ≡ c.args.begun = omega (arith, c.if-begun-eq0.false) in
    last_goes_on c.args.runs.now c.args.page (c.args.begun - 1) d c.requires.runs (some ∙ c.requires.begun)
    (omega (arith, c.saturating_sub.ensures, c.if-saturating_sub-last.true))

pub returns : goal.returns
returns c =
    let d : Run = record { first = 0; count = 0; perm = NoAccess } in
    let some : suc (c.args.begun - 1) ≡ c.args.begun = omega (arith, c.if-begun-eq0.false) in
    sym some
    ∙ last_ended c.args.runs.now c.args.page (c.args.begun - 1) d c.requires.runs (some ∙ c.requires.begun)
    (omega (arith, c.saturating_sub.ensures, c.if-saturating_sub-last.false))
