-- The changes are in the space, and the entry under which the chain begins comes last.
use Rattle.std.proofs.Common.{◌^◌, ◌∙◌, ◌++◌, ◌∷◌, [], List, ap, sym, subst}
use Rattle.pmp_encoding.specs.declared.perm.Perm.TheVariants.{NoAccess}
use Rattle.chain_planner.specs.declared.turns.Turn.{Turn}
use Rattle.chain_planner.specs.Choices.{tree_in}
use Rattle.chain_planner.specs.Turns.{TurnsWithin, tops_from}
use Rattle.chain_planner.proofs.Planned.{space_pages, begun_in_space, nothing_before, begun_is}
use Rattle.chain_planner.proofs.chain_plan.beginning.Goals as goal

pub place_beginning-requires-clause-pages : goal.place_beginning-requires-clause-pages
place_beginning-requires-clause-pages c = space_pages c.args.log2 c.requires.most

pub tops_from-requires : goal.tops_from-requires
tops_from-requires c =
    let Within : List Turn → Type 0 = λ turns. TurnsWithin 0 (2 ^ 44) turns in
    let placed = c.in_ok-start.ensures in
    subst Within (sym (c.as_slice.ensures.value ∙ nothing_before c.new-turns.ensures.items placed.4))
    (begun_in_space c.args.log2 NoAccess c.in_ok-start.start.perm (tree_in c.args.block.now) placed.0 c.in_ok-start.start.entry placed.1 c.requires.most
    placed.2)

pub returns : goal.returns
returns c =
    let placed = c.in_ok-start.ensures in (
      placed.0,
      c.in_ok-start.start.entry,
      c.in_ok-start.start.perm,
      placed.1,
      placed.2,
      begun_is placed.0 c.in_ok-start.start.entry c.in_ok-start.start.perm placed.1 c.push.new.self.items c.in_ok-tops.tops.items
          (c.in_ok-push.ensures.items ∙ ap (λ es. es ++ c.in_ok-start.start.entry ∷ []) (nothing_before c.new-blocks.ensures.items placed.3))
          (c.in_ok-tops.ensures
          ∙ ap (tops_from c.in_ok-start.start.perm) (c.as_slice.ensures.value ∙ nothing_before c.new-turns.ensures.items placed.4)),
    )
