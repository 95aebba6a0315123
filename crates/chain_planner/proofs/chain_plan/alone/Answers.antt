-- The changes are in the space.
use Rattle.std.proofs.Common.{◌^◌, ◌∙◌, List, sym, subst}
use Rattle.chain_planner.specs.declared.turns.Turn.{Turn}
use Rattle.chain_planner.specs.Choices.{tree_in}
use Rattle.chain_planner.specs.Turns.{TurnsWithin}
use Rattle.chain_planner.proofs.Planned.{space_pages, alone_in_space, nothing_before}
use Rattle.chain_planner.proofs.chain_plan.alone.Goals as goal

pub place_alone-requires-clause-pages : goal.place_alone-requires-clause-pages
place_alone-requires-clause-pages c = space_pages c.args.log2 c.requires.most

pub tops_from-requires : goal.tops_from-requires
tops_from-requires c =
    let Within : List Turn → Type 0 = λ turns. TurnsWithin 0 (2 ^ 44) turns in
    subst Within (sym (c.as_slice.ensures.value ∙ nothing_before c.new-turns.ensures.items c.in_ok-place_alone.ensures.turns))
    (alone_in_space c.args.log2 c.args.first (tree_in c.args.block.now) c.requires.most)
