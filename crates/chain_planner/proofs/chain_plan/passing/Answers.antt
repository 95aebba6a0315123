-- The changes are in the space.
use Rattle.std.proofs.Common.{◌^◌, ◌∙◌, List, sym, subst}
use Rattle.pmp_encoding.specs.declared.perm.Perm.TheVariants.{NoAccess}
use Rattle.chain_planner.specs.declared.turns.Turn.{Turn}
use Rattle.chain_planner.specs.Choices.{tree_in}
use Rattle.chain_planner.specs.Turns.{TurnsWithin}
use Rattle.chain_planner.proofs.Planned.{space_pages, passed_in_space, nothing_before}
use Rattle.chain_planner.proofs.chain_plan.passing.Goals as goal

pub place_through-requires-clause-pages : goal.place_through-requires-clause-pages
place_through-requires-clause-pages c = space_pages c.args.log2 c.requires.most

pub chain_of-requires : goal.chain_of-requires
chain_of-requires c =
    let Within : List Turn → Type 0 = λ turns. TurnsWithin 0 (2 ^ 44) turns in
    let placed = c.in_ok-place_through.ensures in
    subst Within (sym (c.as_slice.ensures.value ∙ nothing_before c.new-turns.ensures.items placed.4))
    (passed_in_space c.args.log2 c.args.first NoAccess (tree_in c.args.block.now) placed.0 placed.1 c.requires.most placed.2)
