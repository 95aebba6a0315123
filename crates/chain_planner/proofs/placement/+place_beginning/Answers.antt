-- The choices determine the entries and changes that are added.
use Rattle.std.proofs.Common.{sym, subst, arith}
use Rattle.prefix_tree.specs.Trees.{PermTree}
use Rattle.entry_planner.proofs.Walked.{halves_fit_in}
use Rattle.chain_planner.specs.Choices.{tree_in}
use Rattle.chain_planner.specs.Placed.{AddsBegun}
use Rattle.chain_planner.proofs.Walks.{begun_leaf, begun_lower, begun_cover, begun_upper, begins_is_lower, begins_is_cover, begins_is_upper, split_some}
use Rattle.chain_planner.proofs.placement.+place_beginning.Goals as goal

pub upper-high-requires-clause-split : goal.upper-high-requires-clause-split
upper-high-requires-clause-split t c =
    split_some c.args.pages.log2 (tree_in c.args.block.now) (tree_in c.in-Halves.lower.now) (tree_in c.in-Halves.upper.now) c.in-Halves.ensures.tree
    c.requires.fits

pub lower-requires-in-Halves-clause-split : goal.lower-requires-in-Halves-clause-split
lower-requires-in-Halves-clause-split t c =
    split_some c.args.pages.log2 (tree_in c.args.block.now) (tree_in c.in-Halves.lower.now) (tree_in c.in-Halves.upper.now) c.in-Halves.ensures.tree
    c.requires.fits

pub place_beginning-requires : goal.place_beginning-requires
place_beginning-requires t c =
    let fits = halves_fit_in (tree_in c.args.block.now) (tree_in c.in-Halves.lower.now) (tree_in c.in-Halves.upper.now) c.args.pages.log2 c.lower.result.log2
    c.in-Halves.ensures.tree c.lower.ensures.log2 c.requires.fits in
    (omega (arith, c.decreases, c.lower.ensures.log2), (fits.0, (c.in-Halves.ensures.low, c.lower.ensures.pages)))

pub returns-in-Leaf : goal.returns-in-Leaf
returns-in-Leaf t c =
    let Adds : PermTree → Type 0 = λ tree.
    AddsBegun c.args.pages.log2 c.args.pages.first c.args.to tree c.entry_of.result c.args.to c.args.entries.now.items c.args.entries.now.items
    c.args.turns.now.items c.args.turns.now.items in
    subst Adds (sym c.in-Leaf.ensures)
    (begun_leaf c.args.pages.log2 c.args.pages.first c.args.to c.in-Leaf.perm c.entry_of.result c.args.entries.now.items c.args.turns.now.items
    c.entry_of.ensures)

pub returns-then-choice-lt48 : goal.returns-then-choice-lt48
returns-then-choice-lt48 t c =
    let s = c.in-Halves.ensures in
    let l : PermTree = tree_in c.in-Halves.lower.now in
    let u : PermTree = tree_in c.in-Halves.upper.now in
    begun_lower (tree_in c.args.block.now) l u c.args.pages.log2 c.args.pages.first c.lower.result.log2 c.lower.result.first c.upper-high.result.log2
    c.upper-high.result.first c.in_ok-beginning-in-Halves.beginning.perm c.perm_at-below.result c.perm_at-above.result c.args.to
    c.in_ok-beginning-in-Halves.beginning.entry c.args.entries.now.items c.place_beginning.new.entries.items c.place_through.new.entries.items
    c.args.turns.now.items c.place_beginning.new.turns.items c.push_turn.new.turns.items c.place_through.new.turns.items s.tree
    (record {
      lower = c.lower.ensures.log2;
      lower_first = c.lower.ensures.first;
      upper = c.upper-high.ensures.log2;
      upper_first = c.upper-high.ensures.first;
    })
    (begins_is_lower l u c.args.to c.perm_at-below.result c.perm_at-above.result _ c.at-choice.result (s.attain.begins c.args.to) c.at-choice.ensures
    c.if-choice-lt48.true c.perm_at-below.ensures c.perm_at-above.ensures)
    c.in_ok-beginning-in-Halves.ensures c.in_ok-push_turn-in-Halves.ensures c.in_ok-place_through-in-Halves.ensures

pub returns-then-choice-eq48 : goal.returns-then-choice-eq48
returns-then-choice-eq48 t c =
    let s = c.in-Halves.ensures in
    let l : PermTree = tree_in c.in-Halves.lower.now in
    let u : PermTree = tree_in c.in-Halves.upper.now in
    begun_cover (tree_in c.args.block.now) l u c.args.pages.log2 c.args.pages.first c.args.to c.in-Halves.choices.now.cover
    c.entry_of-then-choice-eq48.result c.args.entries.now.items c.place_halves.new.entries.items c.args.turns.now.items s.tree
    (split_some c.args.pages.log2 (tree_in c.args.block.now) l u s.tree c.requires.fits)
    (begins_is_cover l u c.args.to _ c.at-choice.result (s.attain.begins c.args.to) c.at-choice.ensures c.if-choice-eq48.true) s.attain.cover
    c.in_ok-place_halves-in-Halves.ensures c.entry_of-then-choice-eq48.ensures

pub returns-in_ok-beginning-in-Halves-2 : goal.returns-in_ok-beginning-in-Halves-2
returns-in_ok-beginning-in-Halves-2 t c =
    let s = c.in-Halves.ensures in
    let l : PermTree = tree_in c.in-Halves.lower.now in
    let u : PermTree = tree_in c.in-Halves.upper.now in
    begun_upper (tree_in c.args.block.now) l u c.args.pages.log2 c.args.pages.first c.lower-in-Halves.result.log2 c.lower-in-Halves.result.first
    c.upper.result.log2 c.upper.result.first c.in_ok-beginning-in-Halves-2.beginning.perm c.args.to c.in_ok-beginning-in-Halves-2.beginning.entry
    c.args.entries.now.items c.place_own.new.entries.items c.place_beginning-in-Halves.new.entries.items c.args.turns.now.items
    c.place_beginning-in-Halves.new.turns.items s.tree
    (record {
      lower = c.lower-in-Halves.ensures.log2;
      lower_first = c.lower-in-Halves.ensures.first;
      upper = c.upper.ensures.log2;
      upper_first = c.upper.ensures.first;
    })
    (begins_is_upper l u c.args.to _ c.at-choice.result (s.attain.begins c.args.to) c.at-choice.ensures c.if-choice-lt48.false c.if-choice-eq48.false)
    c.in_ok-place_own-in-Halves.ensures c.in_ok-beginning-in-Halves-2.ensures
