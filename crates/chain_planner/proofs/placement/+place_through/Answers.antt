-- The choices determine the entries and changes that are added.
use Rattle.std.proofs.Common.{◌∙◌, sym, subst, arith}
use Rattle.prefix_tree.specs.Trees.{PermTree}
use Rattle.chain_planner.specs.Choices.{tree_in}
use Rattle.chain_planner.specs.Placed.{AddsPassed}
use Rattle.chain_planner.specs.Sixes.{at}
use Rattle.std.proofs.Common.{ap}
use Rattle.entry_planner.proofs.Walked.{halves_fit_in}
use Rattle.chain_planner.proofs.Walks.{passed_leaf, passed_cover_leaf, passed_halves, passed_cover, through_is_pass, through_is_cover, split_some}
use Rattle.chain_planner.proofs.placement.+place_through.Goals as goal

pub returns-then-choice-lt48 : goal.returns-then-choice-lt48
returns-then-choice-lt48 t c =
    let s = c.in-Halves.ensures in
    let l : PermTree = tree_in c.in-Halves.lower.now in
    let u : PermTree = tree_in c.in-Halves.upper.now in
    passed_halves (tree_in c.args.block.now) l u c.args.pages.log2 c.args.pages.first c.lower.result.log2 c.lower.result.first c.upper-high.result.log2
    c.upper-high.result.first c.args.from c.perm_at-below.result c.perm_at-above.result c.args.to c.args.entries.now.items c.place_through.new.entries.items
    c.place_through-then-choice-lt48.new.entries.items c.args.turns.now.items c.place_through.new.turns.items c.push_turn.new.turns.items
    c.place_through-then-choice-lt48.new.turns.items s.tree
    (record {
      lower = c.lower.ensures.log2;
      lower_first = c.lower.ensures.first;
      upper = c.upper-high.ensures.log2;
      upper_first = c.upper-high.ensures.first;
    })
    (through_is_pass l u c.args.from c.args.to c.perm_at-below.result c.perm_at-above.result _ c.at-choice.result (s.attain.through c.args.from c.args.to)
    (c.at-choice.ensures ∙ ap (λ six. at six c.args.to) c.at.ensures) c.if-choice-lt48.true c.perm_at-below.ensures c.perm_at-above.ensures)
    c.in_ok-place_through-in-Halves.ensures c.in_ok-push_turn-in-Halves.ensures c.in_ok-place_through-in-Halves-2.ensures

pub returns-in_ok-place_cover-in-Halves : goal.returns-in_ok-place_cover-in-Halves
returns-in_ok-place_cover-in-Halves t c =
    let s = c.in-Halves.ensures in
    let l : PermTree = tree_in c.in-Halves.lower.now in
    let u : PermTree = tree_in c.in-Halves.upper.now in
    passed_cover (tree_in c.args.block.now) l u c.args.pages.log2 c.args.pages.first c.args.from c.args.to c.in-Halves.choices.now.cover
    c.args.entries.now.items c.place_halves.new.entries.items c.place_cover-in-Halves.new.entries.items c.args.turns.now.items
    c.place_cover-in-Halves.new.turns.items s.tree (split_some c.args.pages.log2 (tree_in c.args.block.now) l u s.tree c.requires.fits)
    (through_is_cover l u c.args.from c.args.to _ c.at-choice.result (s.attain.through c.args.from c.args.to)
    (c.at-choice.ensures ∙ ap (λ six. at six c.args.to) c.at.ensures) c.if-choice-lt48.false)
    s.attain.cover c.in_ok-place_halves-in-Halves.ensures c.in_ok-place_cover-in-Halves.ensures.entries c.in_ok-place_cover-in-Halves.ensures.turns

pub returns-then-is_followed : goal.returns-then-is_followed
returns-then-is_followed t c =
    let Adds : PermTree → Type 0 = λ tree.
    AddsPassed c.args.pages.log2 c.args.pages.first c.args.from c.args.to tree c.args.entries.now.items c.args.entries.now.items c.args.turns.now.items
    c.args.turns.now.items in
    subst Adds (sym c.in-Leaf.ensures)
    (passed_leaf c.args.pages.log2 c.args.pages.first c.args.from c.args.to c.in-Leaf.perm c.args.entries.now.items c.args.turns.now.items
    (sym c.is_followed.ensures ∙ c.if-is_followed.true))

pub returns-in_ok-place_cover-in-Leaf : goal.returns-in_ok-place_cover-in-Leaf
returns-in_ok-place_cover-in-Leaf t c =
    let Adds : PermTree → Type 0 = λ tree.
    AddsPassed c.args.pages.log2 c.args.pages.first c.args.from c.args.to tree c.args.entries.now.items c.place_cover.new.entries.items
    c.args.turns.now.items c.place_cover.new.turns.items in
    subst Adds (sym c.in-Leaf.ensures)
    (passed_cover_leaf c.args.pages.log2 c.args.pages.first c.args.from c.args.to c.in-Leaf.perm c.args.entries.now.items c.place_cover.new.entries.items
    c.args.turns.now.items c.place_cover.new.turns.items (sym c.is_followed.ensures ∙ c.if-is_followed.false) c.in_ok-place_cover-in-Leaf.ensures.entries
    c.in_ok-place_cover-in-Leaf.ensures.turns)

pub upper-high-requires-clause-split : goal.upper-high-requires-clause-split
upper-high-requires-clause-split t c =
    split_some c.args.pages.log2 (tree_in c.args.block.now) (tree_in c.in-Halves.lower.now) (tree_in c.in-Halves.upper.now) c.in-Halves.ensures.tree
    c.requires.fits

pub place_through-requires : goal.place_through-requires
place_through-requires t c =
    let fits = halves_fit_in (tree_in c.args.block.now) (tree_in c.in-Halves.lower.now) (tree_in c.in-Halves.upper.now) c.args.pages.log2 c.lower.result.log2
    c.in-Halves.ensures.tree c.lower.ensures.log2 c.requires.fits in
    (omega (arith, c.decreases, c.lower.ensures.log2), (fits.0, (c.in-Halves.ensures.low, c.lower.ensures.pages)))

pub place_through-requires-then-choice-lt48 : goal.place_through-requires-then-choice-lt48
place_through-requires-then-choice-lt48 t c =
    let fits = halves_fit_in (tree_in c.args.block.now) (tree_in c.in-Halves.lower.now) (tree_in c.in-Halves.upper.now) c.args.pages.log2
    c.upper-high.result.log2 c.in-Halves.ensures.tree c.upper-high.ensures.log2 c.requires.fits in
    (omega (arith, c.decreases, c.upper-high.ensures.log2), (fits.1, (c.in-Halves.ensures.high, c.upper-high.ensures.pages)))
