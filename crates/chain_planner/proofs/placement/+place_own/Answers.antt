-- The choices determine the entries and changes that are added.
use Rattle.std.proofs.Common.{◌≡◌, ◌+◌, sym, subst}
use Rattle.prefix_tree.specs.Trees.{PermTree, Split}
use Rattle.entry_planner.specs.Costs.{cost}
use Rattle.entry_planner.proofs.SamePerm.{perm_eq-other}
use Rattle.chain_planner.specs.ChainCosts.{covered}
use Rattle.chain_planner.specs.Choices.{tree_in}
use Rattle.chain_planner.specs.Placed.{AddsPlaced}
use Rattle.chain_planner.proofs.Walks.{own_entry, own_pass, own_cover, own_is_pass, own_is_cover}
use Rattle.chain_planner.proofs.placement.+place_own.Goals as goal

pub returns-then-at-eq0 : goal.returns-then-at-eq0
returns-then-at-eq0 t c =
    let s = c.in-Halves.ensures in
    let l : PermTree = tree_in c.in-Halves.lower.now in
    let u : PermTree = tree_in c.in-Halves.upper.now in
    let least : cost (Split l u) c.args.inherited ≡ cost l c.args.inherited + cost u c.args.inherited =
    own_is_pass l u c.args.inherited _ c.at.result (s.attain.own c.args.inherited) c.at.ensures c.if-at-eq0.true in
    own_pass (tree_in c.args.block.now) l u c.args.pages.log2 c.args.pages.first c.lower.result.log2 c.lower.result.first c.upper.result.log2
    c.upper.result.first c.args.inherited c.args.entries.now.items c.place_own.new.entries.items c.place_own-then-at-eq0.new.entries.items s.tree
    (record {
      lower = c.lower.ensures.log2;
      lower_first = c.lower.ensures.first;
      upper = c.upper.ensures.log2;
      upper_first = c.upper.ensures.first;
    }) least c.in_ok-place_own-in-Halves.ensures c.in_ok-place_own-in-Halves-2.ensures

pub returns-in_ok-push-in-Leaf : goal.returns-in_ok-push-in-Leaf
returns-in_ok-push-in-Leaf t c =
    let Adds : PermTree → Type 0 = λ tree.
    AddsPlaced c.args.pages.log2 c.args.pages.first c.args.inherited tree c.args.entries.now.items c.push.new.self.items in
    subst Adds (sym c.in-Leaf.ensures)
    (own_entry c.args.pages.log2 c.args.pages.first c.args.inherited c.in-Leaf.perm c.entry_of.result c.args.entries.now.items c.push.new.self.items
    (perm_eq-other c.in-Leaf.perm c.args.inherited c.ne.result c.ne.ensures c.if-ne.true) c.entry_of.ensures c.in_ok-push-in-Leaf.ensures.items)

pub returns-in_ok-push-in-Halves : goal.returns-in_ok-push-in-Halves
returns-in_ok-push-in-Halves t c =
    let s = c.in-Halves.ensures in
    let l : PermTree = tree_in c.in-Halves.lower.now in
    let u : PermTree = tree_in c.in-Halves.upper.now in
    let least : cost (Split l u) c.args.inherited ≡ covered l u =
    own_is_cover l u c.args.inherited _ c.at.result (s.attain.own c.args.inherited) c.at.ensures c.if-at-eq0.false in
    own_cover (tree_in c.args.block.now) l u c.args.pages.log2 c.args.pages.first c.lower-in-Halves.result.log2 c.lower-in-Halves.result.first
    c.upper-in-Halves.result.log2 c.upper-in-Halves.result.first c.args.inherited c.in-Halves.choices.now.cover c.entry_of-in-Halves.result
    c.args.entries.now.items c.place_own-in-Halves.new.entries.items c.place_own-in-Halves-2.new.entries.items c.push-in-Halves.new.self.items s.tree
    (record {
      lower = c.lower-in-Halves.ensures.log2;
      lower_first = c.lower-in-Halves.ensures.first;
      upper = c.upper-in-Halves.ensures.log2;
      upper_first = c.upper-in-Halves.ensures.first;
    }) least s.attain.cover c.entry_of-in-Halves.ensures c.in_ok-push-in-Halves.ensures.items c.in_ok-place_own-in-Halves-3.ensures
    c.in_ok-place_own-in-Halves-4.ensures
