-- A leaf that is found is nearer than the cut, and is the next cut.
use Rattle.std.proofs.Common.{get_or, arith}
use Rattle.std.specs.List.Sorted.{IsPermutation}
use Rattle.map_table.specs.Hulls.{IsNextLeaf, no_hull, numbered}
use Rattle.map_table.proofs.Leaves.{IsMet, met_leaf, missed_all, past_base, past_to}
use Rattle.map_table.proofs.extent_tree.ExtentTree.next_cut.Goals as goal

pub loop-found-preserved : goal.loop-found-preserved
loop-found-preserved c =
    let extents = c.args.self.now in
    let leaves = c.self.inside.tree in
    let found = c.in-Some.found in
    let place = c.loop-found.place in
    let h = get_or leaves found no_hull in
    let same : IsPermutation (numbered 0 extents) leaves = rw c.self.view_is at c.self.invariant in
    let next : IsNextLeaf leaves place c.args.bound c.args.first c.loop-found.cut found = c.in-Some.ensures in
    let is : IsMet extents h c.args.bound c.args.first c.loop-found.cut c.args.end =
    met_leaf extents leaves place found c.args.bound c.args.first c.loop-found.cut c.args.end same c.loop-found.invariant.most next in
    rw c.leaves.ensures
    (record {
      within = omega (arith, next.inside);
      most = omega (arith, is.nearer, c.loop-found.invariant.most);
      begun = λ nearer. (h.number, is.number, is.met, is.base);
      past =
          past_to leaves 0 place found c.args.bound c.args.bound c.args.first c.loop-found.cut h.base (omega arith)
          (omega (arith, is.nearer)) c.loop-found.invariant.past next.before
          (λ low. past_base h c.args.bound c.args.first h.base (omega arith));
    })

pub returns : goal.returns
returns c = record {
  most = c.loop-found.invariant.most;
  missed =
      missed_all c.args.self.now c.self.inside.tree 0 c.loop-found.place c.args.bound c.args.first c.loop-found.cut
      (rw c.self.view_is at c.self.invariant) c.loop-found.invariant.past
      c.in_default.ensures;
  begun = c.loop-found.invariant.begun;
}
