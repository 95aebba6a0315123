-- A leaf that is found has a lower number than the best, and is the best where its number is sought.
use Rattle.std.proofs.Common.{ap, get_or, length, arith}
use Rattle.std.specs.List.Sorted.{IsPermutation}
use Rattle.map_table.specs.Hulls.{IsNextLeaf, no_hull, numbered}
use Rattle.map_table.proofs.Leaves.{IsMet, met_leaf, missed_all, past_number, past_to}
use Rattle.map_table.proofs.extent_tree.ExtentTree.next_meeting.Goals as goal

pub loop-found-preserved-then-from-number : goal.loop-found-preserved-then-from-number
loop-found-preserved-then-from-number c =
    let extents = c.args.self.now in
    let leaves = c.self.inside.tree in
    let found = c.in-Some.found in
    let place = c.loop-found.place in
    let best = c.loop-found.best in
    let h = get_or leaves found no_hull in
    let same : IsPermutation (numbered 0 extents) leaves = rw c.self.view_is at c.self.invariant in
    let next : IsNextLeaf leaves place best c.args.first c.args.end found = c.in-Some.ensures in
    let is : IsMet extents h best c.args.first c.args.end c.args.end = met_leaf extents leaves place found best c.args.first c.args.end c.args.end same
    (omega arith) next in
    let sought = rw c.leaves.ensures at c.if-from-number.true in
    rw c.leaves.ensures
    (record {
      within = omega (arith, next.inside);
      most = omega (arith, is.inside);
      met = λ inside. (omega (arith, sought), is.met);
      past =
          past_to leaves c.args.from place found best h.number c.args.first c.args.end c.args.end (omega (arith, is.number))
          (omega arith) c.loop-found.invariant.past next.before
          (λ low. past_number h h.number c.args.first c.args.end (omega arith));
    })

pub loop-found-preserved : goal.loop-found-preserved
loop-found-preserved c =
    let leaves = c.self.inside.tree in
    let found = c.in-Some.found in
    let place = c.loop-found.place in
    let best = c.loop-found.best in
    let next : IsNextLeaf leaves place best c.args.first c.args.end found = c.in-Some.ensures in
    let early = rw c.leaves.ensures at c.if-from-number.false in
    record {
      within = omega (arith, next.inside);
      most = c.loop-found.invariant.most;
      met = c.loop-found.invariant.met;
      past =
          past_to leaves c.args.from place found best best c.args.first c.args.end c.args.end (omega arith)
          (omega arith) c.loop-found.invariant.past next.before
          (λ low. absurd (omega (arith, low, early)));
    }

pub returns-then-best-count : goal.returns-then-best-count
returns-then-best-count c =
    let met = c.loop-found.invariant.met (omega (arith, c.if-best-count.true, c.len-count.ensures, ap (λ xs. length xs) c.self.view_is)) in
    record {
      later = met.0;
      inside = omega (arith, c.if-best-count.true, c.len-count.ensures, ap (λ xs. length xs) c.self.view_is);
      met = met.1;
      before =
          missed_all c.args.self.now c.self.inside.tree c.args.from c.loop-found.place c.loop-found.best c.args.first c.args.end
          (rw c.self.view_is at c.self.invariant)
          c.loop-found.invariant.past c.in_default.ensures;
    }

pub returns : goal.returns
returns c = λ k low high.
    missed_all c.args.self.now c.self.inside.tree c.args.from c.loop-found.place c.loop-found.best c.args.first c.args.end
    (rw c.self.view_is at c.self.invariant)
    c.loop-found.invariant.past c.in_default.ensures k low (omega (
      arith,
      high,
      c.if-best-count.false,
      c.len-count.ensures,
      ap
          (λ xs. length xs) c.self.view_is,
    ))
