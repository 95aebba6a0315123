-- Each half has fewer split blocks, and a chain is walked down before its smallest block.
use Rattle.std.proofs.Common.{◌≡◌, ◌+◌, ◌-◌, ◌*◌, ◌≤◌, ◌++◌, List, length, reverse}
use Rattle.prefix_tree.specs.Chains.{chained}
use Rattle.prefix_tree.specs.Counts.{splits}
use Rattle.entry_planner.specs.declared.costs.SplitCost.{SplitCost}
use Rattle.entry_planner.specs.SplitCosts.{splits_in}
use Rattle.entry_planner.proofs.ChainWalked.{WalkedTo, left_at}
use Rattle.entry_planner.proofs.placement.+placing.Given as goal

abbrev pub decreases-place_entries : goal.decreases-place_entries
decreases-place_entries g l = 4 * splits (g.H.Halving.shape l.block.now) + 2

abbrev pub decreases-place_chain : goal.decreases-place_chain
decreases-place_chain g l = 4 * (l.chain.levels + splits (g.H.Halving.shape l.smallest.now)) + (3 - 3 * l.chain.levels)

-- the blocks down to the next are walked
abbrev pub invariant-place_chain-loop-depth : goal.invariant-place_chain-loop-depth
invariant-place_chain-loop-depth g l =
    let tree = g.H.Halving.shape l.fn.smallest in
    record {
      few : length l.left ≤ length l.fn.costs;
      ends : (rest : List SplitCost) × (l.left ≡ rest ++ reverse (splits_in (left_at l.fn.chain l.depth tree)));
      back : (rest : List SplitCost) → l.left ≡ rest ++ reverse (splits_in (left_at l.fn.chain l.depth tree))
          → l.fn.costs ≡ rest ++ reverse (splits_in (chained l.fn.chain tree));
      walked : WalkedTo l.fn.pages.log2 l.fn.pages.first l.fn.inherited l.fn.chain tree l.depth l.from l.fn.entries l.entries;
    }
