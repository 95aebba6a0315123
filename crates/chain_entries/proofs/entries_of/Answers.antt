use Rattle.std.proofs.Common.{ap, map, subst, sym, ◌∙◌, ◌^◌}
use Rattle.map_text.specs.ListedEntries.{AreWithin, pair_in}
use Rattle.chain_planner.specs.ChainPlans.{list_of}
use Rattle.chain_entries.specs.ChainEntries.{AreBelow, extent_in}
use Rattle.chain_entries.proofs.Listed.{extents_are, in_order, pairs_of, tops_below, within}
use Rattle.chain_entries.proofs.entries_of.Goals as goal

pub push_tops-requires-clause-tops : goal.push_tops-requires-clause-tops
push_tops-requires-clause-tops c = subst (AreBelow (2 ^ 54)) (sym c.as_slice-2.ensures.value) (tops_below c.requires.0 0 _ c.requires.2.rising)

pub returns-clause-entries : goal.returns-clause-entries
returns-clause-entries c =
    let blocks = rw c.as_slice.ensures.value at (rw c.in_ok-entries.ensures.items at c.in_ok-push_blocks.ensures) in
    let tops = rw c.as_slice-2.ensures.value at c.in_ok-push_tops.ensures in
    in_order (list_of c.args.plan.now) c.bottom_of.result _ _ _ blocks c.in_ok-push_off.ensures tops c.bottom_of.ensures.value

pub returns-clause-pairs : goal.returns-clause-pairs
returns-clause-pairs c = ap (map pair_in) (returns-clause-entries c) ∙ pairs_of (list_of c.args.plan.now)

pub returns-clause-extents : goal.returns-clause-extents
returns-clause-extents c = ap (map extent_in) (returns-clause-entries c) ∙ extents_are (list_of c.args.plan.now)

pub returns-clause-reached : goal.returns-clause-reached
returns-clause-reached c = λ xlen place chained.
    subst (λ entries. AreWithin xlen entries) (sym (returns-clause-entries c)) (within xlen place (list_of c.args.plan.now) chained)
