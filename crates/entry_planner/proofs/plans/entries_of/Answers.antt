-- The entries are put in another order after they are placed.
use Rattle.entry_planner.proofs.Walked.{all_chosen}
use Rattle.entry_planner.proofs.plans.entries_of.Goals as goal

pub returns-clause-chosen : goal.returns-clause-chosen
returns-clause-chosen g c = all_chosen _ _ _ _ c.in_ok-placed.ensures c.in_ok-place_entries.ensures.placed c.in_order.ensures.same
