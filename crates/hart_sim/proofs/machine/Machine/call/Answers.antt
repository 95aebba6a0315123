use Rattle.std.proofs.Common.{arith}
use Rattle.hart_sim.specs.Machines.{state_of, kept_of, bank_on}
use Rattle.hart_sim.proofs.machine.Machine.call.Goals as goal

pub call-requires-clause-on : goal.call-requires-clause-on
unfolding state_of
call-requires-clause-on c = record { known = c.requires; fit = c.args.self.now.fit }

pub call-requires-clause-few : goal.call-requires-clause-few
unfolding state_of
call-requires-clause-few c = omega (arith, c.requires, c.cite_invariant.ensures.table.layout.four_harts)

-- no call is an access
pub returns-clause-happens : goal.returns-clause-happens
unfolding state_of kept_of bank_on
returns-clause-happens c = λ right. record {
  known = c.requires;
  possible = tt;
  happened = c.call.ensures.step right;
  judged = λ access value list cause is. absurd cc;
  others = c.call.ensures.frame.others;
  kept = c.call.ensures.frame.banks right;
}

pub returns-clause-kept : goal.returns-clause-kept
unfolding state_of bank_on
returns-clause-kept c = c.call.ensures.frame.banks
