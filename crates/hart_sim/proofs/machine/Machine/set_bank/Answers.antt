use Rattle.hart_sim.specs.Machines.{state_of, kept_of, bank_on}
use Rattle.hart_sim.proofs.machine.Machine.set_bank.Goals as goal

pub put_bank-requires-clause-limit : goal.put_bank-requires-clause-limit
unfolding state_of
put_bank-requires-clause-limit c = c.requires.limit

pub returns-clause-state : goal.returns-clause-state
unfolding state_of
returns-clause-state c = c.put_bank.ensures.state

pub returns-clause-table : goal.returns-clause-table
unfolding kept_of
returns-clause-table c = c.put_bank.ensures.kept

pub returns-clause-bank : goal.returns-clause-bank
unfolding bank_on
returns-clause-bank c = c.put_bank.ensures.bank

pub returns-clause-others : goal.returns-clause-others
unfolding bank_on
returns-clause-others c = c.put_bank.ensures.others
