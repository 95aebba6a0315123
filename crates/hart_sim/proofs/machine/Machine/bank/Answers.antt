use Rattle.hart_sim.specs.Machines.{state_of, bank_on}
use Rattle.hart_sim.proofs.BankPlaces.{bank_limited}
use Rattle.hart_sim.proofs.machine.Machine.bank.Goals as goal

pub returns-clause-bank : goal.returns-clause-bank
unfolding bank_on
returns-clause-bank c = c.bank.ensures

pub returns-clause-limit : goal.returns-clause-limit
unfolding state_of
returns-clause-limit c = bank_limited _ _ _ c.args.hart c.bank.result.now c.args.self.now.fit c.requires c.bank.ensures
