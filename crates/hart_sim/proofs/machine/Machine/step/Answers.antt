use Rattle.std.proofs.Common.{arith}
use Rattle.hart_sim.specs.After.{happened}
use Rattle.hart_sim.specs.Parts.{state_in}
use Rattle.hart_sim.specs.Machines.{state_of, kept_of, bank_on}
use Rattle.hart_sim.proofs.Headlined.{banks_of}
use Rattle.hart_sim.proofs.PrivateBytes.{keeps_private}
use Rattle.hart_sim.proofs.Promised.{denies_others, zeroes_destroyed}
use Rattle.hart_sim.proofs.Promises.{answers_by_view}
use Rattle.hart_sim.proofs.Wanted.{refuses_by_need}
use Rattle.hart_sim.proofs.machine.Machine.step.Goals as goal

pub step-requires-clause-on : goal.step-requires-clause-on
unfolding state_of
step-requires-clause-on c = record { known = c.requires.hart; fit = c.args.self.now.fit }

pub step-requires-clause-few : goal.step-requires-clause-few
unfolding state_of
step-requires-clause-few c = omega (arith, c.requires.hart, c.cite_invariant.ensures.table.layout.four_harts)

pub returns-clause-judged : goal.returns-clause-judged
unfolding state_of kept_of bank_on
returns-clause-judged c = c.step.ensures.judged

pub returns-clause-does : goal.returns-clause-does
unfolding state_of kept_of bank_on
returns-clause-does c = c.step.ensures.effect

pub returns-clause-loaded : goal.returns-clause-loaded
unfolding state_of kept_of bank_on
returns-clause-loaded c = c.step.ensures.loaded

pub returns-clause-step : goal.returns-clause-step
unfolding state_of bank_on
returns-clause-step c = c.step.ensures.step

pub returns-clause-kept : goal.returns-clause-kept
unfolding state_of bank_on
returns-clause-kept c = c.step.ensures.frame.banks

pub returns-clause-others : goal.returns-clause-others
unfolding bank_on
returns-clause-others c = c.step.ensures.frame.others

pub returns-clause-stays : goal.returns-clause-stays
unfolding state_of bank_on
returns-clause-stays c = c.step.ensures.frame.stays

pub returns-clause-platform : goal.returns-clause-platform
unfolding state_of
returns-clause-platform c = c.step.ensures.frame.layout

pub returns-clause-private : goal.returns-clause-private
unfolding state_of bank_on
returns-clause-private c = λ right.
    keeps_private (state_in c.args.self.now.parts) c.args.hart c.args.event c.step.result (state_in c.step.new.self) c.cite_invariant.ensures.table
    (c.step.ensures.step right)

pub returns-clause-allowed : goal.returns-clause-allowed
unfolding state_of bank_on
returns-clause-allowed c = λ right.
    answers_by_view (state_in c.args.self.now.parts) c.args.hart c.args.event c.step.result (state_in c.step.new.self) (c.step.ensures.step right)

pub returns-clause-denied : goal.returns-clause-denied
unfolding state_of bank_on
returns-clause-denied c = λ right.
    denies_others (state_in c.args.self.now.parts) c.args.hart c.args.event c.step.result (state_in c.step.new.self) c.cite_invariant.ensures.table
    (c.step.ensures.step right)

pub returns-clause-destroyed : goal.returns-clause-destroyed
unfolding state_of bank_on
returns-clause-destroyed c = λ right.
    zeroes_destroyed (state_in c.args.self.now.parts) c.args.hart c.args.event c.step.result (state_in c.step.new.self) (c.step.ensures.step right)

pub returns-clause-entries : goal.returns-clause-entries
unfolding state_of bank_on
returns-clause-entries c = λ right.
    refuses_by_need (state_in c.args.self.now.parts) c.args.hart c.args.event c.step.result (state_in c.step.new.self) c.cite_invariant.ensures.table
    (c.step.ensures.step right)

pub returns-clause-happens : goal.returns-clause-happens
unfolding state_of kept_of bank_on
returns-clause-happens c = λ right. record {
  known = c.requires.hart;
  possible = c.requires.event;
  happened = c.step.ensures.step right;
  judged = c.step.ensures.judged;
  others = c.step.ensures.frame.others;
  kept = c.step.ensures.frame.banks right;
}

pub returns-clause-after : goal.returns-clause-after
unfolding state_of kept_of bank_on
returns-clause-after c = λ platform events replies a.
    let right = banks_of platform events replies c.args.self.now a in
    happened a c.args.hart c.args.event c.step.result (record {
      known = c.requires.hart;
      possible = c.requires.event;
      happened = c.step.ensures.step right;
      judged = c.step.ensures.judged;
      others = c.step.ensures.frame.others;
      kept = c.step.ensures.frame.banks right;
    })

pub returns-clause-lists : goal.returns-clause-lists
unfolding state_of kept_of
returns-clause-lists c = c.step.ensures.frame.lists

pub returns-clause-exact : goal.returns-clause-exact
unfolding state_of kept_of bank_on
returns-clause-exact c = c.step.ensures.frame.loads
