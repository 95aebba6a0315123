use Rattle.std.proofs.Common.{◌∙◌, Some, ap, refl, arith}
use Rattle.pmp_encoding.specs.Limits.{limit_number}
use Rattle.monitor_core.specs.Cores.{core_kept, core_state, worlds_of}
use Rattle.monitor_core.proofs.Said.{same_sets}
use Rattle.hart_sim.specs.Parts.{shown}
use Rattle.hart_sim.proofs.BankPlaces.{read_at}
use Rattle.hart_sim.proofs.Followed.{bank_here, bank_there}
use Rattle.hart_sim.proofs.HartSets.{harts_put, put_alike}
use Rattle.hart_sim.proofs.parts.MachineParts.put_bank.Goals as goal

pub returns-clause-bank : goal.returns-clause-bank
returns-clause-bank c =
    let old = c.args.self.now in
    let at = read_at old.harts c.args.hart c.index-self-hart.result (omega (arith, c.requires.fit.four, c.requires.hart)) in
    bank_here old.harts c.args.hart _ c.put_bank.new.self at ∙ ap Some c.put_bank.ensures.bank

pub returns-clause-others : goal.returns-clause-others
returns-clause-others c = λ i other. bank_there c.args.self.now.harts c.args.hart i c.put_bank.new.self other

pub returns-clause-fit : goal.returns-clause-fit
returns-clause-fit c =
    let old = c.args.self.now in
    let at = read_at old.harts c.args.hart c.index-self-hart.result (omega (arith, c.requires.fit.four, c.requires.hart)) in
    let is = c.requires.fit.each c.args.hart _ at in
    harts_put old.harts (worlds_of old.core) (worlds_of old.core) (core_kept old.core).table.layout.limit c.args.hart _ c.put_bank.new.self c.requires.fit at
    (record {
      number = c.put_bank.ensures.number ∙ is.number;
      world = c.put_bank.ensures.world ∙ is.world;
      limited = ap (λ b. limit_number b.limit) c.put_bank.ensures.bank ∙ c.requires.limit;
    })
    (λ i other. refl)

pub returns-clause-state : goal.returns-clause-state
returns-clause-state c =
    let old = c.args.self.now in
    let at = read_at old.harts c.args.hart c.index-self-hart.result (omega (arith, c.requires.fit.four, c.requires.hart)) in
    ap (λ sets. shown (core_state old.core sets) old.memory) (same_sets (λ who.
    put_alike old.harts old.contexts c.args.hart _ c.put_bank.new.self who at c.put_bank.ensures.number c.put_bank.ensures.world c.put_bank.ensures.registers))
