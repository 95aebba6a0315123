use Rattle.std.proofs.Common.{refl, ap, arith, slice_set}
use Rattle.hart_sim.specs.Parts.{shown}
use Rattle.hart_sim.proofs.BankPlaces.{read_at}
use Rattle.hart_sim.proofs.Followed.{register_put}
use Rattle.hart_sim.proofs.Framed.{frame_still}
use Rattle.hart_sim.proofs.parts.MachineParts.set_register.Goals as goal

pub returns-clause-frame : goal.returns-clause-frame
returns-clause-frame c =
    let old = c.args.self.now in
    let at = read_at old.harts c.args.hart c.index-self-hart.result (omega (arith, c.requires.on.fit.four, c.requires.few)) in
    let put = register_put old c.args.hart _ c.set_register.new.here c.args.n c.args.value c.requires.on.fit at c.set_register.ensures in
    frame_still old (record old { harts = slice_set old.harts c.args.hart c.set_register.new.here }) c.args.hart put.fit c.requires.awake refl
    (λ i. refl) (λ i. refl) refl put.banks

pub returns-clause-step : goal.returns-clause-step
returns-clause-step c =
    let old = c.args.self.now in
    let at = read_at old.harts c.args.hart c.index-self-hart.result (omega (arith, c.requires.on.fit.four, c.requires.few)) in
    let put = register_put old c.args.hart _ c.set_register.new.here c.args.n c.args.value c.requires.on.fit at c.set_register.ensures in
    (refl, ap (λ core. shown core old.memory) put.state)
