use Rattle.hart_sim.proofs.GoneOn.{goes_on}
use Rattle.hart_sim.proofs.Headlined.{banks_of}
use Rattle.hart_sim.proofs.trace_run.run_lines.Goals as goal

pub returns-clause-after : goal.returns-clause-after
returns-clause-after g c = λ platform events replies a.
    let e = c.interpret_lines.ensures in
    let right = banks_of platform events replies c.args.machine.now a in
    goes_on platform events replies c.args.machine.now c.interpret_lines.new.interpreter _ _ _ _ c.interpret_lines.result a (e.all right) (e.line right)
    (e.too_long right) (e.read right) (e.write right) (e.memory right)
