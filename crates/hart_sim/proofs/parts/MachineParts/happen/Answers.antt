use Rattle.std.proofs.Common.{◌≡◌, ℕ, sym, subst, List, Some}
use Rattle.pmp_encoding.specs.Banks.{HasList}
use Rattle.pmp_encoding.specs.declared.bank.Bank.{Bank}
use Rattle.pmp_encoding.specs.declared.region.Entry.{Entry}
use Rattle.sbi_decode.specs.Calls.{call_of}
use Rattle.monitor_core.specs.Changes.{with_running}
use Rattle.monitor_core.specs.Steps.{DoesCall}
use Rattle.hart_sim.specs.Changes.{calling}
use Rattle.hart_sim.specs.Parts.{state_in, bank_in}
use Rattle.hart_sim.specs.States.{core_of}
use Rattle.hart_sim.specs.Steps.{Serves, DoesEvent, DoesBy}
use Rattle.hart_sim.specs.declared.parts.MachineParts.{MachineParts}
use Rattle.hart_sim.proofs.parts.MachineParts.happen.Goals as goal
use Rattle.hart_sim.specs.Memory.{measured_in}

pub returns-in-Ecall-clause-step : goal.returns-in-Ecall-clause-step
returns-in-Ecall-clause-step c = λ right.
    let s = state_in c.args.self.now in
    let new = state_in c.ecall.new.self in
    subst (λ e. DoesEvent e s c.args.hart c.ecall.result new) (sym c.in-Ecall.is)
    (subst (λ words. Serves (DoesCall (call_of (calling s c.args.hart words)) (measured_in s.bytes)
    (with_running (core_of s) c.args.hart (calling s c.args.hart words)) c.args.hart) s c.args.hart c.ecall.result new) c.as_slice.ensures.value
    c.ecall.ensures.step)

-- the list of the bank that is loaded on a hart
abbrev Loaded : MachineParts → ℕ → List Entry → Type 0
Loaded parts hart list = (bank : Bank) × (bank_in parts hart ≡ Some bank) × HasList bank list

pub returns-in-Access-clause-effect : goal.returns-in-Access-clause-effect
returns-in-Access-clause-effect c =
    let old = c.args.self.now in
    subst (λ e. DoesBy (Loaded old c.args.hart) e (state_in old) c.args.hart c.access.result (state_in c.access.new.self)) (sym c.in-Access.is)
    (λ list said met judged. c.access.ensures.effect met.0 list said met.1 met.2 judged)

pub returns-in-Reg-clause-effect : goal.returns-in-Reg-clause-effect
returns-in-Reg-clause-effect c =
    let old = c.args.self.now in
    subst (λ e. DoesBy (Loaded old c.args.hart) e (state_in old) c.args.hart c.set_register.result (state_in c.set_register.new.self))
    (sym c.in-Reg.is) c.set_register.ensures.step

pub returns-in-Ecall-clause-effect : goal.returns-in-Ecall-clause-effect
returns-in-Ecall-clause-effect c =
    let old = c.args.self.now in
    let s = state_in old in
    let new = state_in c.ecall.new.self in
    subst (λ e. DoesBy (Loaded old c.args.hart) e s c.args.hart c.ecall.result new) (sym c.in-Ecall.is)
    (subst (λ words. Serves (DoesCall (call_of (calling s c.args.hart words)) (measured_in s.bytes)
    (with_running (core_of s) c.args.hart (calling s c.args.hart words)) c.args.hart) s c.args.hart c.ecall.result new) c.as_slice.ensures.value
    c.ecall.ensures.step)

pub returns-in-Irq-clause-effect : goal.returns-in-Irq-clause-effect
returns-in-Irq-clause-effect c =
    let old = c.args.self.now in
    subst (λ e. DoesBy (Loaded old c.args.hart) e (state_in old) c.args.hart c.interrupt.result (state_in c.interrupt.new.self))
    (sym c.in-Irq.is) c.interrupt.ensures.step
