use Rattle.std.proofs.Common.{◌+◌, ◌∙◌, ap, sym}
use Rattle.sbi_decode.specs.Registers.{RegisterFile}
use Rattle.sbi_decode.specs.Runners.{Runner}
use Rattle.monitor_core.specs.States.{MonitorState}
use Rattle.monitor_core.specs.SetChanges.{change}
use Rattle.monitor_core.specs.Steps.{entering_with}
use Rattle.monitor_core.proofs.Said.{begun_is, nothing_is}
use Rattle.monitor_core.proofs.crossings.prepare.Goals as goal

pub returns-in-Resume-clause-state : goal.returns-in-Resume-clause-state
returns-in-Resume-clause-state c = λ s hart e is.
    let second = c.nothing-in-Resume.new.self in
    let with : (Runner → RegisterFile) → MonitorState = λ sets. record s { registers = sets } in
    ap with (nothing_is hart c.nothing.new.self (change hart second s.registers) c.nothing.ensures.kind
    ∙ nothing_is hart second s.registers c.nothing-in-Resume.ensures.kind)
    ∙ sym (ap (λ way. entering_with way s c.args.id e) c.in-Resume.is)

pub returns-in-Run-clause-state : goal.returns-in-Run-clause-state
returns-in-Run-clause-state c = λ s hart e is.
    let second = c.begin.new.self in
    let with : (Runner → RegisterFile) → MonitorState = λ sets. record s { registers = sets } in
    ap with
    (nothing_is hart c.nothing.new.self (change hart second s.registers) c.nothing.ensures.kind
    ∙ begun_is hart second s.registers c.args.id (e.parts.base + e.parts.entry_offset) c.requires.low c.begin.ensures.kind c.begin.ensures.enclave
    (c.begin.ensures.pc ∙ is))
    ∙ sym (ap (λ way. entering_with way s c.args.id e) c.in-Run.is)
