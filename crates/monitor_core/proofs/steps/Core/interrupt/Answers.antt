use Rattle.std.proofs.Common.{refl}
use Rattle.sbi_decode.specs.Registers.{zeros}
use Rattle.monitor_core.specs.Cores.{core_kept, core_marks, worlds_of}
use Rattle.monitor_core.specs.Parts.{bare, state_in}
use Rattle.monitor_core.specs.SetChanges.{changed}
use Rattle.monitor_core.proofs.Awake.{interrupt_leaves_awake}
use Rattle.monitor_core.proofs.Currents.{placed_from}
use Rattle.monitor_core.proofs.Others.{others_irq}
use Rattle.monitor_core.proofs.Said.{loads_any}
use Rattle.monitor_core.proofs.steps.Core.interrupt.Goals as goal

pub pause-requires : goal.pause-requires
unfolding core_kept
pause-requires c = record { on = record { known = c.requires.hart; whole = c.args.self.now.whole } }

pub returns-clause-step : goal.returns-clause-step
unfolding core_kept worlds_of core_marks
returns-clause-step c = c.pause.ensures.step

pub returns-clause-sets : goal.returns-clause-sets
returns-clause-sets c = c.pause.ensures.sets

pub returns-clause-load : goal.returns-clause-load
unfolding core_kept worlds_of core_marks
returns-clause-load c = λ before after. loads_any c.pause.result c.args.self.now.parts c.pause.new.self c.args.hart before after c.pause.ensures.load

pub returns-clause-awake : goal.returns-clause-awake
unfolding core_marks
returns-clause-awake c =
    let s = bare c.args.self.now.parts in
    interrupt_leaves_awake (s.worlds c.args.hart) s c.args.hart (state_in c.pause.new.self (changed c.args.hart c.pause.new.changes (λ who. zeros)))
    c.requires.awake (c.pause.ensures.step (λ who. zeros))

pub returns-clause-platform : goal.returns-clause-platform
unfolding core_kept
returns-clause-platform c = c.pause.ensures.frame.layout

pub returns-clause-lists : goal.returns-clause-lists
unfolding core_kept
returns-clause-lists c = c.pause.ensures.frame.lists

pub returns-clause-others : goal.returns-clause-others
unfolding core_kept worlds_of core_marks
returns-clause-others c = λ before after.
    let old = c.args.self.now.parts in
    let s = bare old in
    let placed = placed_from old (λ who. zeros) c.args.self.now.whole in
    let stays = others_irq (s.worlds c.args.hart) s c.args.hart (state_in c.pause.new.self (changed c.args.hart c.pause.new.changes (λ who. zeros))) refl
    c.requires.hart
    (record { current = placed.current; alone = placed.alone; held = placed.held; marked = placed.marked }) (c.pause.ensures.step (λ who. zeros)) in
    record { worlds = stays.worlds; awake = stays.awake; views = stays.views }
