use Rattle.std.proofs.Common.{sym, subst}
use Rattle.sbi_decode.specs.Calls.{call_of}
use Rattle.monitor_core.specs.Cores.{core_kept, core_marks, worlds_of}
use Rattle.monitor_core.specs.Changes.{past_call, with_running}
use Rattle.monitor_core.specs.Parts.{bare, state_in}
use Rattle.monitor_core.specs.SetChanges.{changed}
use Rattle.monitor_core.specs.States.{running_registers}
use Rattle.monitor_core.specs.Steps.{DoesCall}
use Rattle.sbi_decode.specs.Registers.{zeros}
use Rattle.monitor_core.proofs.Awake.{call_leaves_awake}
use Rattle.monitor_core.proofs.Cleared.{call_clears_memory}
use Rattle.monitor_core.proofs.Currents.{placed_from}
use Rattle.monitor_core.proofs.Others.{others_call}
use Rattle.monitor_core.proofs.Said.{loads_any}
use Rattle.monitor_core.proofs.Wanted.{call_refused_by_need}
use Rattle.monitor_core.proofs.steps.Core.serve.Goals as goal

pub serve-requires-clause-on : goal.serve-requires-clause-on
unfolding core_kept
serve-requires-clause-on g c = record { known = c.requires.hart; whole = c.args.self.now.whole }

pub serve-requires-clause-awake : goal.serve-requires-clause-awake
unfolding core_marks
serve-requires-clause-awake g c = c.requires.awake

pub returns-clause-step : goal.returns-clause-step
unfolding core_kept worlds_of core_marks
returns-clause-step g c = λ sets same.
    let s = state_in c.args.self.now.parts sets in
    let file = past_call (running_registers s c.args.hart) in
    let said = c.serve.result in
    subst (λ o. DoesCall o (g.D.Digests.digest_of c.args.digests.now) (with_running s c.args.hart file) c.args.hart said.answer said.zero
    (state_in c.serve.new.self (changed c.args.hart c.serve.new.changes sets))) (sym same) (c.serve.ensures.step sets)

pub returns-clause-sets : goal.returns-clause-sets
returns-clause-sets g c = c.serve.ensures.sets

pub returns-clause-load : goal.returns-clause-load
unfolding core_kept worlds_of core_marks
returns-clause-load g c = λ before after.
    loads_any c.serve.result.load c.args.self.now.parts c.serve.new.self c.args.hart before after c.serve.ensures.load

pub returns-clause-awake : goal.returns-clause-awake
unfolding core_marks
returns-clause-awake g c =
    let s = bare c.args.self.now.parts in
    let there = with_running s c.args.hart (past_call (running_registers s c.args.hart)) in
    call_leaves_awake (call_of c.args.asked.now) (g.D.Digests.digest_of c.args.digests.now) there c.args.hart c.serve.result.answer c.serve.result.zero
    (state_in c.serve.new.self (changed c.args.hart c.serve.new.changes (λ who. zeros))) c.requires.awake (c.serve.ensures.step (λ who. zeros))

pub returns-clause-platform : goal.returns-clause-platform
unfolding core_kept
returns-clause-platform g c = c.serve.ensures.frame.layout

pub returns-clause-lists : goal.returns-clause-lists
unfolding core_kept
returns-clause-lists g c = c.serve.ensures.frame.lists

pub returns-clause-need : goal.returns-clause-need
unfolding core_kept worlds_of
returns-clause-need g c =
    let s = bare c.args.self.now.parts in
    let there = with_running s c.args.hart (past_call (running_registers s c.args.hart)) in
    call_refused_by_need (call_of c.args.asked.now) (g.D.Digests.digest_of c.args.digests.now) there c.args.hart c.serve.result.answer c.serve.result.zero
    (state_in c.serve.new.self (changed c.args.hart c.serve.new.changes (λ who. zeros))) c.cite_invariant.ensures.table
    (c.serve.ensures.step (λ who. zeros))

pub returns-clause-others : goal.returns-clause-others
unfolding core_kept worlds_of core_marks
returns-clause-others g c = λ before after.
    let old = c.args.self.now.parts in
    let s = bare old in
    let there = with_running s c.args.hart (past_call (running_registers s c.args.hart)) in
    let placed = placed_from old (λ who. zeros) c.args.self.now.whole in
    let stays = others_call (call_of c.args.asked.now) (g.D.Digests.digest_of c.args.digests.now) there c.args.hart c.serve.result.answer c.serve.result.zero
    (state_in c.serve.new.self (changed c.args.hart c.serve.new.changes (λ who. zeros))) c.requires.hart
    (record { current = placed.current; alone = placed.alone; held = placed.held; marked = placed.marked }) (c.serve.ensures.step (λ who. zeros)) in
    record { worlds = stays.worlds; awake = stays.awake; views = stays.views }

pub returns-clause-zeroed : goal.returns-clause-zeroed
unfolding core_kept
returns-clause-zeroed g c =
    let s = bare c.args.self.now.parts in
    let there = with_running s c.args.hart (past_call (running_registers s c.args.hart)) in
    call_clears_memory (call_of c.args.asked.now) (g.D.Digests.digest_of c.args.digests.now) there c.args.hart c.serve.result.answer c.serve.result.zero
    (state_in c.serve.new.self (changed c.args.hart c.serve.new.changes (λ who. zeros))) c.cite_invariant.ensures.table
    (c.serve.ensures.step (λ who. zeros))
