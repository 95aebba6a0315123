use Rattle.std.proofs.Common.{◌∙◌, ℕ, ap, sym, subst}
use Rattle.enclave_table.specs.Lives.{Leaves, state_after}
use Rattle.sbi_decode.specs.Registers.{zeros}
use Rattle.sbi_decode.specs.declared.world.World.TheVariants.{Host}
use Rattle.monitor_core.specs.Changes.{in_world}
use Rattle.monitor_core.specs.Parts.{state_in, world_in}
use Rattle.monitor_core.proofs.Framed.{frame_turned}
use Rattle.monitor_core.proofs.Moved.{leaving_turns}
use Rattle.monitor_core.proofs.parts.MonitorParts.leave.Goals as goal

pub returns-clause-done : goal.returns-clause-done
returns-clause-done c =
    let old = c.args.self.now in
    let now = c.leave.new.self in
    let id = c.in-Ok.field-0 in
    let done : Leaves old.table.table (world_in old.worlds c.args.hart) (state_after c.args.leaving) id now.table = subst
    (λ w. Leaves old.table.table w (state_after c.args.leaving) id now.table) c.world-world.ensures c.in-Ok.ensures.done in (
      id,
      subst (λ k. Leaves old.table.table (world_in old.worlds c.args.hart) (state_after c.args.leaving) id k.table) (sym c.go_to.ensures.table) done,
    )

pub returns-clause-state : goal.returns-clause-state
returns-clause-state c = λ sets.
    c.go_to.ensures.state sets
    ∙ ap (λ k. in_world (record (state_in c.args.self.now sets) { table = k.table }) c.args.hart Host) (sym c.go_to.ensures.table)

pub returns-clause-frame : goal.returns-clause-frame
returns-clause-frame c =
    let old = c.args.self.now in
    let now = c.leave.new.self in
    let new = c.go_to.new.self in
    let id = c.in-Ok.field-0 in
    let done = subst (λ w. Leaves old.table.table w (state_after c.args.leaving) id now.table) c.world-world.ensures c.in-Ok.ensures.done in
    let went = λ (i : ℕ). ap (λ s. s.worlds i) (c.go_to.ensures.state (λ who. zeros)) in
    let turns = leaving_turns old.table now old.worlds new.worlds old.marked c.args.hart id c.args.leaving c.requires.on.whole done c.requires.on.known went in
    frame_turned old new now c.args.hart id Host c.requires.on.whole turns c.go_to.ensures.table c.go_to.ensures.marks c.in-Ok.ensures.lists
