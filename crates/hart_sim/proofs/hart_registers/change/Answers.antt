use Rattle.std.proofs.Common.{◌≡◌, ◌∙◌, Some, ap, sym}
use Rattle.sbi_decode.specs.Runners.{runner_of}
use Rattle.context_switch.specs.Contexts.{saved_of}
use Rattle.context_switch.specs.Harts.{number_of, with_registers, world_of}
use Rattle.monitor_core.specs.Changes.{is_same}
use Rattle.monitor_core.specs.SetChanges.{change, owner_of}
use Rattle.hart_sim.proofs.HartSets.{same_is}
use Rattle.hart_sim.proofs.SetsFollowed.{change_here, change_saved}
use Rattle.hart_sim.proofs.hart_registers.change.Goals as goal

pub returns-then-runs-clause-sets : goal.returns-then-runs-clause-sets
returns-then-runs-clause-sets c =
    let hart = c.args.here.now in
    let n = number_of hart in
    let told = c.args.told.now in
    let world = c.world-world.result in
    let own : owner_of n told.enclave ≡ runner_of n (world_of hart) =
    sym (c.world-world.ensures.owner n) ∙ ap (λ m. runner_of m world) (sym c.number.ensures.value) ∙ same_is _ _ (sym c.runs.ensures ∙ c.if-runs.true) in
    change_here hart (with_registers hart c.apply.new.set) c.args.contexts.now told own
    (ap (with_registers hart) (c.apply.ensures n ∙ ap (λ f. change n told (λ who. f) (owner_of n told.enclave)) c.registers_mut.ensures.value))

pub returns-clause-sets : goal.returns-clause-sets
returns-clause-sets c =
    let hart = c.args.here.now in
    let n = number_of hart in
    let told = c.args.told.now in
    let world = c.world-world.result in
    let owner = owner_of n told.enclave in
    let own = sym (c.world-world.ensures.owner n) in
    let first : owner ≡ runner_of c.number.result world = own ∙ ap (λ m. runner_of m world) (sym c.number.ensures.value) in
    let second : owner ≡ runner_of c.number-2.result world = own ∙ ap (λ m. runner_of m world) (sym c.number-2.ensures.value) in
    let third : owner ≡ runner_of c.number-3.result world = own ∙ ap (λ m. runner_of m world) (sym c.number-3.ensures.value) in
    change_saved hart c.args.contexts.now c.set.new.self told c.get-set.result
    (ap (λ o. is_same o (runner_of n (world_of hart))) first ∙ sym c.runs.ensures ∙ c.if-runs.false)
    (ap (saved_of c.args.contexts.now) second ∙ c.get-set.ensures)
    (ap (saved_of c.set.new.self) third ∙ c.set.ensures.value ∙ ap Some (c.apply-2.ensures n))
    (λ other differs. c.set.ensures.others other (λ e. differs (e ∙ sym third)))
