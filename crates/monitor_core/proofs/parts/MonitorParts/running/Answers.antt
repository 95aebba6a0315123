use Rattle.std.proofs.Common.{◌≡◌, ◌∙◌, ap, sym, subst}
use Rattle.sbi_decode.specs.Runners.{IsWorld, runner_of}
use Rattle.sbi_decode.specs.declared.world.World.TheVariants.{Host, Enclave as InEnclave}
use Rattle.monitor_core.specs.Parts.{world_in}
use Rattle.monitor_core.proofs.Said.{owner_is, world_has_set}
use Rattle.monitor_core.proofs.parts.MonitorParts.running.Goals as goal

pub returns-in-Host-clause-owner : goal.returns-in-Host-clause-owner
returns-in-Host-clause-owner c =
    let at : Host ≡ world_in c.args.self.now.worlds c.args.hart = sym c.in-Host.is ∙ c.world.ensures in
    ap (runner_of c.args.hart) at

pub returns-in-Enclave-clause-owner : goal.returns-in-Enclave-clause-owner
returns-in-Enclave-clause-owner c =
    let p = c.args.self.now in
    let at : InEnclave c.in-Enclave.id ≡ world_in p.worlds c.args.hart = sym c.in-Enclave.is ∙ c.world.ensures in
    let there = subst IsWorld (sym at) (world_has_set p c.args.hart c.cite_invariant.ensures.table.places c.requires.whole) in
    owner_is c.args.hart c.in-Enclave.id there.0 ∙ ap (runner_of c.args.hart) at

pub returns-in-Enclave-clause-most : goal.returns-in-Enclave-clause-most
returns-in-Enclave-clause-most c =
    let p = c.args.self.now in
    let at : InEnclave c.in-Enclave.id ≡ world_in p.worlds c.args.hart = sym c.in-Enclave.is ∙ c.world.ensures in
    (subst IsWorld (sym at) (world_has_set p c.args.hart c.cite_invariant.ensures.table.places c.requires.whole)).1
