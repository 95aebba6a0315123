-- What a core keeps true of the worlds on its harts, those that the platform has not too.
use Rattle.std.proofs.Common.{◌≡◌, ◌∙◌, ℕ, true, None, Some, sym, subst}
use Rattle.enclave_table.specs.Enclaves.{enclave_at}
use Rattle.enclave_table.specs.Tables.{IsCurrent}
use Rattle.sbi_decode.specs.declared.world.World.TheVariants.{Enclave as InEnclave}
use Rattle.monitor_core.specs.declared.steps.Core.{Core}
use Rattle.monitor_core.specs.Cores.{core_kept, worlds_of}
use Rattle.monitor_core.specs.Parts.{is_current}
use Rattle.monitor_core.proofs.Currents.{current_from}

-- no enclave runs on two harts
pub core_alone : (core : Core) (hart other id : ℕ) → worlds_of core hart ≡ InEnclave id → worlds_of core other ≡ InEnclave id → hart ≡ other
unfolding worlds_of
core_alone core hart other id at there = core.whole.alone hart other id at there

-- an enclave that runs is in the table
pub core_current : (core : Core) (hart id : ℕ) → worlds_of core hart ≡ InEnclave id → enclave_at (core_kept core).table.enclaves id ≡ None → ⊥
unfolding worlds_of core_kept
core_current core hart id at gone =
    let table = core.parts.table.table in
    let now : IsCurrent table (InEnclave id) = current_from table (InEnclave id) (subst (λ w. is_current table w ≡ true) at (core.whole.current hart)) in
    let z : None ≡ Some now.0 = sym gone ∙ now.1 in absurd cc
