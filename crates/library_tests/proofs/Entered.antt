-- An enclave that the host has entered runs.
use Rattle.std.proofs.Common.{◌≡◌, ◌∙◌, ℕ, Some, refl, ap}
use Rattle.sbi_decode.specs.declared.world.World.TheVariants.{Host, Enclave as InEnclave}
use Rattle.enclave_table.specs.Enclaves.{EnclaveTable, enclave_at}
use Rattle.enclave_table.specs.Tables.{IsCurrent}
use Rattle.enclave_table.specs.Lives.{Enters}
use Rattle.enclave_table.specs.declared.enclave.Enclave.{Enclave}
use Rattle.enclave_table.specs.declared.enclave.Stage.TheVariants.{Running}
use Rattle.enclave_table.specs.declared.life.Entering.{Entering}
use Rattle.enclave_table.proofs.Places.{live_above, live_inside, set_same}
use Rattle.enclave_table.specs.Checks.{state_before}

pub entered : (old new : EnclaveTable) (id : ℕ) (entering : Entering) → Enters old Host id (state_before entering) new → IsCurrent new (InEnclave id)
entered old new id entering by =
    let e : Enclave = by.turned.0 in
    let running : Enclave = record e { state = Running } in
    let place : enclave_at new.enclaves id ≡ Some running = ap (λ t. enclave_at t.enclaves id) by.turned.2
    ∙ set_same old.enclaves id (Some running) (live_above old.enclaves id e by.turned.1) (live_inside old.enclaves id e by.turned.1) in
    (running, place, refl)
