-- The views of worlds where the table changed at one id.
use Rattle.std.proofs.Common.{◌≡◌, ◌≢◌, ◌∙◌, ⊎_elim, ℕ, ◌-◌, ◌≤◌, true, false, Option, Some, set, ap, sym}
use Rattle.std.proofs.lemmas.Bool.{cases_eq}
use Rattle.permission_map.specs.Views.{SameView}
use Rattle.enclave_table.specs.Enclaves.{EnclaveTable, Live, enclave_at, with_enclave}
use Rattle.enclave_table.specs.declared.enclave.Enclave.{Enclave}
use Rattle.enclave_table.specs.Views.{enclave_view}
use Rattle.enclave_table.proofs.Places.{live_above, live_inside, set_same, set_other}
use Rattle.enclave_table.proofs.ShortNames.{view_in}
use Rattle.enclave_table.proofs.Replaced.{same_host_view}
use Rattle.sbi_decode.specs.declared.world.World.{World}
use Rattle.sbi_decode.specs.declared.world.World.TheVariants.{Host, Enclave as InEnclave}
use Rattle.monitor_core.specs.States.{view_of}
use Rattle.monitor_core.specs.Changes.{is_host}

-- a world that is not the enclave of an id has the same view where only that id changed
pub view_other : (table : EnclaveTable) (id : ℕ) (slot : Option Enclave) (world : World) → 1 ≤ id → world ≢ InEnclave id → is_host world ≡ false
    → SameView (view_of table world) (view_of (with_enclave table id slot) world)
view_other table id slot Host above other not = absurd (let h : true ≡ false = not in cc)
view_other table id slot (InEnclave k) above other not = λ page small. ap (λ o. view_in o page)
    (sym (set_other table.enclaves id k slot above (λ e. other (ap InEnclave e))))

-- where another enclave with the same parts stands in the place of one, every world has the same view
pub view_replaced : (table : EnclaveTable) (id : ℕ) (e f : Enclave) (world : World) → Live table id e → f.parts ≡ e.parts
    → SameView (view_of table world) (view_of (with_enclave table id (Some f)) world)
view_replaced table id e f Host live parts = same_host_view table id e f live parts
view_replaced table id e f (InEnclave k) live parts = λ page small. ⊎_elim
    (λ same.
    let was : view_in (enclave_at table.enclaves k) page ≡ view_in (Some e) page = ap (λ o. view_in o page) (ap (enclave_at table.enclaves) same ∙ live) in
    let now : view_in (enclave_at (set table.enclaves (id - 1) (Some f)) k) page ≡ view_in (Some f) page =
    ap (λ o. view_in o page) (ap (enclave_at (set table.enclaves (id - 1) (Some f))) same
    ∙ set_same table.enclaves id (Some f) (live_above table.enclaves id e live) (live_inside table.enclaves id e live)) in
    was ∙ sym (now ∙ ap (λ p. enclave_view p page) parts))
    (λ differ. ap (λ o. view_in o page) (sym (set_other table.enclaves id k (Some f) (live_above table.enclaves id e live) differ)))
    (cases_eq k id)
