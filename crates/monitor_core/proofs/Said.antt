-- What is said of register sets is what becomes of the state.
use Rattle.std.proofs.Common.{◌≡◌, ◌∙◌, ◌≤◌, ℕ, zero, suc, Bool, true, false, length, if◌then◌else◌, refl, ap, sym, arith}
use Rattle.std.proofs.lemmas.Bool.{eq-eqb}
use Rattle.enclave_table.specs.Enclaves.{EnclaveTable}
use Rattle.enclave_table.specs.Tables.{IsCurrent}
use Rattle.enclave_table.proofs.Places.{live_above, live_inside}
use Rattle.sbi_decode.specs.Registers.{RegisterFile, with_x, zeros}
use Rattle.sbi_decode.specs.Runners.{Runner, HostOf, EnclaveOf, IsWorld, runner_of}
use Rattle.sbi_decode.specs.declared.world.World.{World}
use Rattle.sbi_decode.specs.declared.world.World.TheVariants.{Host, Enclave as InEnclave}
use Rattle.monitor_core.specs.declared.parts.MonitorParts.{MonitorParts}
use Rattle.monitor_core.specs.declared.set_changes.ChangeKind.TheVariants as kinds
use Rattle.monitor_core.specs.declared.set_changes.SetChange.{SetChange}
use Rattle.monitor_core.specs.Changes.{back_to_host, in_world, past_call, with_registers}
use Rattle.monitor_core.specs.Frames.{LoadsAnew}
use Rattle.monitor_core.specs.Parts.{HoldsTogether, bare, state_in, world_in}
use Rattle.monitor_core.specs.SetChanges.{change, changed_by, owner_of, with_set}
use Rattle.monitor_core.specs.States.{MonitorState}
use Rattle.monitor_core.proofs.Currents.{current_from}

-- sets are the same where each one is
pub same_sets : {these those : Runner → RegisterFile} → ((who : Runner) → these who ≡ those who) → these ≡ those
same_sets each = λ i who. each who i

-- an id names its enclave
pub owner_is : (hart id : ℕ) → 1 ≤ id → owner_of hart id ≡ EnclaveOf id
owner_is hart zero low = absurd (omega (arith, low))
owner_is hart (suc n) low = refl

-- a world that is current has a set
current_world : (table : EnclaveTable) (world : World) → length table.enclaves ≡ 64 → IsCurrent table world → IsWorld world
current_world table Host places is = tt
current_world table (InEnclave id) places is =
    let inside = live_inside table.enclaves id is.0 is.1 in (
      live_above table.enclaves id is.0 is.1,
      omega (arith, inside, places),
    )

-- so does the world on each hart
pub world_has_set : (parts : MonitorParts) (hart : ℕ) → length parts.table.table.enclaves ≡ 64 → HoldsTogether parts.table parts.worlds parts.marked
    → IsWorld (world_in parts.worlds hart)
world_has_set parts hart places w =
    let world = world_in parts.worlds hart in
    current_world parts.table.table world places (current_from parts.table.table world (w.current hart))

-- one kind of change after another
pub nothing_is : (hart : ℕ) (x : SetChange) (sets : Runner → RegisterFile) → x.kind ≡ kinds.Nothing → change hart x sets ≡ sets
nothing_is hart x sets is = ap (λ kind. changed_by kind (owner_of hart x.enclave) x.enclave x.first x.second sets) is

pub passed_is : (hart : ℕ) (x : SetChange) (sets : Runner → RegisterFile) (who : Runner) → x.kind ≡ kinds.PastCall → owner_of hart x.enclave ≡ who
    → change hart x sets ≡ with_set sets who (past_call (sets who))
passed_is hart x sets who is owner =
    ap (λ kind. changed_by kind (owner_of hart x.enclave) x.enclave x.first x.second sets) is ∙ ap (λ w. with_set sets w (past_call (sets w))) owner

pub answered_is : (hart : ℕ) (x : SetChange) (sets : Runner → RegisterFile) (who : Runner) (enclave first second : ℕ)
    → x ≡ record { kind = kinds.Answer; enclave = enclave; first = first; second = second } → owner_of hart enclave ≡ who
    → change hart x sets ≡ with_set sets who (with_x (with_x (sets who) 10 first) 11 second)
answered_is hart x sets who enclave first second is owner =
    ap (λ y. change hart y sets) is ∙ ap (λ w. with_set sets w (with_x (with_x (sets w) 10 first) 11 second)) owner

pub begun_is : (hart : ℕ) (x : SetChange) (sets : Runner → RegisterFile) (id pc : ℕ) → 1 ≤ id → x.kind ≡ kinds.Begin → x.enclave ≡ id → x.first ≡ pc
    → change hart x sets ≡ with_set sets (EnclaveOf id) (with_x (record zeros { pc = pc }) 10 id)
begun_is hart x sets id pc low is enclave first =
    ap (λ kind. changed_by kind (owner_of hart x.enclave) x.enclave x.first x.second sets) is
    ∙ ap (λ n. with_set sets (owner_of hart n) (with_x (record zeros { pc = x.first }) 10 n)) enclave
    ∙ ap (λ n. with_set sets (owner_of hart id) (with_x (record zeros { pc = n }) 10 id)) first
    ∙ ap (λ w. with_set sets w (with_x (record zeros { pc = pc }) 10 id)) (owner_is hart id low)

pub cleared_is : (hart : ℕ) (x : SetChange) (sets : Runner → RegisterFile) (who : Runner) → x.kind ≡ kinds.Clear → owner_of hart x.enclave ≡ who
    → change hart x sets ≡ with_set sets who zeros
cleared_is hart x sets who is owner =
    ap (λ kind. changed_by kind (owner_of hart x.enclave) x.enclave x.first x.second sets) is ∙ ap (λ w. with_set sets w zeros) owner

-- the host of a hart goes on there, and is answered
pub back_said : (s : MonitorState) (hart first second : ℕ) (x : SetChange)
    → x ≡ record { kind = kinds.Answer; enclave = 0; first = first; second = second }
    → record (in_world s hart Host) { registers = change hart x s.registers } ≡ back_to_host s hart first second
back_said s hart first second x is =
    let back : (w : World) → MonitorState = λ w. with_registers (in_world s hart Host) (runner_of hart w)
    (with_x (with_x (s.registers (runner_of hart w)) 10 first) 11 second) in
    ap (λ sets. record (in_world s hart Host) { registers = sets }) (answered_is hart x s.registers (HostOf hart) 0 first second is refl)
    ∙ ap back (ap (λ b. if b then Host else s.worlds hart) (sym (eq-eqb hart hart refl)))

-- whether entries are to be loaded anew, no set says
pub loads_any : (load : Bool) (old new : MonitorParts) (hart : ℕ) (before after : Runner → RegisterFile) → LoadsAnew load (bare old) (bare new) hart
    → LoadsAnew load (state_in old before) (state_in new after) hart
loads_any true old new hart before after anew = anew
loads_any false old new hart before after anew = anew
