-- The checks of each call, in this order.
use Rattle.std.specs.Prelude.{◌≡◌, ℕ, true, List, false, [], ◌∷◌, ◌≢◌, ◌<◌}
use Rattle.sbi_decode.specs.declared.world.World.{World}
use Rattle.sbi_decode.specs.declared.world.World.TheVariants.{Host, Enclave as InEnclave}
use Rattle.platforms.specs.Platform.{is_ram}
use Rattle.measurement.specs.Requests.{is_private, is_shared, is_part, HasCounts, HasPlaces}
use Rattle.measurement.specs.Requests.{HasEntry}
use Rattle.enclave_table.specs.Enclaves.{EnclaveTable, Live, IsFree}
use Rattle.enclave_table.specs.declared.enclave.Enclave.{Enclave}
use Rattle.enclave_table.specs.declared.enclave.Stage.{Stage}
use Rattle.enclave_table.specs.declared.enclave.Stage.TheVariants.{Fresh, Running, Stopped}
use Rattle.enclave_table.specs.declared.life.Entering.{Entering}
use Rattle.enclave_table.specs.declared.life.Entering.TheVariants.{Run, Resume}
use Rattle.enclave_table.specs.declared.refusal.Refusal.{Refusal}
use Rattle.enclave_table.specs.declared.refusal.Refusal.TheVariants.{NotHost, NotEnclave, BadCount}
use Rattle.enclave_table.specs.declared.refusal.Refusal.TheVariants.{BadAddress, BadEntry, NotRam}
use Rattle.enclave_table.specs.declared.refusal.Refusal.TheVariants.{Overlap, TableFull, BadId}
use Rattle.enclave_table.specs.declared.refusal.Refusal.TheVariants.{BadState, BadWord}
use Rattle.measurement.specs.declared.request.Create.{Create}
use Rattle.platforms.specs.Ranges.{has_page}

-- no page belongs to the monitor or to an enclave, and none is both private and shared
pub record IsClear (table : EnclaveTable) (parts : Create) : Type 0 where
  pub owned :
      (page : ℕ) → is_part parts page ≡ true
      → (has_page table.layout.monitor page ≡ false)
      × ((id : ℕ) (e : Enclave) → Live table id e → is_part e.parts page ≡ false)
  pub apart : (page : ℕ) → is_private parts page ≡ true → is_shared parts page ≡ false

-- create: the refusals with their conditions on the stored parts, in order
abbrev pub create_checks : EnclaveTable → World → Create → List (Refusal × Type 0)
create_checks table world parts =
    (NotHost, world ≡ Host)
    ∷ ((BadCount, HasCounts parts)
    ∷ ((BadAddress, HasPlaces parts)
    ∷ ((BadEntry, HasEntry parts)
    ∷ ((NotRam, (page : ℕ) → is_part parts page ≡ true → is_ram table.layout page ≡ true)
    ∷ ((Overlap, IsClear table parts)
    ∷ ((TableFull, (id : ℕ) × IsFree table id)
    ∷ []))))))

-- the calls of the host on an enclave: the caller is the host, the id is live, and the enclave is
-- in a stage that the call requires
abbrev pub host_checks : (Stage → Type 0) → EnclaveTable → World → ℕ → List (Refusal × Type 0)
host_checks Wanted table world id =
    (NotHost, world ≡ Host)
    ∷ ((BadId, (e : Enclave) × Live table id e)
    ∷ ((BadState, (e : Enclave) → Live table id e → Wanted e.state)
    ∷ []))

-- destroy requires any stage except Running
abbrev pub MayDestroy : Stage → Type 0
MayDestroy state = state ≢ Running

-- run requires Fresh, and resume Stopped
abbrev pub state_before : Entering → Stage
state_before Run = Fresh
state_before Resume = Stopped

-- stop and exit: the caller is an enclave
abbrev pub leave_checks : World → List (Refusal × Type 0)
leave_checks world = (NotEnclave, (id : ℕ) × (world ≡ InEnclave id)) ∷ []

-- measure, for any caller: the id is live, and k is the index of one of the four words
abbrev pub word_checks : EnclaveTable → ℕ → ℕ → List (Refusal × Type 0)
word_checks table id k = (BadId, (e : Enclave) × Live table id e) ∷ ((BadWord, k < 4) ∷ [])
