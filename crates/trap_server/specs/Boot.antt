-- The boot of the monitor.
use Rattle.std.specs.Prelude.{◌≡◌, ◌⊎◌, ◌<◌, ℕ, Bool, false, nat_lt, List, [], ◌∷◌, length, Option}
use Rattle.std.specs.Prelude.{None, Result, Ok, Err}
use Rattle.std.specs.Io.KnownBytes.{Appends, Consumes, IsAtEnd}
use Rattle.platforms.specs.Platform.{IsLayout, PlatformLayout}
use Rattle.monitor_core.specs.declared.steps.Core.{Core}
use Rattle.monitor_core.specs.declared.set_changes.SetChanges.{SetChanges}
use Rattle.monitor_core.specs.SetChanges.{no_change}
use Rattle.trap_server.specs.Sets.{bare}
use Rattle.monitor_core.specs.States.{opening_monitor}
use Rattle.enclave_table.specs.Boot.{IsBootFault, opening_table}
use Rattle.enclave_table.specs.Fewest.{FitsIn}
use Rattle.enclave_table.specs.Views.{host_view}
use Rattle.platforms.specs.declared.boot_fault.BootFault.TheVariants.{NeedsMoreEntries}
use Rattle.trap_server.specs.Platforms.{IsNoPlatform, IsPlatformFrame}
use Rattle.trap_server.specs.declared.end.EndReason.{EndReason}
use Rattle.trap_server.specs.declared.end.EndReason.TheVariants.{NotUnderstood, Platform}
use Rattle.trap_server.specs.declared.end.EndReason.TheVariants.{NeedsEntries, Memory}
use Rattle.trap_server.specs.declared.fault.ServeFault.{ServeFault}
use Rattle.trap_server.specs.declared.fault.ServeFault.TheVariants as faults
use Rattle.trap_server.specs.EndFrames.{end_bytes}
use Rattle.trap_server.specs.Answered.{IsAnswer, no_answer}
use Rattle.trap_server.specs.declared.answer.NewLists.TheVariants as renewed
use Rattle.trap_server.specs.Ends.{IsPart}

-- the reason why the first bytes are refused: they are not a platform frame, or the input ends
-- within it; the platform breaks a rule; the host's view needs too many entries; or an allocation
-- fails for a valid platform
abbrev pub RefusesFirst : EndReason → List ℕ → Option (List ℕ) → Type 0
RefusesFirst NotUnderstood read after = ((length read < 1336) × IsAtEnd after)
    ⊎ ((length read ≡ 1336) × IsNoPlatform NotUnderstood read)
RefusesFirst (Platform fault) read after = (length read ≡ 1336) × IsNoPlatform (Platform fault) read
RefusesFirst (NeedsEntries count) read after = (length read ≡ 1336) × (layout : PlatformLayout)
    × IsPlatformFrame read layout × IsBootFault layout (NeedsMoreEntries count)
RefusesFirst Memory read after = (length read ≡ 1336) × (layout : PlatformLayout)
    × IsPlatformFrame read layout

-- all harts except hart 0
abbrev pub others : ℕ → List Bool
others harts = false ∷ (nat_lt 1 harts ∷ (nat_lt 2 harts ∷ (nat_lt 3 harts ∷ [])))

-- no register set changes
abbrev pub no_changes : SetChanges
no_changes = record { first = no_change; second = no_change; third = no_change }

-- the answer to a platform: hart 0 goes on in the opening state, and all harts load the list of the
-- host; no register set changes, and no control words are given
abbrev pub IsFirstAnswer : PlatformLayout → List ℕ → Type 0
IsFirstAnswer layout bytes = IsAnswer (opening_monitor layout) None 0 no_answer None
    (others layout.harts) renewed.Host no_changes bytes

-- the reason why the loop ends before it reads a trap, and its output: on a refusal the last frame;
-- nothing if a read failed; and if a write failed, a part of the last frame or of the answer to the
-- platform
abbrev pub StopsAtFirst : ServeFault → List ℕ → List ℕ → Option (List ℕ) → Type 0
StopsAtFirst (faults.Refused refusal) read rest after = RefusesFirst refusal read after
    × (rest ≡ end_bytes refusal)
StopsAtFirst faults.Read read rest after = (length read < 1336) × (rest ≡ [])
StopsAtFirst faults.Write read rest after =
    ((refusal : EndReason) × RefusesFirst refusal read after × IsPart rest (end_bytes refusal))
    ⊎ ((layout : PlatformLayout) × (answer : List ℕ) × (length read ≡ 1336)
    × IsPlatformFrame read layout × IsFirstAnswer layout answer × IsPart rest answer)

-- the first bytes are a platform's
abbrev pub IsFirst : PlatformLayout → Option (List ℕ) → Option (List ℕ) → Type 0
IsFirst layout before after = (first : List ℕ) × (length first ≡ 1336)
    × IsPlatformFrame first layout × Consumes before after first

-- the loop ends before it reads a trap, for this reason
abbrev pub EndsAtFirst : ServeFault → Option (List ℕ) → Option (List ℕ) → Option (List ℕ)
    → Option (List ℕ) → Type 0
EndsAtFirst fault before after held holds = (read rest : List ℕ)
    × StopsAtFirst fault read rest after × Consumes before after read × Appends held holds rest

-- the platform is valid, and there are enough entries for the host's initial view
abbrev pub MayOpen : PlatformLayout → Type 0
MayOpen layout = IsLayout layout × FitsIn layout.limit (host_view (opening_table layout))

-- the platform was read and nothing written, and the monitor is in its opening state; or the loop
-- ends with a fault
abbrev pub Boots : Result Core ServeFault → Option (List ℕ) → Option (List ℕ) → Option (List ℕ)
    → Option (List ℕ) → Type 0
Boots (Ok core) before after held holds =
    (layout : PlatformLayout) × (first : List ℕ) × (length first ≡ 1336)
    × IsPlatformFrame first layout × (bare core ≡ opening_monitor layout)
    × Consumes before after first × Appends held holds [] × MayOpen layout
Boots (Err fault) before after held holds = EndsAtFirst fault before after held holds

-- as above, after the platform was read
abbrev pub BootsOn : Result Core ServeFault → PlatformLayout → Option (List ℕ) → Option (List ℕ)
    → Type 0
BootsOn (Ok core) layout held holds = (bare core ≡ opening_monitor layout)
    × Appends held holds [] × MayOpen layout
BootsOn (Err fault) layout held holds =
    (rest : List ℕ) × ((read : List ℕ) (after : Option (List ℕ)) → length read ≡ 1336
    → IsPlatformFrame read layout → StopsAtFirst fault read rest after)
    × Appends held holds rest
