-- What is known of traps that were served to the end of the input.
use Rattle.std.proofs.Common.{ℕ, List, [], Option, Result, Ok, Err, IfOk, subst}
use Rattle.sbi_decode.specs.declared.world.World.{World}
use Rattle.platforms.specs.Platform.{IsLayout, PlatformLayout}
use Rattle.enclave_table.specs.Views.{current_view}
use Rattle.monitor_core.specs.States.{MonitorState, opening_monitor}
use Rattle.trap_server.specs.Boot.{IsFirstAnswer}
use Rattle.trap_server.specs.Firmware.{FirmwareHeadline, HasFewest, loaded_last}
use Rattle.trap_server.specs.Runs.{Ran, ServesTraps}
use Rattle.trap_server.specs.declared.fault.ServeFault.{ServeFault}
use Rattle.library_tests.specs.Served.{IsKnown}

-- what the firmware's theorem says
abbrev FirmwareHolds : Type 0
FirmwareHolds =
    (layout : PlatformLayout) (opened read written : List ℕ) (s : MonitorState) (served : ServesTraps (opening_monitor layout) read written s)
    → IsLayout layout → IsFirstAnswer layout opened → FirmwareHeadline layout opened read written s served

known_run : (law : FirmwareHolds) {before after held holds : Option (List ℕ)} (run : Ran before after held holds [] []) → IsKnown run
known_run law run =
    let f = law run.layout run.opened run.read run.written run.state run.served run.rules run.begins in (
      f,
      λ hart low host. subst (λ (w : World). HasFewest (loaded_last run.opened run.served hart) run.layout.limit (current_view run.state.table w)) host
          (f.banks hart low),
    )

pub known : (law : FirmwareHolds) (before after held holds : Option (List ℕ)) (served : Result (Unit {0}) ServeFault)
    → IfOk served (λ _. Ran before after held holds [] []) → IfOk served (λ _. (run : Ran before after held holds [] []) × IsKnown run)
known law before after held holds (Ok done) run = (run, known_run law run)
known law before after held holds (Err fault) run = tt
