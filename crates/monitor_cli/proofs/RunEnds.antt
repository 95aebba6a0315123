-- How measurements end.
use Rattle.std.proofs.Common.{ℕ, ◌≡◌, Bool, true, false, List, Option, refl}
use Rattle.std.specs.Io.KnownBytes.{Appends}
use Rattle.hart_sim.specs.declared.machine.Machine.{Machine}
use Rattle.hart_sim.specs.Machines.{kept_of}
use Rattle.monitor_cli.specs.Runs.{IsMeasured}
use Rattle.monitor_cli.specs.Measurements.{AreMeasures}

-- measurements that were not asked for, and those that were
pub unmeasured : (measure : Bool) (machine : Machine) (held : Option (List ℕ)) → measure ≡ false → IsMeasured measure machine held held
unmeasured false machine held e = refl
unmeasured true machine held e = cc

pub measured :
    (measure : Bool) (machine : Machine) (before after : Option (List ℕ)) → measure ≡ true
    → (text : List ℕ) × AreMeasures (kept_of machine).table 64 text × Appends before after text
    → IsMeasured measure machine before after
measured true machine before after e written = written
measured false machine before after e written = cc
