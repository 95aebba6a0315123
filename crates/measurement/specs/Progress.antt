-- The progress of a measurement.
use Rattle.std.specs.Prelude.{ℕ, List, ◌++◌}
use Rattle.std.specs.List.{concat}
use Rattle.sha2.specs.Hashers.{Holds256}
use Rattle.measurement.specs.declared.measured.Layout.{Layout}
use Rattle.measurement.specs.declared.measure.Measure.{Measure}
use Rattle.measurement.specs.Measured.{layout_bytes}

-- the measurement has taken in this layout and these pages, and nothing else
abbrev pub HasMeasured : Measure → Layout → List (List ℕ) → Type 0
HasMeasured measure layout pages = Holds256 measure.hasher (layout_bytes layout ++ concat pages)
