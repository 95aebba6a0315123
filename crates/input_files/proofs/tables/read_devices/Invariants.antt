use Rattle.std.proofs.Common.{◌≡◌, ◌+◌, ◌++◌, All, drop, option_map}
use Rattle.toml.specs.View.{items_view}
use Rattle.platforms.specs.Ranges.{IsRange, device_range}
use Rattle.input_files.specs.declared.breach.Breach.{Breach}
use Rattle.input_files.specs.declared.breach.TomlPath.TheVariants.{Device}
use Rattle.input_files.specs.Document.{each, device_of}
use Rattle.input_files.specs.Breaches.{IsFirst, device_checks, item_checks}
use Rattle.input_files.proofs.tables.read_devices.Given as goal

abbrev pub invariant-loop-i : goal.invariant-loop-i
invariant-loop-i l = record {
  made : each device_of (items_view l.values) ≡ option_map (λ rest. l.devices.items ++ rest) (each device_of (items_view (drop l.i l.values)));
  whole : All (λ device. IsRange (device_range device)) l.devices.items;
  first : (b : Breach) → IsFirst (item_checks device_checks Device (l.i + 1) (items_view (drop l.i l.values))) b
      → IsFirst (item_checks device_checks Device 1 (items_view l.values)) b;
}
