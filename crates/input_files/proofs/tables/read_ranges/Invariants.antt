use Rattle.std.proofs.Common.{◌≡◌, ◌+◌, ◌++◌, All, drop, option_map}
use Rattle.toml.specs.View.{items_view}
use Rattle.platforms.specs.Ranges.{IsRange}
use Rattle.input_files.specs.declared.breach.Breach.{Breach}
use Rattle.input_files.specs.declared.breach.TomlPath.TheVariants.{Ram}
use Rattle.input_files.specs.Document.{each, range_of}
use Rattle.input_files.specs.Breaches.{IsFirst, range_checks, item_checks}
use Rattle.input_files.proofs.tables.read_ranges.Given as goal

abbrev pub invariant-loop-i : goal.invariant-loop-i
invariant-loop-i l = record {
  made : each range_of (items_view l.values) ≡ option_map (λ rest. l.ranges.items ++ rest) (each range_of (items_view (drop l.i l.values)));
  whole : All IsRange l.ranges.items;
  first : (b : Breach) → IsFirst (item_checks range_checks Ram (l.i + 1) (items_view (drop l.i l.values))) b
      → IsFirst (item_checks range_checks Ram 1 (items_view l.values)) b;
}
