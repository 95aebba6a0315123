-- The position of a block relative to a run.
use Rattle.std.specs.Prelude.{◌≡◌, ℕ, ◌+◌, ◌^◌, ◌<◌, ◌≤◌, ◌⊎◌}
use Rattle.permission_map.specs.declared.runs.Run.{Run}
use Rattle.permission_map.specs.Runs.{end_of}
use Rattle.prefix_tree.specs.declared.overwrite.Overlap.{Overlap}
use Rattle.prefix_tree.specs.declared.overwrite.Overlap.TheVariants.{Apart, Within, Partly}

-- the position of the block of the 2 ^ height pages from `first` on
abbrev pub IsOverlap : Run → ℕ → ℕ → Overlap → Type 0
IsOverlap run first height Apart = (run.count ≡ 0)
    ⊎ ((end_of run ≤ first) ⊎ (first + 2 ^ height ≤ run.first))
IsOverlap run first height Within = (run.first ≤ first) × (first + 2 ^ height ≤ end_of run)
IsOverlap run first height Partly = 0 < height
