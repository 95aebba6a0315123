-- The core of the monitor as seen by its caller, which stores the register sets.
use Rattle.std.specs.Prelude.{ℕ, Bool, List}
use Rattle.pmp_encoding.specs.declared.region.Entry.{Entry}
use Rattle.enclave_table.specs.Tables.{Kept, list_at}
use Rattle.sbi_decode.specs.Registers.{RegisterFile}
use Rattle.sbi_decode.specs.Runners.{Runner}
use Rattle.sbi_decode.specs.declared.world.World.{World}
use Rattle.sbi_decode.specs.declared.world.World.TheVariants.{Host, Enclave as InEnclave}
use Rattle.monitor_core.specs.declared.steps.Core.{Core}
use Rattle.monitor_core.specs.Parts.{mark_in, world_in}
use Rattle.monitor_core.specs.States.{MonitorState}

-- the table of enclaves, with the stored list of entries of each view
unfoldable pub core_kept : Core → Kept
core_kept core = core.parts.table

-- the world on each hart
unfoldable pub worlds_of : Core → ℕ → World
worlds_of core = world_in core.parts.worlds

-- the hart is marked
unfoldable pub core_marks : Core → ℕ → Bool
core_marks core = mark_in core.parts.marked

-- the state of the monitor with these register sets
abbrev pub core_state : Core → (Runner → RegisterFile) → MonitorState
core_state core sets = record {
  table = (core_kept core).table;
  worlds = worlds_of core;
  registers = sets;
  marked = core_marks core;
}

-- the stored list of a world
abbrev pub list_of : Kept → World → List Entry
list_of kept Host = kept.host_list
list_of kept (InEnclave id) = list_at kept id
