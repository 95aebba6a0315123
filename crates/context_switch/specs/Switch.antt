-- The switch from one world to another on a hart.
use Rattle.std.specs.Prelude.{◌≡◌, ◌≢◌, Some}
use Rattle.sbi_decode.specs.declared.world.World.{World}
use Rattle.context_switch.specs.declared.hart.Hart.{Hart}
use Rattle.context_switch.specs.declared.contexts.Contexts.{Contexts}
use Rattle.sbi_decode.specs.Runners.{Runner, runner_of}
use Rattle.context_switch.specs.Contexts.{saved_of}
use Rattle.context_switch.specs.Harts.{number_of, world_of, registers_of}

-- the hart switches to another world: its registers are saved as those of the world it leaves,
-- those of the other are loaded, and every other set is unchanged
pub record Switches (old new : Hart) (before after : Contexts) (to : World) : Type 0 where
  pub saved : saved_of after (runner_of (number_of old) (world_of old)) ≡ Some (registers_of old)
  pub loaded : saved_of after (runner_of (number_of old) to) ≡ Some (registers_of new)
  pub others : (other : Runner) → other ≢ runner_of (number_of old) (world_of old)
      → saved_of after other ≡ saved_of before other
  pub world : world_of new ≡ to
  pub number : number_of new ≡ number_of old
