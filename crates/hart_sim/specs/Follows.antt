-- The changes of a hart and the saved registers after an event there.
use Rattle.std.specs.Prelude.{◌≡◌, Bool, true, false, [], ◌∷◌}
use Rattle.pmp_encoding.specs.Banks.{HasList, IsBankOf}
use Rattle.pmp_encoding.specs.Limits.{limit_number}
use Rattle.pmp_match.specs.Meaning.{IsFewest}
use Rattle.enclave_table.specs.Views.{current_view}
use Rattle.sbi_decode.specs.Runners.{Runner}
use Rattle.context_switch.specs.declared.contexts.Contexts.{Contexts}
use Rattle.context_switch.specs.declared.hart.Hart.{Hart}
use Rattle.context_switch.specs.Harts.{number_of, world_of, bank_of}
use Rattle.monitor_core.specs.Cores.{core_kept, list_of, worlds_of}
use Rattle.monitor_core.specs.SetChanges.{changed}
use Rattle.monitor_core.specs.declared.set_changes.SetChanges.{SetChanges}
use Rattle.monitor_core.specs.declared.steps.Core.{Core}
use Rattle.hart_sim.specs.Parts.{registers_in}

-- the hart runs the world that the core assigns, and its bank is made from the fewest entries of
-- that world's view
pub record Loads (core : Core) (was now : Hart) : Type 0 where
  pub world : world_of now ≡ worlds_of core (number_of was)
  pub list : HasList (bank_of now) (list_of (core_kept core) (worlds_of core (number_of was)))
  pub exact : IsBankOf (bank_of now) (bank_of now).limit
      (list_of (core_kept core) (worlds_of core (number_of was)))
  pub fewest : IsFewest (current_view (core_kept core).table (worlds_of core (number_of was)))
      (list_of (core_kept core) (worlds_of core (number_of was)))

-- the registers on the hart and the saved ones change as the monitor reports. If requested, the
-- hart loads the entries of its world; otherwise its world and bank stay the same
pub record Follows (core : Core) (changes : SetChanges) (load : Bool) (was now : Hart)
    (before after : Contexts) : Type 0 where
  pub sets : (who : Runner) → registers_in (now ∷ []) after who
      ≡ changed (number_of was) changes (registers_in (was ∷ []) before) who
  pub number : number_of now ≡ number_of was
  pub limited : limit_number (bank_of now).limit
      ≡ limit_number (core_kept core).table.layout.limit
  pub loaded : load ≡ true → Loads core was now
  pub stays : load ≡ false → (world_of now ≡ world_of was) × (bank_of now ≡ bank_of was)
