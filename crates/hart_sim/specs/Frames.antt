-- The conditions on which each part of an event on a hart relies, and those it preserves.
use Rattle.std.specs.Prelude.{◌≡◌, ◌≢◌, ◌⊎◌, ℕ, ◌<◌, false}
use Rattle.monitor_core.specs.Cores.{core_kept}
use Rattle.hart_sim.specs.declared.parts.MachineParts.{MachineParts}
use Rattle.hart_sim.specs.Banks.{AreBanksRight, IsOwnBank, LoadsNothing}
use Rattle.hart_sim.specs.Parts.{FitTogether, state_in, bank_in}

-- the hart is one of the platform, and the parts are consistent
pub record IsOn (parts : MachineParts) (hart : ℕ) : Type 0 where
  pub known : hart < (state_in parts).table.layout.harts
  pub fit : FitTogether parts

-- the platform is unchanged, and the parts are still consistent. Right banks stay right, those of
-- the other harts are unchanged, and so is the hart's own if table and world are. If the hart loads
-- entries, its bank is made from them. If the table is unchanged, so is every stored list
pub record KeepsFrame (old new : MachineParts) (hart : ℕ) : Type 0 where
  pub layout : (state_in new).table.layout ≡ (state_in old).table.layout
  pub fit : FitTogether new
  pub banks : AreBanksRight (state_in old) (bank_in old)
      → AreBanksRight (state_in new) (bank_in new)
  pub others : (other : ℕ) → other ≢ hart → bank_in new other ≡ bank_in old other
  pub stays : (state_in old).marked hart ≡ false → (state_in new).table ≡ (state_in old).table
      → (state_in new).worlds hart ≡ (state_in old).worlds hart
      → bank_in new hart ≡ bank_in old hart
  pub loads : IsOwnBank (state_in new) (core_kept new.core) (bank_in new) hart
      ⊎ LoadsNothing (state_in old) (state_in new) (bank_in old) (bank_in new) hart
  pub lists : (state_in new).table ≡ (state_in old).table
      → core_kept new.core ≡ core_kept old.core
