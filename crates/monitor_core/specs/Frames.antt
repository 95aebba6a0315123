-- The conditions on which each part of a call on a hart relies, and those it preserves.
use Rattle.std.specs.Prelude.{◌≡◌, ◌≢◌, ℕ, ◌+◌, ◌^◌, ◌<◌, ◌≤◌, Bool, true, false}
use Rattle.pmp_encoding.specs.Views.{in_range, SameView}
use Rattle.pmp_encoding.specs.declared.pages.PageRange.{PageRange}
use Rattle.platforms.specs.Platform.{PlatformLayout, is_ram}
use Rattle.monitor_core.specs.declared.parts.MonitorParts.{MonitorParts}
use Rattle.monitor_core.specs.declared.set_changes.SetChanges.{SetChanges}
use Rattle.monitor_core.specs.Parts.{HoldsTogether}
use Rattle.monitor_core.specs.States.{MonitorState}
use Rattle.enclave_table.specs.Views.{current_view}
use Rattle.platforms.specs.Ranges.{has_page}

-- the hart is one of the platform, and the parts satisfy their invariant
pub record IsOn (parts : MonitorParts) (hart : ℕ) : Type 0 where
  pub known : hart < parts.table.table.layout.harts
  pub whole : HoldsTogether parts.table parts.worlds parts.marked

-- the invariant still holds, the platform is unchanged, and if the table is unchanged, so are all
-- stored lists
pub record KeepsFrame (old new : MonitorParts) : Type 0 where
  pub whole : HoldsTogether new.table new.worlds new.marked
  pub layout : new.table.table.layout ≡ old.table.table.layout
  pub lists : new.table.table ≡ old.table.table → new.table ≡ old.table

-- the second and the third change are valid, and the first is unchanged
pub record SaysLater (old new : SetChanges) : Type 0 where
  pub first : new.first ≡ old.first
  pub second : new.second.enclave ≤ 64
  pub third : new.third.enclave ≤ 64

-- the entries of the hart must be reloaded iff the table or the world on the hart changed
abbrev pub LoadsAnew : Bool → MonitorState → MonitorState → ℕ → Type 0
LoadsAnew false old new hart = (new.table ≡ old.table) × (new.worlds hart ≡ old.worlds hart)
LoadsAnew true old new hart = new.table ≡ old.table → new.worlds hart ≡ old.worlds hart → ⊥

-- every other hart stays in its world; if it is not marked afterwards, it was not marked before,
-- and its view is the same, so its loaded entries are still right
pub record KeepsOthers (s new : MonitorState) (hart : ℕ) : Type 0 where
  pub worlds : (i : ℕ) → i ≢ hart → new.worlds i ≡ s.worlds i
  pub awake : (i : ℕ) → i ≢ hart → new.marked i ≡ false → s.marked i ≡ false
  pub views : (i : ℕ) → i ≢ hart → i < s.table.layout.harts → new.marked i ≡ false
      → SameView (current_view s.table (s.worlds i)) (current_view new.table (new.worlds i))

-- the pages of the range are memory, and none belongs to the monitor
pub record ClearsMemory (layout : PlatformLayout) (range : PageRange) : Type 0 where
  pub inside : range.first + range.count ≤ 2 ^ 44
  pub in_ram : (page : ℕ) → in_range range.first range.count page ≡ true → is_ram layout page ≡ true
  pub not_monitor : (page : ℕ) → in_range range.first range.count page ≡ true
      → has_page layout.monitor page ≡ false
