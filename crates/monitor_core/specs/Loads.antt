-- The entries loaded on the harts if the caller of the monitor follows its requests.
use Rattle.std.specs.Prelude.{◌≡◌, ◌≢◌, ℕ, ◌<◌, Bool, true, false, List}
use Rattle.pmp_encoding.specs.declared.region.Entry.{Entry}
use Rattle.pmp_match.specs.Meaning.{IsFewest}
use Rattle.monitor_core.specs.Changes.{without_mark}
use Rattle.monitor_core.specs.Frames.{KeepsOthers, LoadsAnew}
use Rattle.monitor_core.specs.States.{MonitorState}
use Rattle.enclave_table.specs.Views.{current_view}

-- each hart that is not marked has loaded a shortest list that means the view of its world
abbrev pub AreLoaded : MonitorState → (ℕ → List Entry) → Type 0
AreLoaded s loaded = (hart : ℕ) → hart < s.table.layout.harts → s.marked hart ≡ false
    → IsFewest (current_view s.table (s.worlds hart)) (loaded hart)

-- these entries are loaded on the hart if requested, and nothing else changes on any hart
pub record LoadsAsTold (load : Bool) (hart : ℕ) (entries : List Entry) (before after : ℕ
    → List Entry) : Type 0 where
  pub told : load ≡ true → after hart ≡ entries
  pub kept : load ≡ false → after hart ≡ before hart
  pub others : (other : ℕ) → other ≢ hart → after other ≡ before other

-- calls and interrupts on a hart preserve this, and so does waking a hart
pub record KeepsLoaded : Type 0 where
  pub served :
      (old new : MonitorState) (hart : ℕ) (load : Bool) (entries : List Entry) (before after : ℕ
      → List Entry)
      → old.marked hart ≡ false → new.table.layout ≡ old.table.layout → LoadsAnew load old new hart
      → KeepsOthers old new hart → IsFewest (current_view new.table (new.worlds hart)) entries
      → LoadsAsTold load hart entries before after → AreLoaded old before → AreLoaded new after
  pub woken :
      (old : MonitorState) (hart : ℕ) (entries : List Entry) (before after : ℕ → List Entry)
      → IsFewest (current_view old.table (old.worlds hart)) entries
      → LoadsAsTold true hart entries before after → AreLoaded old before
      → AreLoaded (without_mark old hart) after
