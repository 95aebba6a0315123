-- The banks loaded on the harts, by hart number, and their meaning.
use Rattle.std.specs.Prelude.{◌≡◌, ◌⊎◌, ℕ, ◌<◌, true, false, List, Option, Some}
use Rattle.pmp_encoding.specs.declared.bank.Bank.{Bank}
use Rattle.pmp_encoding.specs.declared.perm.Perm.{Perm}
use Rattle.pmp_encoding.specs.declared.region.Entry.{Entry}
use Rattle.pmp_encoding.specs.Banks.{HasList, IsBankOf}
use Rattle.pmp_match.specs.Meaning.{IsFewest}
use Rattle.enclave_table.specs.Tables.{Kept}
use Rattle.hart_sim.specs.States.{MachineState}
use Rattle.enclave_table.specs.Views.{current_view}
use Rattle.monitor_core.specs.Cores.{list_of}

-- the loaded list is one of the fewest entries that mean the view, and the bank is the one that
-- they make: their canonical pairs from entry 0 on, and zero elsewhere
pub record LoadsFewest (bank : Bank) (view : ℕ → Perm) : Type 0 where
  pub list : List Entry
  pub loaded : HasList bank list
  pub fewest : IsFewest view list
  pub exact : IsBankOf bank bank.limit list

-- the bank of each hart that is not marked means the view of its world by the fewest entries
abbrev pub AreBanksRight : MachineState → (ℕ → Option Bank) → Type 0
AreBanksRight s banks =
    (hart : ℕ) (bank : Bank) → hart < s.table.layout.harts → s.marked hart ≡ false
    → banks hart ≡ Some bank → LoadsFewest bank (current_view s.table (s.worlds hart))

-- the list that an event on a hart meets: the host's if the hart is marked, because it is loaded
-- first, otherwise the loaded list
abbrev pub MeetsList : MachineState → Kept → (ℕ → Option Bank) → ℕ → List Entry → Type 0
MeetsList s kept banks hart list =
    ((s.marked hart ≡ true) × (list ≡ kept.host_list))
    ⊎ ((s.marked hart ≡ false) × (bank : Bank) × (banks hart ≡ Some bank) × HasList bank list)

-- the bank of a hart is made from the stored list of its world
abbrev pub IsOwnBank : MachineState → Kept → (ℕ → Option Bank) → ℕ → Type 0
IsOwnBank s kept banks hart = (bank : Bank) × (banks hart ≡ Some bank)
    × IsBankOf bank bank.limit (list_of kept (s.worlds hart))

-- an event on a hart loads no entries: the hart was not marked, and the table, its world and its
-- bank are unchanged
pub record LoadsNothing (old new : MachineState) (before after : ℕ → Option Bank) (hart : ℕ) :
    Type 0 where
  pub awake : old.marked hart ≡ false
  pub table : new.table ≡ old.table
  pub world : new.worlds hart ≡ old.worlds hart
  pub bank : after hart ≡ before hart
