-- The changes of the register sets of hosts and enclaves by an event on a hart.
use Rattle.std.specs.Prelude.{ℕ, zero, suc, ◌≤◌, if◌then◌else◌}
use Rattle.sbi_decode.specs.Registers.{RegisterFile, with_x, zeros}
use Rattle.sbi_decode.specs.Runners.{Runner, HostOf, EnclaveOf}
use Rattle.monitor_core.specs.Changes.{is_same, past_call}
use Rattle.monitor_core.specs.declared.set_changes.ChangeKind.{ChangeKind}
use Rattle.monitor_core.specs.declared.set_changes.ChangeKind.TheVariants as kinds
use Rattle.monitor_core.specs.declared.set_changes.SetChange.{SetChange}
use Rattle.monitor_core.specs.declared.set_changes.SetChanges.{SetChanges}

-- the owner of the set that a number names: the host of the hart for 0, otherwise the enclave with
-- that id
abbrev pub owner_of : ℕ → ℕ → Runner
owner_of hart zero = HostOf hart
owner_of hart (suc n) = EnclaveOf (suc n)

-- the sets with another one for one runner
abbrev pub with_set : (Runner → RegisterFile) → Runner → RegisterFile → Runner → RegisterFile
with_set sets who file other = if is_same other who then file else sets other

-- the sets after a change of this kind: no change; one set advances past a call instruction; two
-- words go to its a0 and a1; it becomes that of an enclave's first entry at a pc; it becomes zero
abbrev pub changed_by : ChangeKind → Runner → ℕ → ℕ → ℕ → (Runner → RegisterFile) → Runner
    → RegisterFile
changed_by kinds.Nothing who id first second sets = sets
changed_by kinds.PastCall who id first second sets = with_set sets who (past_call (sets who))
changed_by kinds.Answer who id first second sets =
    with_set sets who (with_x (with_x (sets who) 10 first) 11 second)
changed_by kinds.Begin who id first second sets =
    with_set sets who (with_x (record zeros { pc = first }) 10 id)
changed_by kinds.Clear who id first second sets = with_set sets who zeros

-- the sets after a change
abbrev pub change : ℕ → SetChange → (Runner → RegisterFile) → Runner → RegisterFile
change hart x sets =
    changed_by x.kind (owner_of hart x.enclave) x.enclave x.first x.second sets

-- the sets after the second and the third change
abbrev pub later : ℕ → SetChanges → (Runner → RegisterFile) → Runner → RegisterFile
later hart changes sets = change hart changes.third (change hart changes.second sets)

-- the sets after all changes of an event on a hart, in order
abbrev pub changed : ℕ → SetChanges → (Runner → RegisterFile) → Runner → RegisterFile
changed hart changes sets = later hart changes (change hart changes.first sets)

-- an empty change
abbrev pub no_change : SetChange
no_change = record { kind = kinds.Nothing; enclave = 0; first = 0; second = 0 }

-- each change names an existing set
pub record AreOfSets (changes : SetChanges) : Type 0 where
  pub first : changes.first.enclave ≤ 64
  pub second : changes.second.enclave ≤ 64
  pub third : changes.third.enclave ≤ 64
