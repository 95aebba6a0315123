-- Entries that are read one after the other through a window.
use Rattle.std.proofs.Common.{◌≡◌, ℕ, ◌<◌, ◌≤◌, List, [], ◌∷◌, ◌++◌, length, length-append, arith, sym, subst, ◌+◌}
use Rattle.pmp_encoding.specs.declared.region.Entry.{Entry}
use Rattle.certificate_format.specs.Spelling.{SpellsEntry, SpellsEntries}
use Rattle.certificate_check.specs.declared.stop.Stop.{Stop}
use Rattle.certificate_check.specs.declared.stop.Stop.TheVariants.{Refused, Unheld}
use Rattle.certificate_check.specs.Listed.{IsListed, EntryFault, ListFault}
use Rattle.certificate_check.specs.Windows.{StandsIn}
use Rattle.certificate_check.proofs.InTurn.{listed_append, spells_append}

-- so many entries were read, and their bytes are held
abbrev pub AreHeld : ℕ → List ℕ → List ℕ → List ℕ → Type 0
AreHeld count held left rest = (es : List Entry) × IsListed left rest es × (length es ≡ count) × SpellsEntries held es

pub held_one :
    (count next : ℕ) (held new left mid rest : List ℕ) → next ≡ count + 1 → AreHeld count held left mid
    → (e : Entry) × (front : List ℕ) × (mid ≡ front ++ rest) × SpellsEntry front e × (12 ≤ e.region.log2) × (new ≡ held ++ front) → AreHeld next new left rest
held_one count next held new left mid rest is (es, listed, all, spelled) (e, front, split, one, page, more) = (
  es ++ e ∷ [],
  listed_append left mid rest front es e listed split one page,
  (let l = length-append es (e ∷ []) in omega (arith, l, all, is)),
  subst
      (λ (xs : List ℕ). SpellsEntries xs (es ++ e ∷ [])) (sym more) (spells_append held front es e spelled one),
)

-- the stop at an entry is one at the list
pub stop_after : (count total : ℕ) (held left mid : List ℕ) (stop : Stop) → count < total → AreHeld count held left mid → StandsIn (EntryFault mid) stop
    → StandsIn (ListFault left total) stop
stop_after count total held left mid (Refused refusal) less (es, listed, all, spelled) fault = record
    { entries = es; rest = mid; before = listed; fewer = omega (arith, all, less); fault = fault }
stop_after count total held left mid Unheld less are fault = tt
