-- Entries one after the other.
use Rattle.std.proofs.Common.{◌≡◌, ℕ, ◌+◌, ◌^◌, ◌<◌, ◌≤◌, ⊎_elim, List, [], ◌∷◌, ◌++◌, length, append_assoc, arith, sym, ap, refl, ◌∙◌}
use Rattle.std.proofs.lemmas.List.{append-nil}
use Rattle.pmp_encoding.specs.declared.region.Entry.{Entry}
use Rattle.pmp_encoding.specs.Encoding.{MeansEntry}
use Rattle.certificate_format.specs.declared.fault.ReadFault.{ReadFault}
use Rattle.certificate_format.specs.declared.fault.ReadFault.TheVariants as Read
use Rattle.certificate_format.specs.Faults.{ShortFault}
use Rattle.certificate_format.specs.Spelling.{SpellsEntry, SpellsEntries, AreNoSubPages}
use Rattle.certificate_check.specs.Refusals.{refusal_of}
use Rattle.certificate_check.specs.Listed.{IsListed, EntryFault}

-- the address of a pair that means an entry has eight bytes
pub means_small : (cfg address : ℕ) (e : Entry) → MeansEntry cfg address e → address < 2 ^ 64
means_small cfg address e m = ⊎_elim (λ a. let small = a.small in omega arith) (λ a. let small = a.small in omega arith) m

-- too few bytes for an entry
pub short_entry : (bytes : List ℕ) (fault : ReadFault) → ShortFault 9 bytes fault → EntryFault bytes (refusal_of fault)
short_entry bytes Read.Truncated h = h
short_entry bytes Read.BadMagic h = absurd h
short_entry bytes Read.BadVersion h = absurd h
short_entry bytes Read.BadTag h = absurd h
short_entry bytes Read.BadPerm h = absurd h
short_entry bytes Read.BadLimit h = absurd h

-- one more entry after the others
pub spells_append : (a front : List ℕ) (es : List Entry) (e : Entry) → SpellsEntries a es → SpellsEntry front e → SpellsEntries (a ++ front) (es ++ e ∷ [])
spells_append a front [] e h one = (front, [], ap (λ xs. xs ++ front) h ∙ sym (append-nil front), one, refl)
spells_append a front (d ∷ es) e (first, rest, split, here, later) one =
    (first, rest ++ front, ap (λ xs. xs ++ front) split ∙ append_assoc first rest front, here, spells_append rest front es e later one)

pages_append : (es : List Entry) (e : Entry) → AreNoSubPages es → 12 ≤ e.region.log2 → AreNoSubPages (es ++ e ∷ [])
pages_append [] e h page = (page, tt)
pages_append (d ∷ es) e h page = (h.0, pages_append es e h.1 page)

pub listed_append :
    (bytes mid rest front : List ℕ) (es : List Entry) (e : Entry) → IsListed bytes mid es → mid ≡ front ++ rest → SpellsEntry front e → 12 ≤ e.region.log2
    → IsListed bytes rest (es ++ e ∷ [])
listed_append bytes mid rest front es e h split one page = record {
  listed = h.listed ++ front;
  split = h.split ∙ ap (λ xs. h.listed ++ xs) split ∙ sym (append_assoc h.listed front rest);
  spelled = spells_append h.listed front es e h.spelled one;
  pages = pages_append es e h.pages page;
}

-- the first of the entries, and the others
pub record IsNextEntry (bytes rest : List ℕ) (count : ℕ) : Type 0 where
  pub entry : Entry
  pub front : List ℕ
  pub behind : List ℕ
  pub split : bytes ≡ front ++ behind
  pub spells : SpellsEntry front entry
  pub page : 12 ≤ entry.region.log2
  pub later : List Entry
  pub listed : IsListed behind rest later
  pub fewer : length later + 1 ≡ count

pub next_entry : (bytes rest : List ℕ) (es : List Entry) → IsListed bytes rest es → 0 < length es → IsNextEntry bytes rest (length es)
next_entry bytes rest [] h some = absurd (omega arith)
next_entry bytes rest (e ∷ es) h some =
    let parts = h.spelled in
    record {
      entry = e;
      front = parts.0;
      behind = parts.1 ++ rest;
      split = h.split ∙ ap (λ xs. xs ++ rest) parts.2 ∙ append_assoc parts.0 parts.1 rest;
      spells = parts.3;
      page = h.pages.0;
      later = es;
      listed = record { listed = parts.1; split = refl; spelled = parts.4; pages = h.pages.1 };
      fewer = omega arith;
    }

pub no_entry : (bytes rest : List ℕ) (es : List Entry) → IsListed bytes rest es → length es ≡ 0 → bytes ≡ rest
no_entry bytes rest [] h none = h.split ∙ ap (λ xs. xs ++ rest) h.spelled
no_entry bytes rest (e ∷ es) h none = absurd (omega arith)
