-- The entries of a certificate.
use Rattle.std.specs.Prelude.{◌≡◌, ℕ, ◌<◌, ◌^◌, List, ◌++◌, length, Result, MatchResult}
use Rattle.pmp_encoding.specs.declared.region.Entry.{Entry}
use Rattle.pmp_encoding.specs.Encoding.{MeansEntry}
use Rattle.certificate_format.specs.Spelling.{pair_bytes, SpellsEntries, AreNoSubPages}
use Rattle.certificate_check.specs.declared.refusal.CheckRefusal.{CheckRefusal}
use Rattle.certificate_check.specs.declared.refusal.CheckRefusal.TheVariants.{Truncated, BadEntry}
use Rattle.certificate_check.specs.declared.refusal.CheckRefusal.TheVariants.{SubPageEntry}

-- the bytes are those of the entries, each of at least a page, followed by the rest
pub record IsListed (bytes rest : List ℕ) (entries : List Entry) : Type 0 where
  pub listed : List ℕ
  pub split : bytes ≡ listed ++ rest
  pub spelled : SpellsEntries listed entries
  pub pages : AreNoSubPages entries

-- the bytes are that many entries followed by the rest
abbrev pub AreListed : ℕ → List ℕ → List ℕ → Type 0
AreListed count bytes rest = (es : List Entry) × IsListed bytes rest es × (length es ≡ count)

-- the nine bytes of an entry contain the fault of a refusal
abbrev pub EntryFault : List ℕ → CheckRefusal → Type 0
EntryFault bytes Truncated = length bytes < 9
EntryFault bytes BadEntry = (pair : ℕ × ℕ) × (rest : List ℕ) × (bytes ≡ pair_bytes pair ++ rest)
    × (pair.1 < 2 ^ 64) × ((e : Entry) → MeansEntry pair.0 pair.1 e → ⊥)
EntryFault bytes SubPageEntry = (pair : ℕ × ℕ) × (rest : List ℕ) × (bytes ≡ pair_bytes pair ++ rest)
    × (e : Entry) × MeansEntry pair.0 pair.1 e × (e.region.log2 < 12)
EntryFault bytes _ = ⊥

-- the fault is in an entry, after valid entries
pub record ListFault (bytes : List ℕ) (count : ℕ) (refusal : CheckRefusal) : Type 0 where
  pub entries : List Entry
  pub rest : List ℕ
  pub before : IsListed bytes rest entries
  pub fewer : length entries < count
  pub fault : EntryFault rest refusal

-- the result for such bytes: the bytes of the entries, with the rest unread
abbrev pub IsListAnswer : List Entry → List ℕ → Result (List ℕ) CheckRefusal → List ℕ → Type 0
IsListAnswer entries rest answer left =
    MatchResult answer (λ list. SpellsEntries list entries × (left ≡ rest)) (λ _. ⊥)
