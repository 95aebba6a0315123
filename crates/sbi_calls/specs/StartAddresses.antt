-- The addresses where a hart may begin. (SBI, chapter 9, "Hart start": not prohibited by PMP)
use Rattle.std.specs.Prelude.{◌≡◌, ◌↔◌, ℕ, Bool, true, List, take, ◌&&◌, if◌then◌else◌, is_ok}
use Rattle.std.specs.Prelude.{slice_index}
use Rattle.pmp_encoding.specs.declared.region.Entry.{Entry}
use Rattle.pmp_encoding.specs.Lists.{MeansList}
use Rattle.pmp_encoding.specs.Registers.{cfg_byte, pairs_from}
use Rattle.pmp_match.specs.declared.access.Access.{Access}
use Rattle.pmp_match.specs.declared.access.Kind.TheVariants.{Fetch}
use Rattle.pmp_match.specs.declared.access.Mode.TheVariants.{Supervisor}
use Rattle.pmp_match.specs.Accesses.{contains_all, meets}
use Rattle.pmp_match.specs.Decision.{allows}
use Rattle.pmp_match.specs.Judgement.{judgement}
use Rattle.pmp_match.specs.Kinds.{holds}
use Rattle.sbi_calls.specs.declared.bank_words.BankWords.{BankWords}

-- the first fetch of supervisor mode at an address, of two bytes
abbrev pub fetch_at : ℕ → Access
fetch_at address = record {
  mode = Supervisor;
  kind = Fetch;
  size = 2;
  address = address;
  sized = λ i. true;
}

-- the decision of an entry on an access below machine mode; `below` is that of the entries after it
abbrev pub answer_of : Entry → Access → Bool → Bool
answer_of e a below = if meets e.region a
    then contains_all e.region a && holds e.perm a.kind
    else below

-- the register pair of an entry
abbrev pub pair_at : BankWords → ℕ → ℕ × ℕ
pair_at bank place = (cfg_byte bank.cfg place, slice_index bank.addr place)

-- each list that the pairs encode gives the fetch this answer
abbrev pub ListsAnswer : List (ℕ × ℕ) → ℕ → Bool → Type 0
ListsAnswer pairs address answer = (entries : List Entry)
    → MeansList pairs entries → answer ≡ allows entries (fetch_at address)

-- the first pairs, up to some place, encode a list that permits the fetch
abbrev pub FirstPermit : List (ℕ × ℕ) → ℕ → Type 0
FirstPermit pairs address = (count : ℕ) × (entries : List Entry)
    × MeansList (take count pairs) entries
    × (is_ok (judgement entries (fetch_at address)) ≡ true)

-- as above, judged by the list alone, whether or not the address is even and in the address space
abbrev pub FirstAllow : List (ℕ × ℕ) → ℕ → Type 0
FirstAllow pairs address = (count : ℕ) × (entries : List Entry)
    × MeansList (take count pairs) entries × (allows entries (fetch_at address) ≡ true)

-- the entries of a hart permit the fetch iff the answer is true
pub record IsExecutable (bank : BankWords) (address : ℕ) (answer : Bool) : Type 0 where
  -- by the list that all registers encode
  pub list : (entries : List Entry) → MeansList (pairs_from bank.cfg bank.addr 0 64) entries
      → answer ≡ is_ok (judgement entries (fetch_at address))
  -- and by the list before the first pair that encodes no entry, if there is one: that pair and
  -- those after it deny the fetch
  pub first : (answer ≡ true) ↔ FirstPermit (pairs_from bank.cfg bank.addr 0 64) address
