-- The answers with which harts go on.
use Rattle.std.specs.Prelude.{◌≡◌, ◌<◌, ◌+◌, ◌-◌, ◌^◌, ℕ, ℤ, negsuc, pos, zero, suc, Bool, false}
use Rattle.std.specs.Prelude.{List, [], ◌∷◌, ◌++◌, Option, None, Some}
use Rattle.pmp_encoding.specs.declared.pages.PageRange.{PageRange}
use Rattle.pmp_encoding.specs.declared.region.Entry.{Entry}
use Rattle.pmp_match.specs.Meaning.{Needs}
use Rattle.sbi_decode.specs.declared.world.World.TheVariants.{Host, Enclave as InEnclave}
use Rattle.measurement.specs.declared.request.Create.{Create}
use Rattle.enclave_table.specs.Enclaves.{EnclaveTable}
use Rattle.enclave_table.specs.Fewest.{IsListOf}
use Rattle.monitor_core.specs.declared.answer.Answer.{Answer}
use Rattle.monitor_core.specs.States.{MonitorState}
use Rattle.monitor_core.specs.SetChanges.{AreOfSets}
use Rattle.monitor_core.specs.declared.set_changes.SetChange.{SetChange}
use Rattle.monitor_core.specs.declared.set_changes.SetChanges.{SetChanges}
use Rattle.monitor_core.specs.Changes.{without_mark}
use Rattle.trap_server.specs.declared.words.ControlWords.{ControlWords}
use Rattle.trap_server.specs.declared.answer.Head.{Head}
use Rattle.trap_server.specs.declared.answer.NewLists.{NewLists}
use Rattle.trap_server.specs.declared.answer.NewLists.TheVariants as renewed
use Rattle.trap_server.specs.Answers.{front_bytes, given_bytes, lists_bytes}
use Rattle.enclave_table.specs.Views.{current_view}

-- the state without the marks of the harts below n
abbrev pub unmarked : ℕ → MonitorState → MonitorState
unmarked zero s = s
unmarked (suc n) s = without_mark (unmarked n s) n

-- the marks of the four harts
abbrev pub marks_of : MonitorState → List Bool
marks_of s = s.marked 0 ∷ (s.marked 1 ∷ (s.marked 2 ∷ (s.marked 3 ∷ [])))

-- the new lists of entries, of the host and of the new enclave with this id: each means what its
-- world may do, no shorter list does, and each hart has enough entries for it
abbrev pub AreLists : EnclaveTable → ℕ → NewLists → List (List Entry) → Type 0
AreLists table id renewed.Nothing are = are ≡ []
AreLists table id renewed.Host are =
    (host : List Entry) × IsListOf table.layout.limit (current_view table Host) host
    × (are ≡ host ∷ [])
AreLists table id renewed.HostAndMade are =
    (host made : List Entry) × IsListOf table.layout.limit (current_view table Host) host
    × IsListOf table.layout.limit (current_view table (InEnclave id)) made
    × (are ≡ host ∷ (made ∷ []))

-- the new lists were appended to some bytes
pub record PutsLists (table : EnclaveTable) (id : ℕ) (new : NewLists) (front bytes : List ℕ) :
    Type 0 where
  pub are : List (List Entry)
  pub lists : AreLists table id new are
  pub put : bytes ≡ front ++ lists_bytes are

-- the new lists after a call that asked for a creation: those of the host and of the enclave if its
-- status says that it succeeded
abbrev pub made_lists : ℤ → NewLists
made_lists (pos zero) = renewed.HostAndMade
made_lists _ = renewed.Nothing

-- the new lists after a call: the host's after a destruction, which leaves pages to zero; otherwise
-- those of the creation, if the call asked for one
abbrev pub new_lists : Option Create → Answer → Option PageRange → NewLists
new_lists asked answer (Some range) = renewed.Host
new_lists (Some asked) answer None = made_lists answer.status
new_lists None answer None = renewed.Nothing

-- a status as a 64-bit word in two's complement
abbrev pub status_word : ℤ → ℕ
status_word (pos n) = n
status_word (negsuc n) = 2 ^ 64 - (n + 1)

-- the front of an answer on a hart
abbrev pub head_of : MonitorState → ℕ → Answer → ℕ → Option PageRange → List Bool → NewLists
    → Option ControlWords → Head
head_of s hart answer used cleared woken new given =
    record {
      hart = hart;
      world = s.worlds hart;
      status = status_word answer.status;
      value = answer.value;
      used = used;
      zero = cleared;
      woken = woken;
      lists = new;
      given = given;
    }

-- the two words of a change have 64 bits
abbrev pub HasWords : SetChange → Type 0
HasWords change = (change.first < 2 ^ 64) × (change.second < 2 ^ 64)

-- each change has two 64-bit words and changes an existing set
pub record AreWords (changes : SetChanges) : Type 0 where
  pub sets : AreOfSets changes
  pub first : HasWords changes.first
  pub second : HasWords changes.second
  pub third : HasWords changes.third

-- each control word has 64 bits
pub record AreControl (words : ControlWords) : Type 0 where
  pub status : words.status < 2 ^ 64
  pub satp : words.satp < 2 ^ 64
  pub mie : words.mie < 2 ^ 64
  pub scounteren : words.scounteren < 2 ^ 64
  pub senvcfg : words.senvcfg < 2 ^ 64
  pub hstatus : words.hstatus < 2 ^ 64
  pub medeleg : words.medeleg < 2 ^ 64
  pub mideleg : words.mideleg < 2 ^ 64
  pub mode : words.mode < 2 ^ 64

-- the bytes are the answer with which a hart goes on: the number of entries that the world there
-- needs, the changes of register sets, the new lists of entries, and then the given control words
pub record IsAnswer (s : MonitorState) (given : Option ControlWords) (hart : ℕ) (answer : Answer)
    (cleared : Option PageRange) (woken : List Bool) (new : NewLists) (changes : SetChanges)
    (bytes : List ℕ) : Type 0 where
  pub used : ℕ
  pub needs : Needs (current_view s.table (s.worlds hart)) used
  pub front : List ℕ
  pub puts : PutsLists s.table answer.value new (front_bytes
      (head_of s hart answer used cleared woken new given) changes) front
  pub ends : bytes ≡ front ++ given_bytes given

-- the placeholder answer for a trap that is not a call
abbrev pub no_answer : Answer
no_answer = record { status = pos 0; value = 0 }

-- no hart of the platform is marked
abbrev pub AreAwake : MonitorState → Type 0
AreAwake s = (hart : ℕ) → hart < s.table.layout.harts → s.marked hart ≡ false
