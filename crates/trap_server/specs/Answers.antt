-- The frame of an answer.
use Rattle.std.specs.Prelude.{ℕ, ◌+◌, ◌*◌, zero, suc, Bool, true, false, List, [], ◌∷◌, ◌++◌}
use Rattle.std.specs.Prelude.{length, slice_index_or, slice_get, Option, None, Some}
use Rattle.byteorder.specs.Endian.{little_bytes}
use Rattle.pmp_encoding.specs.declared.pages.PageRange.{PageRange}
use Rattle.pmp_encoding.specs.declared.region.Entry.{Entry}
use Rattle.pmp_encoding.specs.Encoding.{address_of, cfg_of}
use Rattle.monitor_core.specs.declared.set_changes.ChangeKind.{ChangeKind}
use Rattle.monitor_core.specs.declared.set_changes.ChangeKind.TheVariants as kinds
use Rattle.monitor_core.specs.declared.set_changes.SetChange.{SetChange}
use Rattle.monitor_core.specs.declared.set_changes.SetChanges.{SetChanges}
use Rattle.trap_server.specs.declared.words.ControlWords.{ControlWords}
use Rattle.monitor_core.specs.Answers.{world_number}
use Rattle.trap_server.specs.Words.{answer_tag, bytes_of}
use Rattle.trap_server.specs.declared.answer.Head.{Head}
use Rattle.trap_server.specs.declared.answer.NewLists.{NewLists}
use Rattle.trap_server.specs.declared.answer.NewLists.TheVariants as renewed

-- a truth value as a bit
abbrev pub bit_of : Bool → ℕ
bit_of false = 0
bit_of true = 1

-- the word with a bit for each hart that is woken
abbrev pub wake_word : List Bool → ℕ
wake_word woken =
    bit_of (slice_index_or woken 0 false) + 2 * bit_of (slice_index_or woken 1 false) + 4 * bit_of
    (slice_index_or woken 2 false) + 8 * bit_of (slice_index_or woken 3 false)

-- the range of pages, or an empty one from page 0 on
abbrev pub pages_of : Option PageRange → PageRange
pages_of None = record { first = 0; count = 0 }
pages_of (Some range) = range

-- the number of lists of entries in an answer
abbrev pub list_count : NewLists → ℕ
list_count renewed.Nothing = 0
list_count renewed.Host = 1
list_count renewed.HostAndMade = 2

-- the number of control words in an answer
abbrev pub control_count : Option ControlWords → ℕ
control_count None = 0
control_count (Some words) = 9

-- the words before the changes of register sets
abbrev pub head_bytes : Head → List ℕ
head_bytes head =
    bytes_of (answer_tag ∷ (head.hart
    ∷ (world_number head.world ∷ (head.status
    ∷ (head.value ∷ (head.used ∷ ((pages_of head.zero).first
    ∷ ((pages_of head.zero).count ∷ (wake_word head.woken
    ∷ (list_count head.lists ∷ (control_count head.given ∷ [])))))))))))

-- the number of a kind of change
abbrev pub kind_number : ChangeKind → ℕ
kind_number kinds.Nothing = 0
kind_number kinds.PastCall = 1
kind_number kinds.Answer = 2
kind_number kinds.Begin = 3
kind_number kinds.Clear = 4

-- the change of a register set: its kind, the owner of the set, and two words
abbrev pub change_bytes : SetChange → List ℕ
change_bytes change = bytes_of (kind_number change.kind ∷ (change.enclave
    ∷ (change.first ∷ (change.second ∷ []))))

-- the changes of register sets
abbrev pub changes_bytes : SetChanges → List ℕ
changes_bytes changes = change_bytes changes.first ++ change_bytes changes.second
    ++ change_bytes changes.third

-- the configuration byte of an entry, or 0 if there is none
abbrev pub cfg_in : Option Entry → ℕ
cfg_in None = 0
cfg_in (Some e) = cfg_of e

-- the address register of an entry, or 0 if there is none
abbrev pub address_in : Option Entry → ℕ
address_in None = 0
address_in (Some e) = address_of e

-- the configuration byte of entry i of a list, or 0 after its end
abbrev pub listed_cfg : List Entry → ℕ → ℕ
listed_cfg entries i = cfg_in (slice_get entries i)

-- the address register of entry i of a list, or 0 after its end
abbrev pub listed_address : List Entry → ℕ → ℕ
listed_address entries i = address_in (slice_get entries i)

-- the configuration bytes of the entries below n
abbrev pub cfg_bytes : List Entry → ℕ → List ℕ
cfg_bytes entries zero = []
cfg_bytes entries (suc n) = cfg_bytes entries n ++ (listed_cfg entries n ∷ [])

-- the address registers of the entries below n
abbrev pub address_bytes : List Entry → ℕ → List ℕ
address_bytes entries zero = []
address_bytes entries (suc n) = address_bytes entries n ++ little_bytes 8 (listed_address entries n)

-- control words in their order
abbrev pub control_bytes : ControlWords → List ℕ
control_bytes words =
    bytes_of (words.status
    ∷ (words.satp ∷ (words.mie ∷ (words.scounteren
    ∷ (words.senvcfg ∷ (words.hstatus
    ∷ (words.medeleg ∷ (words.mideleg ∷ (words.mode ∷ [])))))))))

-- the given control words, if any
abbrev pub given_bytes : Option ControlWords → List ℕ
given_bytes None = []
given_bytes (Some words) = control_bytes words

-- a list of entries as registers: their number, 64 configuration bytes and 64 address registers,
-- zero after the end of the list
abbrev pub list_bytes : List Entry → List ℕ
list_bytes entries = little_bytes 8 (length entries) ++ cfg_bytes entries 64
    ++ address_bytes entries 64

-- lists, one after another
abbrev pub lists_bytes : List (List Entry) → List ℕ
lists_bytes [] = []
lists_bytes (entries ∷ lists) = list_bytes entries ++ lists_bytes lists

-- the bytes of the frame before its lists
abbrev pub front_bytes : Head → SetChanges → List ℕ
front_bytes head changes = head_bytes head ++ changes_bytes changes
