-- The pages that the words of an answer name.
use Rattle.std.proofs.Common.{◌≡◌, ◌∙◌, ℕ, ◌+◌, ◌%◌, ◌≤◌, ◌<◌, ◌^◌, List, ◌++◌, drop, Bool, Option, Some, None, IfSome, ap, lit<, arith}
use Rattle.std.proofs.Math.Nat.{div-one}
use Rattle.byteorder.specs.Endian.{little_bytes, little_number}
use Rattle.byteorder.specs.Numbers.{little_from-bytes, little_number-reads_back}
use Rattle.pmp_encoding.specs.declared.pages.PageRange.{PageRange}
use Rattle.pmp_encoding.specs.declared.region.Entry.{Entry}
use Rattle.monitor_core.specs.States.{MonitorState}
use Rattle.monitor_core.specs.declared.set_changes.SetChanges.{SetChanges}
use Rattle.monitor_core.specs.Answers.{world_number}
use Rattle.monitor_core.specs.declared.answer.Answer.{Answer}
use Rattle.trap_server.specs.declared.answer.Head.{Head}
use Rattle.trap_server.specs.declared.answer.NewLists.{NewLists}
use Rattle.trap_server.specs.declared.words.ControlWords.{ControlWords}
use Rattle.trap_server.specs.Answered.{IsAnswer, head_of}
use Rattle.trap_server.specs.Answers.{front_bytes, given_bytes, lists_bytes, pages_of}
use Rattle.trap_server.specs.Words.{word_at}

-- words 6 and 7 of some bytes are these pages
abbrev pub Names : List ℕ → PageRange → Type 0
Names bytes range = (word_at bytes 6 ≡ range.first) × (word_at bytes 7 ≡ range.count)

-- the bytes of an answer
abbrev pub whole : Head → SetChanges → List (List Entry) → Option ControlWords → List ℕ
whole head changes lists given = (front_bytes head changes ++ lists_bytes lists) ++ given_bytes given

pub whole_is :
    (s : MonitorState) (given : Option ControlWords) (hart : ℕ) (answer : Answer) (cleared : Option PageRange) (woken : List Bool) (new : NewLists)
    (changes : SetChanges) (bytes : List ℕ) (a : IsAnswer s given hart answer cleared woken new changes bytes)
    → bytes ≡ whole (head_of s hart answer a.used cleared woken new given) changes a.puts.are given
whole_is s given hart answer cleared woken new changes bytes a = a.ends ∙ ap (λ b. b ++ given_bytes given) a.puts.put

-- the words at their places are those that were put there, where they have 64 bits
in_bytes : (head : Head) (changes : SetChanges) (lists : List (List Entry)) (given : Option ControlWords) → (pages_of head.zero).first < 2 ^ 64
    → (pages_of head.zero).count < 2 ^ 64 → Names (whole head changes lists given) (pages_of head.zero)
in_bytes head changes lists given first count =
    let bytes = whole head changes lists given in
    (little_number-reads_back 8 (pages_of head.zero).first (drop 56 bytes) first, little_number-reads_back 8 (pages_of head.zero).count (drop 64 bytes) count)

-- pages in the space
small : (cleared : Option PageRange) → IfSome cleared (λ range. range.first + range.count ≤ 2 ^ 44)
    → ((pages_of cleared).first < 2 ^ 64) × ((pages_of cleared).count < 2 ^ 64)
small None inside = (lit< tt, lit< tt)
small (Some range) inside = (omega (arith, inside), omega (arith, inside))

-- an answer names the pages that are to be made zero
pub named :
    (s : MonitorState) (given : Option ControlWords) (hart : ℕ) (answer : Answer) (cleared : Option PageRange) (woken : List Bool) (new : NewLists)
    (changes : SetChanges) (bytes : List ℕ) → IsAnswer s given hart answer cleared woken new changes bytes
    → IfSome cleared (λ range. range.first + range.count ≤ 2 ^ 44) → Names bytes (pages_of cleared)
named s given hart answer cleared woken new changes bytes a inside =
    let low = small cleared inside in
    let put = in_bytes (head_of s hart answer a.used cleared woken new given) changes a.puts.are given low.0 low.1 in
    let is = whole_is s given hart answer cleared woken new changes bytes a in
    (ap (λ b. word_at b 6) is ∙ put.0, ap (λ b. word_at b 7) is ∙ put.1)

-- a word that was put, as 64 bits
put_word : (x : ℕ) (rest : List ℕ) → little_number 8 (little_bytes 8 x ++ rest) ≡ x % 2 ^ 64
put_word x rest = little_from-bytes 8 0 x rest ∙ ap (λ y. y % 256 ^ 8) (div-one x)

-- words 2 to 5 of some bytes are these, as 64 bits: the world, the status, the value, and how many entries there are
pub record Says (bytes : List ℕ) (world status value used : ℕ) : Type 0 where
  pub world_is : word_at bytes 2 ≡ world % 2 ^ 64
  pub status_is : word_at bytes 3 ≡ status % 2 ^ 64
  pub value_is : word_at bytes 4 ≡ value % 2 ^ 64
  pub used_is : word_at bytes 5 ≡ used % 2 ^ 64

pub says : (head : Head) (changes : SetChanges) (lists : List (List Entry)) (given : Option ControlWords)
    → Says (whole head changes lists given) (world_number head.world) head.status head.value head.used
says head changes lists given =
    let bytes = whole head changes lists given in
    record {
      world_is = put_word (world_number head.world) (drop 24 bytes);
      status_is = put_word head.status (drop 32 bytes);
      value_is = put_word head.value (drop 40 bytes);
      used_is = put_word head.used (drop 48 bytes);
    }
