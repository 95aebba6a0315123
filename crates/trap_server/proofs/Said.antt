-- What the bytes of an answer say of register sets and control words.
use Rattle.std.proofs.Common.{◌≡◌, ◌∙◌, ℕ, ◌+◌, ◌*◌, ◌==◌, ◌<◌, ◌^◌, Bool, if◌then◌else◌, List, [], ◌++◌, length, Option, Some, None, IfSome, ap, sym, arith, lit<}
use Rattle.std.proofs.Common.{append_assoc, append-nil, length-append}
use Rattle.pmp_encoding.specs.declared.pages.PageRange.{PageRange}
use Rattle.pmp_encoding.specs.declared.region.Entry.{Entry}
use Rattle.enclave_table.specs.Enclaves.{EnclaveTable}
use Rattle.monitor_core.specs.States.{MonitorState}
use Rattle.monitor_core.specs.declared.answer.Answer.{Answer}
use Rattle.monitor_core.specs.declared.set_changes.SetChanges.{SetChanges}
use Rattle.trap_server.specs.Answered.{AreControl, AreLists, AreWords, IsAnswer, head_of}
use Rattle.trap_server.specs.Answers.{control_bytes, control_count, front_bytes, given_bytes, list_bytes, list_count, lists_bytes}
use Rattle.trap_server.specs.Given.{control_at, said_words}
use Rattle.trap_server.specs.Sets.{said_changes}
use Rattle.trap_server.specs.Words.{word_at}
use Rattle.trap_server.specs.declared.answer.Head.{Head}
use Rattle.trap_server.specs.declared.answer.NewLists.{NewLists}
use Rattle.trap_server.specs.declared.answer.NewLists.TheVariants as lists
use Rattle.trap_server.specs.declared.words.ControlWords.{ControlWords}
use Rattle.trap_server.proofs.LoadedBytes.{changes_back, control_back, control_count_back, count_back, front_length, list_length}

-- the numbers of lists and of control words are small
pub few_lists : (new : NewLists) → list_count new < 2 ^ 64
few_lists lists.Nothing = lit< tt
few_lists lists.Host = lit< tt
few_lists lists.HostAndMade = lit< tt

few_words : (given : Option ControlWords) → control_count given < 2 ^ 64
few_words None = lit< tt
few_words (Some words) = lit< tt

-- lists are as long as their number says
pub lists_length : (table : EnclaveTable) (id : ℕ) (new : NewLists) (are : List (List Entry)) → AreLists table id new are
    → length (lists_bytes are) ≡ 8 * (73 * list_count new)
lists_length table id lists.Nothing are l = ap (λ (x : List (List Entry)). length (lists_bytes x)) l
lists_length table id lists.Host are l =
    let one : length (list_bytes l.0 ++ []) ≡ 584 = ap length (append-nil (list_bytes l.0)) ∙ list_length l.0 in
    ap (λ (x : List (List Entry)). length (lists_bytes x)) l.2 ∙ one
lists_length table id lists.HostAndMade are l =
    let two : length (list_bytes l.0 ++ (list_bytes l.1 ++ [])) ≡ 1168 = omega (
      arith,
      length-append (list_bytes l.0) (list_bytes l.1 ++ []),
      length-append (list_bytes l.1) [],
      list_length l.0,
      list_length l.1,
    ) in
    ap (λ (x : List (List Entry)). length (lists_bytes x)) l.4 ∙ two

-- an answer, whose parts come one after another
module _ (s : MonitorState) (given : Option ControlWords) (hart : ℕ) (answer : Answer) (cleared : Option PageRange) (woken : List Bool) (new : NewLists)
    (changes : SetChanges) (bytes : List ℕ) (a : IsAnswer s given hart answer cleared woken new changes bytes) where
  abbrev pub head : Head
  head = head_of s hart answer a.used cleared woken new given

  abbrev pub ends : List ℕ
  ends = lists_bytes a.puts.are ++ given_bytes given

  pub put_all : bytes ≡ front_bytes head changes ++ ends
  put_all = a.ends ∙ ap (λ b. b ++ given_bytes given) a.puts.put ∙ append_assoc (front_bytes head changes) (lists_bytes a.puts.are) (given_bytes given)

  -- how many lists it has, and how many control words
  pub says_count : word_at bytes 9 ≡ list_count new
  says_count = ap (λ b. word_at b 9) put_all ∙ count_back head changes ends (few_lists new)

  pub says_control_count : word_at bytes 10 ≡ control_count given
  says_control_count = ap (λ b. word_at b 10) put_all ∙ control_count_back head changes ends (few_words given)

  -- what becomes of register sets
  pub says_changes : AreWords changes → said_changes bytes ≡ changes
  says_changes words = ap said_changes put_all ∙ changes_back head changes ends words

-- the control words that are given
words_after : (head : Head) (changes : SetChanges) (lists : List ℕ) (n : ℕ) (words : ControlWords) → length lists ≡ 8 * (73 * n) → AreControl words
    → control_at (front_bytes head changes ++ (lists ++ control_bytes words)) (23 + 73 * n) ≡ words
words_after head changes lists n words size are =
    let front = front_bytes head changes in
    let whole : length (front ++ lists) ≡ 8 * (23 + 73 * n) = omega (arith, length-append front lists, front_length head changes, size) in
    ap (λ b. control_at b (23 + 73 * n)) (sym (append_assoc front lists (control_bytes words))) ∙ control_back words (front ++ lists) (23 + 73 * n) whole are

pub says_words :
    (s : MonitorState) (given : Option ControlWords) (hart : ℕ) (answer : Answer) (cleared : Option PageRange) (woken : List Bool) (new : NewLists)
    (changes : SetChanges) (bytes : List ℕ) → IfSome given AreControl → IsAnswer s given hart answer cleared woken new changes bytes
    → said_words bytes ≡ given
says_words s None hart answer cleared woken new changes bytes fit a =
    ap (λ n. if n == 9 then Some (control_at bytes (23 + 73 * word_at bytes 9)) else None)
    (says_control_count s None hart answer cleared woken new changes bytes a)
says_words s (Some words) hart answer cleared woken new changes bytes fit a =
    ap (λ n. if n == 9 then Some (control_at bytes (23 + 73 * word_at bytes 9)) else None)
    (says_control_count s (Some words) hart answer cleared woken new changes bytes a)
    ∙ ap (λ n. Some (control_at bytes (23 + 73 * n))) (says_count s (Some words) hart answer cleared woken new changes bytes a)
    ∙ ap (λ b. Some (control_at b (23 + 73 * list_count new))) (put_all s (Some words) hart answer cleared woken new changes bytes a)
    ∙ ap (λ (w : ControlWords). Some w)
    (words_after (head s (Some words) hart answer cleared woken new changes bytes a) changes (lists_bytes a.puts.are) (list_count new) words
    (lists_length s.table answer.value new a.puts.are a.puts.lists) fit)
