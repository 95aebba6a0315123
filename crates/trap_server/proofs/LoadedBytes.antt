-- What stands in the bytes of an answer: its first words, and lists of entries as registers.
use Rattle.std.proofs.Common.{◌≡◌, ◌∙◌, ℕ, zero, suc, ◌+◌, ◌*◌, ◌/◌, ◌%◌, ◌^◌, ◌<◌, ◌≤◌, ◌==◌, ⊎_elim, Bool, true, false, List, [], ◌∷◌, ◌++◌}
use Rattle.std.proofs.Common.{length, drop, slice_get, slice_index_or, Option, Some, None, ap, sym, subst, refl, arith, lit<, lit≤, append_assoc, append-nil, length-append}
use Rattle.std.proofs.Math.Seq.{drop-append_seam}
use Rattle.std.proofs.lemmas.Bool.{cases_lt}
use Rattle.byteorder.specs.Endian.{little_bytes, little_number}
use Rattle.byteorder.specs.Numbers.{little_number-reads_back}
use Rattle.pmp_encoding.specs.declared.region.Entry.{Entry}
use Rattle.pmp_encoding.specs.declared.limit.Limit.{Limit}
use Rattle.pmp_encoding.specs.Encoding.{address_of, cfg_of}
use Rattle.pmp_encoding.specs.Limits.{limit_number}
use Rattle.pmp_encoding.specs.Lists.{MeansList, done, keep, skip}
use Rattle.pmp_encoding.proofs.Filled.{limit_most, zero_off}
use Rattle.pmp_encoding.proofs.Pairs.{pair_is}
use Rattle.monitor_core.specs.declared.set_changes.ChangeKind.{ChangeKind}
use Rattle.monitor_core.specs.declared.set_changes.ChangeKind.TheVariants as kinds
use Rattle.monitor_core.specs.declared.set_changes.SetChange.{SetChange}
use Rattle.monitor_core.specs.declared.set_changes.SetChanges.{SetChanges}
use Rattle.trap_server.specs.Answered.{AreControl, AreWords}
use Rattle.trap_server.specs.Given.{control_at}
use Rattle.trap_server.specs.Sets.{change_at, kind_by, said_changes}
use Rattle.trap_server.specs.declared.answer.Head.{Head}
use Rattle.trap_server.specs.declared.words.ControlWords.{ControlWords}
use Rattle.trap_server.specs.Words.{answer_tag, bytes_of, word_at}
use Rattle.monitor_core.specs.Answers.{world_number}
use Rattle.trap_server.specs.Answers.{listed_address, address_bytes, address_in, bit_of, listed_cfg, cfg_bytes, cfg_in, changes_bytes, control_bytes, control_count, front_bytes, head_bytes}
use Rattle.trap_server.specs.Answers.{kind_number, list_bytes, list_count, lists_bytes, pages_of, wake_word}
use Rattle.trap_server.specs.Firmware.{loaded_address, loaded_cfg, loaded_pairs}
use Rattle.trap_server.proofs.Lengths.{cfg_length, word_length}

-- the word after a front of whole words
word_after : (front rest : List ℕ) (n x : ℕ) → length front ≡ 8 * n → x < 2 ^ 64 → word_at (front ++ (little_bytes 8 x ++ rest)) n ≡ x
word_after front rest n x size small =
    ap (λ k. little_number 8 (drop k (front ++ (little_bytes 8 x ++ rest)))) (sym size)
    ∙ ap (little_number 8) (drop-append_seam front (little_bytes 8 x ++ rest)) ∙ little_number-reads_back 8 x rest small

-- word k of some, after n words and before any
word_between : (words front rest : List ℕ) (n k : ℕ) → length front ≡ 8 * n → k < length words → slice_index_or words k 0 < 2 ^ 64
    → word_at (front ++ (bytes_of words ++ rest)) (n + k) ≡ slice_index_or words k 0
word_between [] front rest n k size inside small = absurd (omega (arith, inside))
word_between (x ∷ words) front rest n zero size inside small =
    let same : n + zero ≡ n = omega arith in
    ap (word_at (front ++ (bytes_of (x ∷ words) ++ rest))) same
    ∙ ap (λ bytes. word_at (front ++ bytes) n) (append_assoc (little_bytes 8 x) (bytes_of words) rest)
    ∙ word_after front (bytes_of words ++ rest) n x size small
word_between (x ∷ words) front rest n (suc k) size inside small =
    let same : n + suc k ≡ (n + 1) + k = omega arith in
    let more : length (front ++ little_bytes 8 x) ≡ 8 * (n + 1) = omega (arith, length-append front (little_bytes 8 x), word_length x, size) in
    ap (word_at (front ++ (bytes_of (x ∷ words) ++ rest))) same
    ∙ ap (λ bytes. word_at (front ++ bytes) ((n + 1) + k)) (append_assoc (little_bytes 8 x) (bytes_of words) rest)
    ∙ ap (λ bytes. word_at bytes ((n + 1) + k)) (sym (append_assoc front (little_bytes 8 x) (bytes_of words ++ rest)))
    ∙ word_between words (front ++ little_bytes 8 x) rest (n + 1) k more (omega (arith, inside)) small

-- what stands at a place past a front
index_after : (front rest : List ℕ) (n i : ℕ) → length front ≡ n → slice_index_or (front ++ rest) (n + i) 0 ≡ slice_index_or rest i 0
index_after [] rest n i size = ap (λ k. slice_index_or rest k 0) (let same : n + i ≡ i = omega (arith, sym size) in same)
index_after (x ∷ front) rest zero i size = absurd (let e : suc (length front) ≡ 0 = size in omega (arith, e))
index_after (x ∷ front) rest (suc n) i size =
    let less : length front ≡ n = omega (arith, size) in
    ap (λ k. slice_index_or (x ∷ (front ++ rest)) k 0) (let same : suc n + i ≡ suc (n + i) = omega arith in same) ∙ index_after front rest n i less

address_length : (entries : List Entry) (n : ℕ) → length (address_bytes entries n) ≡ 8 * n
address_length entries zero = refl
address_length entries (suc n) = omega (
  arith,
  length-append (address_bytes entries n) (little_bytes 8 (listed_address entries n)),
  word_length
      (listed_address entries n),
  address_length entries n,
)

-- the configuration byte of entry i
cfg_there : (entries : List Entry) (rest : List ℕ) (n i : ℕ) → i < n → slice_index_or (cfg_bytes entries n ++ rest) i 0 ≡ listed_cfg entries i
cfg_there entries rest zero i low = absurd (omega (arith, low))
cfg_there entries rest (suc n) i low =
    ap (λ bytes. slice_index_or bytes i 0) (append_assoc (cfg_bytes entries n) (listed_cfg entries n ∷ []) rest)
    ∙ ⊎_elim (λ less. cfg_there entries (listed_cfg entries n ∷ rest) n i less)
    (λ more.
    let last : i ≡ n + 0 = omega (arith, low, more) in
    let same : n ≡ i = omega (arith, low, more) in
    ap (λ k. slice_index_or (cfg_bytes entries n ++ listed_cfg entries n ∷ rest) k 0) last
    ∙ index_after (cfg_bytes entries n) (listed_cfg entries n ∷ rest) n 0 (cfg_length entries n) ∙ ap (listed_cfg entries) same)
    (cases_lt i n)

-- its address register
address_small : (o : Option Entry) → address_in o < 2 ^ 64
address_small None = lit< tt
address_small (Some e) = ⊎_elim (λ four. let small = four.small in omega (arith, small)) (λ more. let small = more.small in omega (arith, small)) (pair_is e)

address_there : (entries : List Entry) (front rest : List ℕ) (k n i : ℕ) → length front ≡ 8 * k → i < n
    → word_at (front ++ (address_bytes entries n ++ rest)) (k + i) ≡ listed_address entries i
address_there entries front rest k zero i size low = absurd (omega (arith, low))
address_there entries front rest k (suc n) i size low =
    let last = little_bytes 8 (listed_address entries n) in
    ap (λ bytes. word_at (front ++ bytes) (k + i)) (append_assoc (address_bytes entries n) last rest)
    ∙ ⊎_elim (λ less. address_there entries front (last ++ rest) k n i size less)
    (λ more.
    let same : i ≡ n = omega (arith, low, more) in
    let whole : length (front ++ address_bytes entries n) ≡ 8 * (k + n) = omega
    (arith, length-append front (address_bytes entries n), address_length entries n, size) in
    ap (λ j. word_at (front ++ (address_bytes entries n ++ (last ++ rest))) (k + j)) same
    ∙ ap (λ bytes. word_at bytes (k + n)) (sym (append_assoc front (address_bytes entries n) (last ++ rest)))
    ∙ word_after (front ++ address_bytes entries n) rest (k + n) (listed_address entries n) whole (address_small (slice_get entries n))
    ∙ ap (listed_address entries) (sym same))
    (cases_lt i n)

-- a bit of the word of those that are woken
is_bit : (b : Bool) (n : ℕ) → n ≡ bit_of b → (n == 1) ≡ b
is_bit false n is = ap (λ k. k == 1) is
is_bit true n is = ap (λ k. k == 1) is

bit_small : (b : Bool) → bit_of b ≤ 1
bit_small false = lit≤ tt
bit_small true = lit≤ tt

abbrev bit_in : List Bool → ℕ → ℕ
bit_in woken i = bit_of (slice_index_or woken i false)

four_bits : (a b c d : ℕ) → a ≤ 1 → b ≤ 1 → c ≤ 1 → d ≤ 1 → ((a + 2 * b + 4 * c + 8 * d) / 2 ^ 0 % 2 ≡ a) × ((a + 2 * b + 4 * c + 8 * d) / 2 ^ 1 % 2 ≡ b)
    × ((a + 2 * b + 4 * c + 8 * d) / 2 ^ 2 % 2 ≡ c) × ((a + 2 * b + 4 * c + 8 * d) / 2 ^ 3 % 2 ≡ d)
four_bits a b c d p q r s = (omega (arith, p, q, r, s), omega (arith, p, q, r, s), omega (arith, p, q, r, s), omega (arith, p, q, r, s))

bits_in : (woken : List Bool) → (wake_word woken / 2 ^ 0 % 2 ≡ bit_in woken 0) × (wake_word woken / 2 ^ 1 % 2 ≡ bit_in woken 1)
    × (wake_word woken / 2 ^ 2 % 2 ≡ bit_in woken 2) × (wake_word woken / 2 ^ 3 % 2 ≡ bit_in woken 3)
bits_in woken = four_bits (bit_in woken 0) (bit_in woken 1) (bit_in woken 2) (bit_in woken 3) (bit_small _) (bit_small _) (bit_small _) (bit_small _)

pub bit_there : (woken : List Bool) (i : ℕ) → i < 4 → (wake_word woken / 2 ^ i % 2 == 1) ≡ slice_index_or woken i false
bit_there woken zero low = is_bit (slice_index_or woken 0 false) _ (bits_in woken).0
bit_there woken (suc zero) low = is_bit (slice_index_or woken 1 false) _ (bits_in woken).1
bit_there woken (suc (suc zero)) low = is_bit (slice_index_or woken 2 false) _ (bits_in woken).2
bit_there woken (suc (suc (suc zero))) low = is_bit (slice_index_or woken 3 false) _ (bits_in woken).3
bit_there woken (suc (suc (suc (suc i)))) low = absurd (omega (arith, low))

pub wake_small : (woken : List Bool) → wake_word woken < 2 ^ 64
wake_small woken = omega (
  arith,
  bit_small (slice_index_or woken 0 false),
  bit_small (slice_index_or woken 1 false),
  bit_small
      (slice_index_or woken 2 false),
  bit_small (slice_index_or woken 3 false),
)

-- where a list has ended there is none
none_there : (entries : List Entry) (i : ℕ) → length entries ≤ i → slice_get entries i ≡ None
none_there [] i past = refl
none_there (e ∷ entries) zero past = absurd (omega (arith, past))
none_there (e ∷ entries) (suc i) past = none_there entries i (omega (arith, past))

-- canonical pairs from a place on mean their entries
listed : (entries : List Entry) (bytes : List ℕ) (first count : ℕ) → length entries ≤ count
    → ((i : ℕ) → i < count → (loaded_cfg bytes (first + i) ≡ listed_cfg entries i) × (loaded_address bytes (first + i) ≡ listed_address entries i))
    → MeansList (loaded_pairs bytes first count) entries
listed [] bytes first zero few are = done
listed [] bytes first (suc count) few are =
    let here = subst (λ k. (loaded_cfg bytes k ≡ 0) × (loaded_address bytes k ≡ 0)) (let same : first + 0 ≡ first = omega arith in same)
    (are 0 (omega arith)) in
    skip (rw (here.0, here.1) zero_off)
    (listed [] bytes (suc first) count (omega arith) (λ i low. let next : first + suc i ≡ suc first + i = omega arith in rw next at
    (are (suc i) (omega (arith, low)))))
listed (e ∷ entries) bytes first zero few are = absurd (omega (arith, few))
listed (e ∷ entries) bytes first (suc count) few are =
    let here = subst (λ k. (loaded_cfg bytes k ≡ cfg_of e) × (loaded_address bytes k ≡ address_of e)) (let same : first + 0 ≡ first = omega arith in same)
    (are 0 (omega arith)) in
    keep (rw (here.0, here.1) (pair_is e))
    (listed entries bytes (suc first) count (omega (arith, few)) (λ i low. let next : first + suc i ≡ suc first + i = omega arith in rw next at
    (are (suc i) (omega (arith, low)))))

-- a list, whatever comes after it
pub list_length : (entries : List Entry) → length (list_bytes entries) ≡ 584
list_length entries = omega (
  arith,
  length-append (little_bytes 8 (length entries)) (cfg_bytes entries 64 ++ address_bytes entries 64),
  length-append (cfg_bytes entries 64) (address_bytes entries 64),
  word_length (length entries),
  cfg_length entries 64,
  address_length entries 64,
)

module _ (entries : List Entry) (rest : List ℕ) where
  abbrev number : List ℕ
  number = little_bytes 8 (length entries)

  abbrev tail : List ℕ
  tail = address_bytes entries 64 ++ rest

  parted : list_bytes entries ++ rest ≡ number ++ (cfg_bytes entries 64 ++ tail)
  parted = append_assoc number (cfg_bytes entries 64 ++ address_bytes entries 64) rest
      ∙ ap (λ bytes. number ++ bytes) (append_assoc (cfg_bytes entries 64) (address_bytes entries 64) rest)

  cfg_back : (i : ℕ) → i < 64 → loaded_cfg (list_bytes entries ++ rest) i ≡ listed_cfg entries i
  cfg_back i low = ap (λ bytes. slice_index_or bytes (8 + i) 0) parted ∙ index_after number (cfg_bytes entries 64 ++ tail) 8 i (word_length (length entries))
      ∙ cfg_there entries tail 64 i low

  address_back : (i : ℕ) → i < 64 → loaded_address (list_bytes entries ++ rest) i ≡ listed_address entries i
  address_back i low =
      let whole : length (number ++ cfg_bytes entries 64) ≡ 8 * 9 = omega
      (arith, length-append number (cfg_bytes entries 64), cfg_length entries 64, word_length (length entries)) in
      ap (λ bytes. word_at bytes (9 + i)) (parted ∙ sym (append_assoc number (cfg_bytes entries 64) tail))
      ∙ address_there entries (number ++ cfg_bytes entries 64) rest 9 64 i whole low

  -- the entries, canonical, and nothing after them
  pub list_back : (limit : Limit) → length entries ≤ limit_number limit → MeansList
      (loaded_pairs (list_bytes entries ++ rest) 0 (limit_number limit)) entries
  list_back limit room =
      let bytes = list_bytes entries ++ rest in
      let most = limit_most limit in
      listed entries bytes 0 (limit_number limit) room
      (λ i low. let inside : i < 64 = omega (arith, low, most) in subst (λ k. (loaded_cfg bytes k ≡ listed_cfg entries i)
      × (loaded_address bytes k ≡ listed_address entries i)) (let same : i ≡ 0 + i = omega arith in same) (cfg_back i inside, address_back i inside))

  pub off_back : (i : ℕ) → length entries ≤ i → i < 64 → (loaded_cfg (list_bytes entries ++ rest) i ≡ 0)
      × (loaded_address (list_bytes entries ++ rest) i ≡ 0)
  off_back i past low = let none = none_there entries i past in (cfg_back i low ∙ ap cfg_in none, address_back i low ∙ ap address_in none)

-- eleven words
abbrev head_words : Head → List ℕ
head_words head =
    answer_tag ∷ (head.hart ∷ (world_number head.world ∷ (head.status ∷ (head.value ∷
    (head.used ∷ ((pages_of head.zero).first ∷ ((pages_of head.zero).count ∷ (wake_word head.woken ∷
    (list_count head.lists ∷ (control_count head.given ∷ []))))))))))

-- a kind by its number
kind_back : (kind : ChangeKind) → kind_by (kind_number kind) ≡ kind
kind_back kinds.Nothing = refl
kind_back kinds.PastCall = refl
kind_back kinds.Answer = refl
kind_back kinds.Begin = refl
kind_back kinds.Clear = refl

kind_small : (kind : ChangeKind) → kind_number kind < 2 ^ 64
kind_small kinds.Nothing = lit< tt
kind_small kinds.PastCall = lit< tt
kind_small kinds.Answer = lit< tt
kind_small kinds.Begin = lit< tt
kind_small kinds.Clear = lit< tt

-- a change by the words that it was put as
change_is : (answered : List ℕ) (from : ℕ) (change : SetChange) → word_at answered from ≡ kind_number change.kind
    → word_at answered (from + 1) ≡ change.enclave → word_at answered (from + 2) ≡ change.first → word_at answered (from + 3) ≡ change.second
    → change_at answered from ≡ change
change_is answered from change k e f s =
    ap (λ n. record (change_at answered from) { kind = kind_by n }) k
    ∙ ap (λ kind. record (change_at answered from) { kind = kind }) (kind_back change.kind)
    ∙ ap (λ n. record (change_at answered from) { kind = change.kind; enclave = n }) e
    ∙ ap (λ n. record change { first = n; second = word_at answered (from + 3) }) f ∙ ap (λ n. record change { second = n }) s

-- control words after some bytes
abbrev nine : ControlWords → List ℕ
nine words = words.status ∷ (words.satp ∷ (words.mie ∷ (words.scounteren ∷ (words.senvcfg ∷
    (words.hstatus ∷ (words.medeleg ∷ (words.mideleg ∷ (words.mode ∷ []))))))))

module _ (words : ControlWords) (before : List ℕ) (n : ℕ) (size : length before ≡ 8 * n) where
  nine_back : (k : ℕ) → k < 9 → slice_index_or (nine words) k 0 < 2 ^ 64
      → word_at (before ++ control_bytes words) (n + k) ≡ slice_index_or (nine words) k 0
  nine_back k low small = ap (λ xs. word_at (before ++ xs) (n + k)) (sym (append-nil (control_bytes words)))
      ∙ word_between (nine words) before [] n k size low small

  pub control_back : AreControl words → control_at (before ++ control_bytes words) n ≡ words
  control_back are =
      let bytes = before ++ control_bytes words in
      let first : word_at bytes n ≡ words.status = ap (word_at bytes) (let same : n ≡ n + 0 = omega arith in same) ∙ nine_back 0 (lit< tt) are.status in
      λ i. record {
        status = first i;
        satp = nine_back 1 (lit< tt) are.satp i;
        mie = nine_back 2 (lit< tt) are.mie i;
        scounteren = nine_back 3 (lit< tt) are.scounteren i;
        senvcfg = nine_back 4 (lit< tt) are.senvcfg i;
        hstatus = nine_back 5 (lit< tt) are.hstatus i;
        medeleg = nine_back 6 (lit< tt) are.medeleg i;
        mideleg = nine_back 7 (lit< tt) are.mideleg i;
        mode = nine_back 8 (lit< tt) are.mode i;
      }

module _ (head : Head) (changes : SetChanges) where
  abbrev front : List ℕ
  front = front_bytes head changes

  pub front_length : length front ≡ 184
  front_length = refl

  -- one of the first words
  head_word :
      (rest : List ℕ) (k : ℕ) → k < 11 → slice_index_or (head_words head) k 0 < 2 ^ 64 → word_at (front ++ rest) k ≡ slice_index_or (head_words head) k 0
  head_word rest k low small =
      let more = changes_bytes changes in
      let same : 0 + k ≡ k = omega arith in
      ap (λ bytes. word_at bytes k) (append_assoc (head_bytes head) more rest)
      ∙ sym (ap (word_at (head_bytes head ++ (more ++ rest))) same)
      ∙ word_between (head_words head) [] (more ++ rest) 0 k refl low small

  pub hart_back : (rest : List ℕ) → head.hart < 4 → word_at (front ++ rest) 1 ≡ head.hart
  hart_back rest low = head_word rest 1 (lit< tt) (omega (arith, low))

  pub world_back : (rest : List ℕ) → world_number head.world < 2 ^ 64 → word_at (front ++ rest) 2 ≡ world_number head.world
  world_back rest low = head_word rest 2 (lit< tt) low

  pub value_back : (rest : List ℕ) → head.value < 2 ^ 64 → word_at (front ++ rest) 4 ≡ head.value
  value_back rest low = head_word rest 4 (lit< tt) low

  pub wake_back : (rest : List ℕ) → word_at (front ++ rest) 8 ≡ wake_word head.woken
  wake_back rest = head_word rest 8 (lit< tt) (wake_small head.woken)

  pub count_back : (rest : List ℕ) → list_count head.lists < 2 ^ 64 → word_at (front ++ rest) 9 ≡ list_count head.lists
  count_back rest low = head_word rest 9 (lit< tt) low

  pub control_count_back : (rest : List ℕ) → control_count head.given < 2 ^ 64 → word_at (front ++ rest) 10 ≡ control_count head.given
  control_count_back rest low = head_word rest 10 (lit< tt) low

  -- what becomes of register sets
  pub changes_back : (rest : List ℕ) → AreWords changes → said_changes (front ++ rest) ≡ changes
  changes_back rest are =
      let bytes = front ++ rest in
      let back = λ (k x : ℕ) (small : x < 2 ^ 64). little_number-reads_back 8 x (drop k bytes) small in
      let one = changes.first in
      let two = changes.second in
      let three = changes.third in
      let low = λ (n : ℕ) (is : n ≤ 64). let small : n < 2 ^ 64 = omega (arith, is) in small in
      ap (λ x. record (said_changes bytes) { first = x }) (change_is bytes 11 one (back 96 (kind_number one.kind) (kind_small one.kind))
      (back 104 one.enclave (low one.enclave are.sets.first)) (back 112 one.first are.first.0) (back 120 one.second are.first.1))
      ∙ ap (λ x. record (said_changes bytes) { first = one; second = x }) (change_is bytes 15 two (back 128 (kind_number two.kind) (kind_small two.kind))
      (back 136 two.enclave (low two.enclave are.sets.second)) (back 144 two.first are.second.0) (back 152 two.second are.second.1))
      ∙ ap (λ x. record changes { third = x }) (change_is bytes 19 three (back 160 (kind_number three.kind) (kind_small three.kind))
      (back 168 three.enclave (low three.enclave are.sets.third)) (back 176 three.first are.third.0) (back 184 three.second are.third.1))

  -- the lists after them, and what comes after these
  pub first_list : (entries : List Entry) (lists : List (List Entry)) (more : List ℕ) → drop 184 (front ++ (lists_bytes (entries ∷ lists) ++ more))
      ≡ list_bytes entries ++ (lists_bytes lists ++ more)
  first_list entries lists more =
      let rest = lists_bytes (entries ∷ lists) ++ more in
      ap (λ k. drop k (front ++ rest)) (sym front_length) ∙ drop-append_seam front rest ∙ append_assoc (list_bytes entries) (lists_bytes lists) more

  pub second_list : (one two : List Entry) (lists : List (List Entry)) (more : List ℕ) → drop 768 (front ++ (lists_bytes (one ∷ (two ∷ lists)) ++ more))
      ≡ list_bytes two ++ (lists_bytes lists ++ more)
  second_list one two lists more =
      let rest = lists_bytes (two ∷ lists) ++ more in
      let both = front ++ list_bytes one in
      let size : length both ≡ 768 = omega (arith, length-append front (list_bytes one), front_length, list_length one) in
      ap (λ xs. drop 768 (front ++ xs)) (append_assoc (list_bytes one) (lists_bytes (two ∷ lists)) more)
      ∙ ap (drop 768) (sym (append_assoc front (list_bytes one) rest)) ∙ ap (λ k. drop k (both ++ rest)) (sym size) ∙ drop-append_seam both rest
      ∙ append_assoc (list_bytes two) (lists_bytes lists) more
