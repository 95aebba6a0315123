-- Registers that are filled with entries, place by place, and the list that they then have.
use Rattle.std.proofs.Common.{add-zero, drop, length-append, length-drop, length-set, ◌++◌, replicate, ◌≡◌, ◌≢◌, ℕ, zero, suc, ◌+◌, ◌-◌, ◌*◌, ◌/◌, ◌%◌, ◌^◌}
use Rattle.std.proofs.Common.{◌<◌, ◌≤◌, ⊎_elim, List, [], ◌∷◌, length, Some, slice_index, refl, sym, ap, ◌∙◌, subst, arith, lit<, lit≤}
use Rattle.std.specs.Prelude.{slice_get, slice_set}
use Rattle.std.proofs.lemmas.Bool.{cases_lt}
use Rattle.std.proofs.lemmas.List.{get_or-append_right, get_or-drop, get_or-set_other, get_or-replicate, get_or_append_left, get_or_past, length-replicate}
use Rattle.std.proofs.lemmas.Grind.{get_or-set_at}
use Rattle.std.proofs.lemmas.Option.{slice_get_cases, slice_get_within}
use Rattle.pmp_encoding.specs.declared.limit.Limit.{Limit}
use Rattle.pmp_encoding.specs.declared.limit.Limit.TheVariants.{Sixteen, SixtyFour}
use Rattle.pmp_encoding.specs.declared.perm.Perm.TheVariants.{NoAccess}
use Rattle.pmp_encoding.specs.declared.region.Entry.{Entry}
use Rattle.pmp_encoding.specs.Encoding.{IsOff, cfg_of, address_of}
use Rattle.pmp_encoding.specs.Faults.{IsFaultless}
use Rattle.pmp_encoding.specs.Limits.{limit_number}
use Rattle.pmp_encoding.specs.Registers.{byte_of, cfg_byte, pairs_from, AreRegisters}
pub use Rattle.pmp_encoding.specs.Filled.{AreZero, IsFilled}
use Rattle.pmp_encoding.specs.Banks.{MeansList, done, skip, keep}
use Rattle.pmp_encoding.proofs.Bytes.{pow_rises, byte_past}
use Rattle.pmp_encoding.proofs.Faulty.{entry_faultless, off_faultless}
use Rattle.pmp_encoding.proofs.Pairs.{pair_is}

pub limit_most : (limit : Limit) → limit_number limit ≤ 64
limit_most Sixteen = lit≤ tt
limit_most SixtyFour = lit≤ tt

zeros : (n i : ℕ) → slice_index (replicate n 0) i ≡ 0
zeros n i = ⊎_elim (λ h. get_or-replicate n i 0 0 h) (λ h. get_or_past (replicate n 0) i 0 (omega (arith, length-replicate {A = ℕ} n 0, h))) (cases_lt i n)

pub zero_all : AreZero (replicate 64 0)
zero_all = from 64 refl
  where
    from : (n : ℕ) → n ≡ 64 → AreZero (replicate n 0)
    from n many = (length-replicate {A = ℕ} n 0 ∙ many, zeros n)

-- the first sixteen of sixty-four made zero, where the others are
pub zero_sixteen : (addresses : List ℕ) → length addresses ≡ 64 → ((i : ℕ) → 16 ≤ i → i < 64 → slice_index addresses i ≡ 0)
    → AreZero (replicate 16 0 ++ drop 16 addresses)
zero_sixteen addresses many unused = from 16 refl
  where
    from : (n : ℕ) → n ≡ 16 → AreZero (replicate n 0 ++ drop n addresses)
    from n is = (omega (arith, length-append (replicate n 0) (drop n addresses), length-replicate {A = ℕ} n 0, length-drop n addresses, many, is), at)
      where
        at : (i : ℕ) → slice_index (replicate n 0 ++ drop n addresses) i ≡ 0
        at i = ⊎_elim below (λ from_on. ⊎_elim (above from_on) past (cases_lt i 64)) (cases_lt i n)
          where
            below : i < n → slice_index (replicate n 0 ++ drop n addresses) i ≡ 0
            below less = get_or_append_left (replicate n 0) (drop n addresses) 0 i (omega (arith, length-replicate {A = ℕ} n 0, less)) ∙ zeros n i

            rest : n ≤ i → slice_index (replicate n 0 ++ drop n addresses) i ≡ slice_index addresses i
            rest h =
                let back : n + (i - n) ≡ i = omega arith in
                get_or-append_right (replicate n 0) (drop n addresses) n i 0 (length-replicate {A = ℕ} n 0) h
                ∙ get_or-drop n addresses (i - n) 0 ∙ ap (slice_index addresses) back

            above : n ≤ i → i < 64 → slice_index (replicate n 0 ++ drop n addresses) i ≡ 0
            above h most = rest h ∙ unused i (omega (arith, h, is)) most

            past : 64 ≤ i → slice_index (replicate n 0 ++ drop n addresses) i ≡ 0
            past h = rest (omega (arith, h, is)) ∙ get_or_past addresses i 0 (omega (arith, h, many))

pub filled_zeros : (entries : List Entry) (addresses : List ℕ) → AreZero addresses → IsFilled entries (replicate 8 0) addresses 0
filled_zeros entries addresses cleared = from 8 refl
  where
    from : (m : ℕ) → m ≡ 8 → IsFilled entries (replicate m 0) addresses 0
    from m eight =
        record {
          eight = length-replicate {A = ℕ} m 0 ∙ eight;
          many = cleared.0;
          canonical = λ i e h is. absurd (omega (arith, h));
          words_above = λ w. let none : 8 * (0 - 8 * w) ≡ 0 = omega arith in omega (arith, zeros m w, ap (λ k. 2 ^ k) none);
          addresses_above = λ i h. cleared.1 i;
        }

pub filled_none : (entries : List Entry) → IsFilled entries (replicate 8 0) (replicate 64 0) 0
filled_none entries = filled_zeros entries _ zero_all

-- the word of the next place is zero where that place is its first
pub fresh_word : (entries : List Entry) (words addresses : List ℕ) (n : ℕ) → IsFilled entries words addresses n → n % 8 ≡ 0 → slice_index words (n / 8) ≡ 0
fresh_word entries words addresses n filled first =
    let room : 8 * (n - 8 * (n / 8)) ≡ 0 = omega (arith, first) in
    omega (arith, filled.words_above (n / 8), ap (λ k. 2 ^ k) room)

-- a word that was put is that of the next place too, where that place is not the first of another
pub same_word : (words : List ℕ) (n word : ℕ) → n / 8 < length words → ((n + 1) % 8 ≡ 0 → ⊥) → word ≡ slice_index (slice_set words (n / 8) word) ((n + 1) / 8)
same_word words n word inside some =
    let place : (n + 1) / 8 ≡ n / 8 = omega (arith, some) in
    rw place (sym (get_or-set_at words (n / 8) (n / 8) word 0 refl inside))

-- one entry more, its byte put above the others of its word
module _ (entries : List Entry) (words addresses : List ℕ) (n : ℕ) (filled : IsFilled entries words addresses n) (few : n < 64) (e : Entry)
    (next : slice_get entries n ≡ Some e) (word : ℕ) (here : byte_of word (n % 8) ≡ cfg_of e)
    (others : (k : ℕ) → k ≢ n % 8 → byte_of word k ≡ byte_of (slice_index words (n / 8)) k) (small : word < 2 ^ (8 * (n % 8 + 1))) where
  new_words : List ℕ
  new_words = slice_set words (n / 8) word

  word_here : (w : ℕ) → w ≡ n / 8 → slice_index (slice_set words (n / 8) word) w ≡ word
  word_here w h = get_or-set_at words (n / 8) w word 0 h (omega (arith, filled.eight))

  word_there : (w : ℕ) → w ≢ n / 8 → slice_index (slice_set words (n / 8) word) w ≡ slice_index words w
  word_there w h = get_or-set_other words (n / 8) w word 0 h

  byte_here : cfg_byte (slice_set words (n / 8) word) n ≡ cfg_of e
  byte_here = ap (λ x. byte_of x (n % 8)) (word_here (n / 8) refl) ∙ here

  byte_there : (i : ℕ) → i ≢ n → cfg_byte (slice_set words (n / 8) word) i ≡ cfg_byte words i
  byte_there i apart = ⊎_elim other (λ over. ⊎_elim (λ under. other_above under) (λ under. same (omega arith)) (cases_lt (n / 8) (i / 8)))
      (cases_lt (i / 8) (n / 8))
    where
      other : i / 8 < n / 8 → cfg_byte (slice_set words (n / 8) word) i ≡ cfg_byte words i
      other less = ap (λ x. byte_of x (i % 8)) (word_there (i / 8) (omega arith))

      other_above : n / 8 < i / 8 → cfg_byte (slice_set words (n / 8) word) i ≡ cfg_byte words i
      other_above more = ap (λ x. byte_of x (i % 8)) (word_there (i / 8) (omega arith))

      same : i / 8 ≡ n / 8 → cfg_byte (slice_set words (n / 8) word) i ≡ cfg_byte words i
      same is =
          ap (λ x. byte_of x (i % 8)) (word_here (i / 8) is) ∙ others (i % 8) (omega arith)
          ∙ ap (λ w. byte_of (slice_index words w) (i % 8)) (sym is)

  pub filled_more : IsFilled entries (slice_set words (n / 8) word) (slice_set addresses n (address_of e)) (n + 1)
  filled_more =
      record {
        eight = length-set words (n / 8) word ∙ filled.eight;
        many = length-set addresses n (address_of e) ∙ filled.many;
        canonical = canonical;
        words_above = above;
        addresses_above = none_above;
      }
    where
      canonical :
          (i : ℕ) (d : Entry) → i < n + 1 → slice_get entries i ≡ Some d
          → (cfg_byte (slice_set words (n / 8) word) i ≡ cfg_of d) × (slice_index (slice_set addresses n (address_of e)) i ≡ address_of d)
      canonical i d h is = ⊎_elim below (λ over. last (omega arith)) (cases_lt i n)
        where
          below : i < n → (cfg_byte (slice_set words (n / 8) word) i ≡ cfg_of d) × (slice_index (slice_set addresses n (address_of e)) i ≡ address_of d)
          below less = (
            byte_there i (omega arith) ∙ (filled.canonical i d less is).0,
            get_or-set_other addresses n i (address_of e) 0 (omega arith) ∙ (filled.canonical i d less is).1,
          )

          last : i ≡ n → (cfg_byte (slice_set words (n / 8) word) i ≡ cfg_of d) × (slice_index (slice_set addresses n (address_of e)) i ≡ address_of d)
          last at =
              let one : Some e ≡ Some d = sym next ∙ ap (λ k. slice_get entries k) (sym at) ∙ is in
              let same : e ≡ d = cc in (
                ap (λ k. cfg_byte (slice_set words (n / 8) word) k) at ∙ byte_here ∙ ap cfg_of same,
                get_or-set_at addresses n i (address_of e) 0 at (omega (arith, filled.many)) ∙ ap address_of same,
              )

      above : (w : ℕ) → slice_index (slice_set words (n / 8) word) w < 2 ^ (8 * (n + 1 - 8 * w))
      above w = ⊎_elim (λ less. other (omega arith)) (λ over. ⊎_elim (λ more. other (omega arith)) (λ under. at (omega arith)) (cases_lt (n / 8) w))
          (cases_lt w (n / 8))
        where
          other : w ≢ n / 8 → slice_index (slice_set words (n / 8) word) w < 2 ^ (8 * (n + 1 - 8 * w))
          other apart = omega (arith, word_there w apart, filled.words_above w, pow_rises (8 * (n - 8 * w)) (8 * (n + 1 - 8 * w)) (omega arith))

          at : w ≡ n / 8 → slice_index (slice_set words (n / 8) word) w < 2 ^ (8 * (n + 1 - 8 * w))
          at is =
              let length_is : 8 * (n % 8 + 1) ≡ 8 * (n + 1 - 8 * w) = omega arith in
              omega (arith, word_here w is, small, ap (λ k. 2 ^ k) length_is)

      none_above : (i : ℕ) → n + 1 ≤ i → slice_index (slice_set addresses n (address_of e)) i ≡ 0
      none_above i h = get_or-set_other addresses n i (address_of e) 0 (omega arith) ∙ filled.addresses_above i (omega arith)

-- ---- what filled registers are

pub filled_all : (entries : List Entry) (words addresses : List ℕ) (n : ℕ) → IsFilled entries words addresses n → n ≡ length entries
    → IsFilled entries words addresses (length entries)
filled_all entries words addresses n filled is = subst (λ k. IsFilled entries words addresses k) is filled

pub zero_off : IsOff 0 0
zero_off = record { perm = NoAccess; bits = refl; small = lit< tt }

-- the places from `first` on hold the canonical pairs of the entries, and then nothing
list_from :
    (entries : List Entry) (words addresses : List ℕ) (first count : ℕ) → length entries ≤ count
    → ((i : ℕ) (e : Entry) → slice_get entries i ≡ Some e → (cfg_byte words (first + i) ≡ cfg_of e) × (slice_index addresses (first + i) ≡ address_of e))
    → ((i : ℕ) → first + length entries ≤ i → (cfg_byte words i ≡ 0) × (slice_index addresses i ≡ 0))
    → MeansList (pairs_from words addresses first count) entries
list_from [] words addresses first zero few canonical off = done
list_from [] words addresses first (suc count) few canonical off =
    skip (let none = off first (omega arith) in rw (none.0, none.1) zero_off)
    (list_from [] words addresses (suc first) count (omega arith) (λ i e is. absurd (cc is)) (λ i h. off i (omega (arith, h))))
list_from (e ∷ entries) words addresses first zero few canonical off = absurd (omega (arith, few))
list_from (e ∷ entries) words addresses first (suc count) few canonical off =
    keep (let here : (cfg_byte words first ≡ cfg_of e) × (slice_index addresses first ≡ address_of e) = rw (add-zero first) at (canonical 0 e refl) in rw
    (here.0, here.1) (pair_is e))
    (list_from entries words addresses (suc first) count (omega (arith, few))
    (λ i d is. let next : first + suc i ≡ suc first + i = omega arith in rw next at (canonical (suc i) d is)) (λ i h. off i (omega (arith, h))))

module _ (entries : List Entry) (words addresses : List ℕ) (filled : IsFilled entries words addresses (length entries)) where
  pub filled_off : (i : ℕ) → length entries ≤ i → (cfg_byte words i ≡ 0) × (slice_index addresses i ≡ 0)
  filled_off i h = (
    byte_past (slice_index words (i / 8)) (i % 8)
        (let less : 8 * (length entries - 8 * (i / 8)) ≤ 8 * (i % 8) = omega arith in
        omega (arith, filled.words_above (i / 8), pow_rises (8 * (length entries - 8 * (i / 8))) (8 * (i % 8)) less)),
    filled.addresses_above i h,
  )

  pub filled_canonical : (i : ℕ) (e : Entry) → slice_get entries i ≡ Some e → (cfg_byte words i ≡ cfg_of e) × (slice_index addresses i ≡ address_of e)
  filled_canonical i e is = filled.canonical i e (slice_get_within entries i e is) is

  -- the pair of a place means its entry, or is OFF
  pair_faultless : (i : ℕ) → IsFaultless (cfg_byte words i) (slice_index addresses i)
  pair_faultless i =
      ⊎_elim
      (λ at. let here = filled_canonical i at.0 at.2 in rw (here.0, here.1) (entry_faultless (cfg_of at.0) (address_of at.0) at.0 (pair_is at.0)))
      (λ past. let off = filled_off i past.0 in rw (off.0, off.1) (off_faultless 0 0 zero_off)) (slice_get_cases entries i).1

  pub filled_registers : (limit : Limit) → length entries ≤ limit_number limit → AreRegisters limit words addresses
  filled_registers limit few = record { faultless = λ i h. pair_faultless i; unused = λ i h most. filled_off i (omega (arith, few, h)) }

  pub filled_list : (limit : Limit) → length entries ≤ limit_number limit → MeansList (pairs_from words addresses 0 (limit_number limit)) entries
  filled_list limit few =
      list_from entries words addresses 0 (limit_number limit) few (λ i e is. let at : i ≡ 0 + i = omega arith in subst
      (λ k. (cfg_byte words k ≡ cfg_of e) × (slice_index addresses k ≡ address_of e)) at (filled_canonical i e is))
      (λ i h. filled_off i (omega (arith, h)))
