-- Registers that hold the canonical pairs of entries, and zero past them, have that list.
use Rattle.std.proofs.Common.{◌≡◌, ◌∙◌, ℕ, zero, suc, ◌+◌, ◌<◌, ◌≤◌, List, [], ◌∷◌, length, refl, sym, ap, subst, arith, add-zero, zero-add, ◌*◌, ◌/◌, ◌%◌}
use Rattle.std.proofs.lemmas.Option.{slice_get_within}
use Rattle.pmp_encoding.specs.Registers.{byte_of}
use Rattle.std.specs.Prelude.{Some, slice_get, slice_index}
use Rattle.pmp_encoding.specs.declared.region.Entry.{Entry}
use Rattle.pmp_encoding.specs.Encoding.{IsOff, MeansEntry, address_of, cfg_of}
use Rattle.pmp_encoding.specs.Lists.{MeansList, done, skip, keep}
use Rattle.pmp_encoding.specs.Registers.{cfg_byte, pairs_from}
use Rattle.pmp_encoding.specs.declared.bank.Bank.{Bank}
use Rattle.pmp_encoding.specs.declared.limit.Limit.TheVariants.{SixtyFour}
use Rattle.pmp_encoding.specs.Banks.{IsBankOf, address_at, word_at}
use Rattle.planner_for_c.specs.Registers.{HoldsList}
use Rattle.pmp_encoding.proofs.Filled.{zero_off}
use Rattle.pmp_encoding.proofs.Pairs.{pair_is}

off_at : (cfg address : ℕ) → cfg ≡ 0 → address ≡ 0 → IsOff cfg address
off_at cfg address a b = subst (λ c. IsOff c address) (sym a) (subst (λ d. IsOff 0 d) (sym b) zero_off)

entry_at : (cfg address : ℕ) (e : Entry) → cfg ≡ cfg_of e → address ≡ address_of e → MeansEntry cfg address e
entry_at cfg address e a b = subst (λ c. MeansEntry c address e) (sym a) (subst (λ d. MeansEntry (cfg_of e) d e) (sym b) (pair_is e))

-- the pairs from one place on hold the entries, and zero past them
pub record HoldFrom (words addresses : List ℕ) (first : ℕ) (entries : List Entry) : Type 0 where
  pub canonical : (i : ℕ) (e : Entry) → slice_get entries i ≡ Some e → (cfg_byte words (first + i) ≡ cfg_of e)
      × (slice_index addresses (first + i) ≡ address_of e)
  pub off : (i : ℕ) → length entries ≤ i → first + i < 64 → (cfg_byte words (first + i) ≡ 0) × (slice_index addresses (first + i) ≡ 0)

rest_holds : (words addresses : List ℕ) (first : ℕ) (e : Entry) (entries : List Entry) → HoldFrom words addresses first (e ∷ entries)
    → HoldFrom words addresses (suc first) entries
rest_holds words addresses first e entries h = record {
  canonical = λ i x is. let k : first + suc i ≡ suc first + i = omega arith in
      subst (λ n. (cfg_byte words n ≡ cfg_of x) × (slice_index addresses n ≡ address_of x)) k (h.canonical (suc i) x is);
  off = λ i past inside. let k : first + suc i ≡ suc first + i = omega arith in
      subst (λ n. (cfg_byte words n ≡ 0) × (slice_index addresses n ≡ 0)) k (h.off (suc i) (omega (arith, past)) (omega (arith, inside)));
}

none_holds : (words addresses : List ℕ) (first : ℕ) → HoldFrom words addresses first [] → HoldFrom words addresses (suc first) []
none_holds words addresses first h = record {
  canonical = λ i x is. absurd cc;
  off = λ i past inside. let k : first + suc i ≡ suc first + i = omega arith in
      subst (λ n. (cfg_byte words n ≡ 0) × (slice_index addresses n ≡ 0)) k (h.off (suc i) (omega arith) (omega (arith, inside)));
}

pub held : (words addresses : List ℕ) (first count : ℕ) (entries : List Entry) → HoldFrom words addresses first entries → length entries ≤ count
    → first + count ≤ 64 → MeansList (pairs_from words addresses first count) entries
held words addresses first zero [] h room inside = done
held words addresses first zero (e ∷ entries) h room inside = absurd (omega arith)
held words addresses first (suc count) [] h room inside =
    let off = h.off 0 (omega arith) (omega arith) in
    let own : (cfg_byte words first ≡ 0) × (slice_index addresses first ≡ 0) = subst (λ n. (cfg_byte words n ≡ 0) × (slice_index addresses n ≡ 0))
    (add-zero first) off in
    skip (off_at _ _ own.0 own.1) (held words addresses (suc first) count [] (none_holds words addresses first h) (omega arith) (omega arith))
held words addresses first (suc count) (e ∷ entries) h room inside =
    let here = h.canonical 0 e refl in
    let own : (cfg_byte words first ≡ cfg_of e) × (slice_index addresses first ≡ address_of e) = subst
    (λ n. (cfg_byte words n ≡ cfg_of e) × (slice_index addresses n ≡ address_of e)) (add-zero first) here in
    keep (entry_at _ _ e own.0 own.1) (held words addresses (suc first) count entries (rest_holds words addresses first e entries h) (omega arith)
    (omega arith))

-- registers that are those of the bank of the entries hold them
module _ (bank : Bank) (entries : List Entry) (words addresses : List ℕ) (of : IsBankOf bank SixtyFour entries) (short : length entries ≤ 64)
    (each_word : (i : ℕ) → i < 8 → slice_index words i ≡ word_at bank (2 * i))
    (each_address : (i : ℕ) → i < 64 → slice_index addresses i ≡ address_at bank i) where
  word_is : (i : ℕ) → i < 8 → slice_index words i ≡ slice_index bank.words i
  word_is i h = let k : 2 * i / 2 ≡ i = omega arith in each_word i h ∙ ap (λ n. slice_index bank.words n) k

  cfg_is : (i : ℕ) → i < 64 → cfg_byte words i ≡ cfg_byte bank.words i
  cfg_is i h = ap (λ w. byte_of w (i % 8)) (word_is (i / 8) (omega (arith, h)))

  canonical : (i : ℕ) (e : Entry) → slice_get entries i ≡ Some e → (cfg_byte words i ≡ cfg_of e) × (slice_index addresses i ≡ address_of e)
  canonical i e is =
      let within : i < length entries = slice_get_within entries i e is in
      let inside : i < 64 = omega (arith, within, short) in
      let own = of.canonical i e is in
      (cfg_is i inside ∙ own.0, each_address i inside ∙ own.1)

  off : (i : ℕ) → length entries ≤ i → i < 64 → (cfg_byte words i ≡ 0) × (slice_index addresses i ≡ 0)
  off i past inside = let own = of.off i past inside in (cfg_is i inside ∙ own.0, each_address i inside ∙ own.1)

  from_zero : HoldFrom words addresses 0 entries
  from_zero = record {
    canonical = λ i e is. subst (λ n. (cfg_byte words n ≡ cfg_of e) × (slice_index addresses n ≡ address_of e)) (sym (zero-add i)) (canonical i e is);
    off = λ i past inside. subst (λ n. (cfg_byte words n ≡ 0) × (slice_index addresses n ≡ 0)) (sym (zero-add i)) (off i past (omega (arith, inside)));
  }

  pub holds : HoldsList (record { cfg = words; addr = addresses }) entries
  holds = record {
    list = λ count room inside. held words addresses 0 count entries from_zero room (omega (arith, inside));
    canonical = canonical;
    off = off;
  }
