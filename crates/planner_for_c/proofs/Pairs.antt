-- The pairs of registers, one after another: the list that they mean, and the first that has a fault.
use Rattle.std.proofs.Common.{◌≡◌, ◌∙◌, ℕ, zero, suc, ◌+◌, ◌<◌, List, [], ◌∷◌, ◌++◌, ⊎_elim, add-zero, add-one, zero-add, ap, slice_index, sym, subst, arith}
use Rattle.std.proofs.lemmas.Bool.{cases_lt}
use Rattle.pmp_encoding.specs.declared.fault.EncodingFault.{EncodingFault}
use Rattle.pmp_encoding.specs.declared.region.Entry.{Entry}
use Rattle.pmp_encoding.specs.Encoding.{IsOff, MeansEntry}
use Rattle.pmp_encoding.specs.Faults.{IsFaultless, IsLeastFault}
use Rattle.pmp_encoding.specs.Lists.{MeansList, done, skip, keep}
use Rattle.pmp_encoding.specs.Registers.{cfg_byte, pairs_from}
use Rattle.pmp_encoding.proofs.Faulty.{entry_faultless, off_faultless, one_fault}
use Rattle.planner_for_c.specs.declared.registers.Registers.{Registers}
use Rattle.planner_for_c.specs.Registers.{HasFault, pairs_to}

one_off : (pairs : List (ℕ × ℕ)) (entries : List Entry) (pair : ℕ × ℕ) → MeansList pairs entries → IsOff pair.0 pair.1 → MeansList (pairs ++ pair ∷ []) entries
one_off _ _ pair done off = skip off done
one_off _ _ pair (skip {pairs = pairs} {entries = entries} h rest) off = skip h (one_off pairs entries pair rest off)
one_off _ _ pair (keep {pairs = pairs} {entries = entries} h rest) off = keep h (one_off pairs entries pair rest off)

one_entry : (pairs : List (ℕ × ℕ)) (entries : List Entry) (pair : ℕ × ℕ) (e : Entry) → MeansList pairs entries → MeansEntry pair.0 pair.1 e
    → MeansList (pairs ++ pair ∷ []) (entries ++ e ∷ [])
one_entry _ _ pair e done means = keep means done
one_entry _ _ pair e (skip {pairs = pairs} {entries = entries} h rest) means = skip h (one_entry pairs entries pair e rest means)
one_entry _ _ pair e (keep {pairs = pairs} {entries = entries} h rest) means = keep h (one_entry pairs entries pair e rest means)

-- one pair more
pairs_more : (words addresses : List ℕ) (first n : ℕ) → pairs_from words addresses first (suc n) ≡ pairs_from words addresses first n ++
    (cfg_byte words (first + n), slice_index addresses (first + n)) ∷ []
pairs_more words addresses first zero = ap (λ k. (cfg_byte words k, slice_index addresses k) ∷ []) (sym (add-zero first))
pairs_more words addresses first (suc n) =
    let place : suc first + n ≡ first + suc n = omega arith in
    ap (λ ps. (cfg_byte words first, slice_index addresses first) ∷ ps)
    (pairs_more words addresses (suc first) n ∙ ap (λ k. pairs_from words addresses (suc first) n ++ (cfg_byte words k, slice_index addresses k) ∷ []) place)

module _ (registers : Registers) (n : ℕ) (entries : List Entry) (known : MeansList (pairs_to registers n) entries) where
  next_pairs : pairs_to registers n ++ (cfg_byte registers.cfg n, slice_index registers.addr n) ∷ [] ≡ pairs_to registers (n + 1)
  next_pairs =
      ap (λ k. pairs_to registers n ++ (cfg_byte registers.cfg k, slice_index registers.addr k) ∷ []) (sym (zero-add n))
      ∙ sym (pairs_more registers.cfg registers.addr 0 n) ∙ ap (pairs_to registers) (sym (add-one n))

  pub place_off : IsOff (cfg_byte registers.cfg n) (slice_index registers.addr n) → MeansList (pairs_to registers (n + 1)) entries
  place_off off = subst (λ ps. MeansList ps entries) next_pairs (one_off _ entries (cfg_byte registers.cfg n, slice_index registers.addr n) known off)

  pub place_entry : (e : Entry) → MeansEntry (cfg_byte registers.cfg n) (slice_index registers.addr n) e
      → MeansList (pairs_to registers (n + 1)) (entries ++ e ∷ [])
  place_entry e means = subst (λ ps. MeansList ps (entries ++ e ∷ [])) next_pairs
      (one_entry _ entries (cfg_byte registers.cfg n, slice_index registers.addr n) e known means)

pub one_below : (registers : Registers) (n : ℕ) → ((i : ℕ) → i < n → IsFaultless (cfg_byte registers.cfg i) (slice_index registers.addr i))
    → IsFaultless (cfg_byte registers.cfg n) (slice_index registers.addr n) → (i : ℕ) → i < n + 1
    → IsFaultless (cfg_byte registers.cfg i) (slice_index registers.addr i)
one_below registers n below here i less =
    ⊎_elim (λ under. below i under) (λ over. let same : n ≡ i = omega arith in subst
    (λ p. IsFaultless (cfg_byte registers.cfg p) (slice_index registers.addr p)) same here) (cases_lt i n)

-- the first of the pairs that mean a list has no fault, and the others mean a list
front_of : (pair : ℕ × ℕ) (pairs : List (ℕ × ℕ)) (entries : List Entry) → MeansList (pair ∷ pairs) entries → IsFaultless pair.0 pair.1
front_of pair pairs entries (skip off rest) = off_faultless pair.0 pair.1 off
front_of pair pairs _ (keep {e = e} means rest) = entry_faultless pair.0 pair.1 e means

rest_of : (pair : ℕ × ℕ) (pairs : List (ℕ × ℕ)) (entries : List Entry) → MeansList (pair ∷ pairs) entries → (others : List Entry) × MeansList pairs others
rest_of pair pairs entries (skip off rest) = (entries, rest)
rest_of pair pairs _ (keep {entries = entries} means rest) = (entries, rest)

-- a pair among those that mean a list has no fault
faultless_at : (words addresses : List ℕ) (first count i : ℕ) (entries : List Entry) → i < count → MeansList (pairs_from words addresses first count) entries
    → IsFaultless (cfg_byte words (first + i)) (slice_index addresses (first + i))
faultless_at words addresses first zero i entries less list = absurd (omega arith)
faultless_at words addresses first (suc count) zero entries less list =
    subst (λ k. IsFaultless (cfg_byte words k) (slice_index addresses k)) (sym (add-zero first))
    (front_of (cfg_byte words first, slice_index addresses first) (pairs_from words addresses (suc first) count) entries list)
faultless_at words addresses first (suc count) (suc i) entries less list =
    let place : suc first + i ≡ first + suc i = omega arith in
    let others = rest_of (cfg_byte words first, slice_index addresses first) (pairs_from words addresses (suc first) count) entries list in
    subst (λ k. IsFaultless (cfg_byte words k) (slice_index addresses k)) place
    (faultless_at words addresses (suc first) count i others.0 (omega (arith, less)) others.1)

pub not_listed : (registers : Registers) (count : ℕ) (entries : List Entry) (fault : EncodingFault) → HasFault registers count fault
    → MeansList (pairs_to registers count) entries → ⊥
not_listed registers count entries fault h list =
    let clean = faultless_at registers.cfg registers.addr 0 count h.place entries h.inside list in
    let own : IsFaultless (cfg_byte registers.cfg h.place) (slice_index registers.addr h.place) = subst
    (λ k. IsFaultless (cfg_byte registers.cfg k) (slice_index registers.addr k)) (zero-add h.place) clean in
    own.none fault h.fault_is.has

pub one_pair_fault : (registers : Registers) (count : ℕ) (f g : EncodingFault) → HasFault registers count f → HasFault registers count g → f ≡ g
one_pair_fault registers count f g a b =
    ⊎_elim (λ under. absurd ((b.below a.place under).none f a.fault_is.has))
    (λ over. ⊎_elim (λ under. absurd ((a.below b.place under).none g b.fault_is.has))
    (λ more. let same : b.place ≡ a.place = omega arith in
    one_fault _ _ f g a.fault_is (subst (λ p. IsLeastFault (cfg_byte registers.cfg p) (slice_index registers.addr p) g) same b.fault_is))
    (cases_lt b.place a.place))
    (cases_lt a.place b.place)
