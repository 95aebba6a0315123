-- The twenty-four bytes of six costs, and the nine of an entry.
use Rattle.std.proofs.Common.{◌≡◌, ℕ, ◌+◌, ◌^◌, ◌<◌, ◌≤◌, List, [], ◌∷◌, ◌++◌, length, take, drop, slice_index, refl, sym, ap, ap₂, suc, ◌∙◌, append_assoc}
use Rattle.std.proofs.Common.{length-append, arith}
use Rattle.std.proofs.lemmas.List.{take-append-drop, length-drop, append-nil, drop-drop, drop_all}
use Rattle.byteorder.specs.Endian.{little_number}
use Rattle.pmp_encoding.specs.declared.perm.Perm.{Perm}
use Rattle.pmp_encoding.specs.declared.perm.Perm.TheVariants.{NoAccess, Read, ReadWrite, Execute, ReadExecute, ReadWriteExecute}
use Rattle.certificate_format.specs.Costs.{cost_of, costs_in, six_of}
use Rattle.certificate_format.specs.Spelling.{u32_bytes, u64_bytes, pair_bytes, costs_bytes}
use Rattle.certificate_format.proofs.Numbers.{AreBytes, bytes_drop, u32_bytes-number, u64_whole, length-u32_bytes, length-u64_bytes, number_lt32, same_u32}
use Rattle.certificate_format.proofs.Numbers.{same_u64}

-- four bytes further on
four_more : (n : ℕ) (bytes : List ℕ) → AreBytes bytes → n + 4 ≤ length bytes → drop n bytes ≡ u32_bytes (little_number 4 (drop n bytes)) ++ drop (n + 4) bytes
four_more n bytes h long =
    let enough : 4 ≤ length (drop n bytes) = omega (arith, length-drop n bytes) in
    sym (take-append-drop 4 (drop n bytes))
    ∙ ap (λ (front : List ℕ). front ++ drop 4 (drop n bytes)) (sym (u32_bytes-number (drop n bytes) (bytes_drop n bytes h) enough))
    ∙ ap (λ (rest : List ℕ). u32_bytes (little_number 4 (drop n bytes)) ++ rest) (drop-drop 4 n bytes)

pub costs_spelled : (bytes : List ℕ) → AreBytes bytes → length bytes ≡ 24 → bytes ≡ costs_bytes (cost_of (costs_in bytes))
costs_spelled bytes h long =
    let n : ℕ → ℕ = λ at. little_number 4 (drop at bytes) in
    let behind : (m : ℕ) (a b : List ℕ) → a ≡ b → u32_bytes m ++ a ≡ u32_bytes m ++ b = λ m a b e. ap (λ (rest : List ℕ). u32_bytes m ++ rest) e in
    let last : drop 20 bytes ≡ u32_bytes (n 20) =
    four_more 20 bytes h (omega arith) ∙ behind (n 20) _ _ (drop_all 24 bytes (omega arith)) ∙ append-nil (u32_bytes (n 20))
    in
    four_more 0 bytes h (omega arith)
    ∙ behind (n 0) _ _ (four_more 4 bytes h (omega arith)
    ∙ behind (n 4) _ _ (four_more 8 bytes h (omega arith)
    ∙ behind (n 8) _ _ (four_more 12 bytes h (omega arith)
    ∙ behind (n 12) _ _ (four_more 16 bytes h (omega arith)
    ∙ behind (n 16) _ _ last))))

pub costs_fit : (bytes : List ℕ) → AreBytes bytes → (perm : Perm) → cost_of (costs_in bytes) perm < 2 ^ 32
costs_fit bytes h NoAccess = number_lt32 bytes h
costs_fit bytes h Read = number_lt32 (drop 4 bytes) (bytes_drop 4 bytes h)
costs_fit bytes h ReadWrite = number_lt32 (drop 8 bytes) (bytes_drop 8 bytes h)
costs_fit bytes h Execute = number_lt32 (drop 12 bytes) (bytes_drop 12 bytes h)
costs_fit bytes h ReadExecute = number_lt32 (drop 16 bytes) (bytes_drop 16 bytes h)
costs_fit bytes h ReadWriteExecute = number_lt32 (drop 20 bytes) (bytes_drop 20 bytes h)

pub length-costs_bytes : (costs : Perm → ℕ) → length (costs_bytes costs) ≡ 24
length-costs_bytes costs = simp (length-append, length-u32_bytes) refl

-- the same bytes spell the same costs
pub same_costs : (f g : Perm → ℕ) (a b : List ℕ) → ((perm : Perm) → f perm < 2 ^ 32) → ((perm : Perm) → g perm < 2 ^ 32)
    → costs_bytes f ++ a ≡ costs_bytes g ++ b → (six_of f ≡ six_of g) × (a ≡ b)
same_costs f g a b hf hg e =
    let flat = simp append_assoc at e in
    let one = same_u32 (f NoAccess) (g NoAccess) _ _ (hf NoAccess) (hg NoAccess) flat in
    let two = same_u32 (f Read) (g Read) _ _ (hf Read) (hg Read) one.1 in
    let three = same_u32 (f ReadWrite) (g ReadWrite) _ _ (hf ReadWrite) (hg ReadWrite) two.1 in
    let four = same_u32 (f Execute) (g Execute) _ _ (hf Execute) (hg Execute) three.1 in
    let five = same_u32 (f ReadExecute) (g ReadExecute) _ _ (hf ReadExecute) (hg ReadExecute) four.1 in
    let six = same_u32 (f ReadWriteExecute) (g ReadWriteExecute) _ _ (hf ReadWriteExecute) (hg ReadWriteExecute) five.1 in
    (cc (one.0, two.0, three.0, four.0, five.0, six.0), six.1)

pub pair_spelled : (bytes : List ℕ) → AreBytes bytes → length bytes ≡ 9 → bytes ≡ pair_bytes (slice_index bytes 0, little_number 8 (drop 1 bytes))
pair_spelled [] h long = absurd (omega arith)
pair_spelled (b ∷ bytes) h long = ap (λ (rest : List ℕ). b ∷ rest) (u64_whole bytes (λ i. h (suc i)) (omega arith))

pub length-pair_bytes : (pair : ℕ × ℕ) → length (pair_bytes pair) ≡ 9
length-pair_bytes pair = omega (arith, length-u64_bytes pair.1)

pub same_pair : (p q : ℕ × ℕ) (a b : List ℕ) → p.1 < 2 ^ 64 → q.1 < 2 ^ 64 → pair_bytes p ++ a ≡ pair_bytes q ++ b → (p ≡ q) × (a ≡ b)
same_pair p q a b hp hq e =
    let first : p.0 ≡ q.0 = cc in
    let rest : u64_bytes p.1 ++ a ≡ u64_bytes q.1 ++ b = cc in
    let same = same_u64 p.1 q.1 a b hp hq rest in
    (ap₂ (λ (m n : ℕ). (m, n)) first same.0, same.1)

-- the front and the rest of some bytes
pub front_and_rest : (n : ℕ) (bytes front rest all : List ℕ) → front ≡ take n bytes → rest ≡ drop n bytes → bytes ≡ all → front ++ rest ≡ all
front_and_rest n bytes front rest all is_front is_rest is_all = rw (is_front, is_rest) (take-append-drop n bytes ∙ is_all)

-- too few bytes spell no pair and no costs
pub short_pair : (bytes all rest : List ℕ) (pair : ℕ × ℕ) → bytes ≡ all → length bytes < 9 → all ≡ pair_bytes pair ++ rest → ⊥
short_pair bytes all rest pair same short e = omega (arith, ap length same, ap length e, length-append (pair_bytes pair) rest, length-pair_bytes pair)

pub short_costs : (bytes all rest : List ℕ) (costs : Perm → ℕ) → bytes ≡ all → length bytes < 24 → all ≡ costs_bytes costs ++ rest → ⊥
short_costs bytes all rest costs same short e = omega (arith, ap length same, ap length e, length-append (costs_bytes costs) rest, length-costs_bytes costs)
