-- Parts in front of others, and the bytes that are written of them.
use Rattle.std.proofs.Common.{◌≡◌, ℕ, suc, ◌+◌, ◌-◌, ◌^◌, ◌<◌, List, [], ◌∷◌, ◌++◌, length, drop, take, replicate, append_assoc, length-append, sym, ap, subst, refl, ◌∙◌, arith}
use Rattle.std.proofs.lemmas.List.{length-replicate}
use Rattle.device_tree.specs.Pieces.{Part, SpellsPart, begins, ends, has, part}
use Rattle.device_tree.specs.Words.{BeginsWith, BeginsWithText, Leaves, padded, word_at}
use Rattle.host_tree.specs.Written.{IsText, SpellsFront, setting, text_bytes, value_bytes, word_bytes}
use Rattle.host_tree.proofs.Numbers.{drop_front, length-word, past, read-word, take_front}
use Rattle.host_tree.proofs.Texts.{text_then_zero}

pub no_front : (names : List ℕ) → SpellsFront names [] []
no_front names = record { before = λ rest later h. h }

pub and_part : (names bytes added : List ℕ) (parts : List Part) (one : Part) → SpellsFront names bytes parts
    → ((rest : List ℕ) → SpellsPart names (added ++ rest) one rest) → SpellsFront names (bytes ++ added) (parts ++ one ∷ [])
and_part names bytes added parts one front spelt = record {
  before = λ rest later h. rw (append_assoc bytes added rest, append_assoc parts (one ∷ []) later)
      (front.before (added ++ rest) (one ∷ later) (part (spelt rest) h));
}

-- a number in front
pub word_front : (x : ℕ) (rest : List ℕ) → x < 2 ^ 32 → BeginsWith (word_bytes x ++ rest) x
word_front x rest h =
    let long = length-append (word_bytes x) rest in
    record { long = omega (arith, long, length-word x); spelt = read-word x rest h }

-- what is left behind some bytes
pub leaves : (bytes rest : List ℕ) (n : ℕ) → length bytes ≡ n → Leaves (bytes ++ rest) n rest
leaves bytes rest n e =
    let long = length-append bytes rest in
    record { inside = omega (arith, long, e); behind = sym (drop_front n bytes rest e) }

pub end_front : (names rest : List ℕ) → SpellsPart names (word_bytes 2 ++ rest) ends rest
end_front names rest = (word_front 2 rest (omega arith), leaves (word_bytes 2) rest 4 (length-word 2))

pub length-text : (name : List ℕ) → length (text_bytes name) ≡ padded (length name + 1)
length-text name =
    let zeros = length-replicate {A = ℕ} (padded (length name + 1) - length name) 0 in
    let whole = length-append name (replicate (padded (length name + 1) - length name) 0) in
    omega (arith, zeros, whole)

text_front : (name rest : List ℕ) → IsText name → BeginsWithText (text_bytes name ++ rest) name
text_front name rest h =
    let count : padded (length name + 1) - length name ≡ suc (padded (length name + 1) - length name - 1) = omega arith in
    let k = padded (length name + 1) - length name - 1 in
    let zeros : text_bytes name ≡ name ++ (0 ∷ replicate k 0) = ap (λ (n : ℕ). name ++ replicate n 0) count in
    let whole : text_bytes name ++ rest ≡ name ++ (0 ∷ (replicate k 0 ++ rest)) =
    ap (λ (x : List ℕ). x ++ rest) zeros ∙ append_assoc name (0 ∷ replicate k 0) rest in
    subst (λ (x : List ℕ). BeginsWithText x name) (sym whole) (text_then_zero name (replicate k 0 ++ rest) h)

pub begin_front : (names name rest : List ℕ) → IsText name → SpellsPart names ((word_bytes 1 ++ text_bytes name) ++ rest) (begins name) rest
begin_front names name rest h =
    let assoc = append_assoc (word_bytes 1) (text_bytes name) rest in
    let long = length-append (word_bytes 1) (text_bytes name) in (
      subst (λ (x : List ℕ). BeginsWith x 1) (sym assoc) (word_front 1 (text_bytes name ++ rest) (omega arith)),
      subst (λ (x : List ℕ). BeginsWithText x name)
          (sym (ap (λ (x : List ℕ). drop 4 x) assoc ∙ drop_front 4 (word_bytes 1) (text_bytes name ++ rest) (length-word 1)))
          (text_front name rest h),
      leaves (word_bytes 1 ++ text_bytes name) rest (4 + padded (length name + 1)) (omega (arith, long, length-word 1, length-text name)),
    )

unfoldable pub property_bytes : ℕ → List ℕ → List ℕ
property_bytes place value = word_bytes 3 ++ (word_bytes (length value) ++ (word_bytes place ++ value_bytes value))

pub length-value : (value : List ℕ) → length (value_bytes value) ≡ padded (length value)
length-value value =
    let zeros = length-replicate {A = ℕ} (padded (length value + 0) - length value) 0 in
    let whole = length-append value (replicate (padded (length value + 0) - length value) 0) in
    omega (arith, zeros, whole)

pub property_whole : (place : ℕ) (value rest : List ℕ) → property_bytes place value ++ rest
    ≡ word_bytes 3 ++ (word_bytes (length value) ++ (word_bytes place ++ (value_bytes value ++ rest)))
unfolding property_bytes
property_whole place value rest = simp append_assoc

pub property_front : (names value rest name : List ℕ) (place : ℕ) → length value < 2 ^ 32 → place < 2 ^ 32 → BeginsWithText (drop place names) name
    → SpellsPart names (property_bytes place value ++ rest) (has (setting name value)) rest
unfolding property_bytes
property_front names value rest name place few near named =
    let w3 = word_bytes 3 in
    let wl = word_bytes (length value) in
    let wp = word_bytes place in
    let v = value_bytes value in
    let bytes = property_bytes place value ++ rest in
    let whole : bytes ≡ w3 ++ (wl ++ (wp ++ (v ++ rest))) = property_whole place value rest in
    let len_at : word_at bytes 4 ≡ length value =
    ap (λ (x : List ℕ). word_at x 4) whole ∙ ap (λ (x : List ℕ). word_at x 0) (drop_front 4 w3 (wl ++ (wp ++ (v ++ rest))) (length-word 3))
    ∙ read-word (length value) (wp ++ (v ++ rest)) few in
    let behind : drop 12 bytes ≡ v ++ rest =
    ap (λ (x : List ℕ). drop 12 x) whole ∙ past 4 8 w3 (wl ++ (wp ++ (v ++ rest))) (length-word 3)
    ∙ past 4 4 wl (wp ++ (v ++ rest)) (length-word (length value)) ∙ drop_front 4 wp (v ++ rest) (length-word place) in
    let place_at : word_at bytes 8 ≡ place =
    ap (λ (x : List ℕ). word_at x 8) whole ∙ ap (λ (x : List ℕ). word_at x 0) (past 4 4 w3 (wl ++ (wp ++ (v ++ rest))) (length-word 3))
    ∙ ap (λ (x : List ℕ). word_at x 0) (drop_front 4 wl (wp ++ (v ++ rest)) (length-word (length value))) ∙ read-word place (v ++ rest) near in
    let l1 = length-append w3 (wl ++ (wp ++ v)) in
    let l2 = length-append wl (wp ++ v) in
    let l3 = length-append wp v in
    let len : length (property_bytes place value) ≡ 12 + padded (length value) =
    omega (arith, l1, l2, l3, length-word 3, length-word (length value), length-word place, length-value value) in
    let all = length-append (property_bytes place value) rest in
    let front : take (length value) (v ++ rest) ≡ value =
    ap (λ (x : List ℕ). take (length value) x) (append_assoc value (replicate (padded (length value + 0) - length value) 0) rest)
    ∙ take_front (length value) value (replicate (padded (length value + 0) - length value) 0 ++ rest) refl in (
      subst (λ (x : List ℕ). BeginsWith x 3) (sym whole) (word_front 3 (wl ++ (wp ++ (v ++ rest))) (omega arith)),
      omega (arith, len, all),
      subst (λ (n : ℕ). BeginsWithText (drop n names) name) (sym place_at) named,
      sym (ap (λ (n : ℕ). take n (drop 12 bytes)) len_at ∙ ap (λ (x : List ℕ). take (length value) x) behind ∙ front),
      leaves (property_bytes place value) rest (12 + padded (word_at bytes 4)) (len ∙ ap (λ (n : ℕ). 12 + padded n) (sym len_at)),
    )

-- lists one behind another
pub two_joined : (a b d x y : List ℕ) → b ≡ a ++ x → d ≡ b ++ y → d ≡ a ++ (x ++ y)
two_joined a b d x y p q = q ∙ ap (λ (z : List ℕ). z ++ y) p ∙ append_assoc a x y

pub four_joined : (a b d e f w x y z : List ℕ) → b ≡ a ++ w → d ≡ b ++ x → e ≡ d ++ y → f ≡ e ++ z → f ≡ a ++ (w ++ (x ++ (y ++ z)))
four_joined a b d e f w x y z p q r s =
    let last = two_joined d e f y z r s in
    let more = two_joined b d f x (y ++ z) q last in
    two_joined a b f w (x ++ (y ++ z)) p more
