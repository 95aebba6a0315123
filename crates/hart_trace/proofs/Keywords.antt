-- The first bytes of a line, as a number, say which keyword it begins with.
use Rattle.std.proofs.Common.{◌≡◌, ◌∙◌, ℕ, zero, suc, ◌+◌, ◌*◌, ◌/◌, ◌%◌, ◌^◌, ◌<◌, List, [], ◌∷◌, ◌++◌, drop, slice_index_or, refl, sym, ap, arith}
use Rattle.std.proofs.lemmas.Nat.{and_mask}
use Rattle.pmp_match.specs.declared.access.Kind.{Kind}
use Rattle.hart_trace.specs.declared.plain.Keyword.{Keyword}
use Rattle.hart_trace.specs.declared.plain.TheConstants.{FETCH, KEYWORDS, LOAD, STORE}
use Rattle.hart_trace.specs.Plain.{BeginsWith, Tells, keyword}

-- the lowest byte of a number, and the number of the others
lowest : (x y k m : ℕ) → x < 256 → k < 256 → x + 256 * y ≡ k + 256 * m → (x ≡ k) × (y ≡ m)
lowest x y k m small also same = (omega (arith, small, also, same), omega (arith, small, also, same))

-- the lowest five
five :
    (a b c d e y p q r s t m : ℕ) → a < 256 → b < 256 → c < 256 → d < 256 → e < 256 → p < 256 → q < 256 → r < 256 → s < 256 → t < 256
    → a + 256 * (b + 256 * (c + 256 * (d + 256 * (e + 256 * y)))) ≡ p + 256 * (q + 256 * (r + 256 * (s + 256 * (t + 256 * m))))
    → (a ≡ p) × (b ≡ q) × (c ≡ r) × (d ≡ s) × (e ≡ t) × (y ≡ m)
five a b c d e y p q r s t m ha hb hc hd he hp hq hr hs ht same =
    let one = lowest a (b + 256 * (c + 256 * (d + 256 * (e + 256 * y)))) p (q + 256 * (r + 256 * (s + 256 * (t + 256 * m)))) ha hp same in
    let two = lowest b (c + 256 * (d + 256 * (e + 256 * y))) q (r + 256 * (s + 256 * (t + 256 * m))) hb hq one.1 in
    let three = lowest c (d + 256 * (e + 256 * y)) r (s + 256 * (t + 256 * m)) hc hr two.1 in
    let four = lowest d (e + 256 * y) s (t + 256 * m) hd hs three.1 in
    let last = lowest e y t m he ht four.1 in
    (one.0, two.0, three.0, four.0, last.0, last.1)

-- the first five bytes of a line, and the sixth
begin :
    (line : List ℕ) (first p q r s t m : ℕ) → BeginsWith line first → p < 256 → q < 256 → r < 256 → s < 256 → t < 256
    → first ≡ p + 256 * (q + 256 * (r + 256 * (s + 256 * (t + 256 * m))))
    → (line ≡ p ∷ q ∷ r ∷ s ∷ t ∷ drop 5 line) × ((n : ℕ) → m ≡ 32 + 256 * n → drop 5 line ≡ 32 ∷ drop 6 line)
begin [] first p q r s t m begins hp hq hr hs ht same = absurd (omega (arith, begins.0))
begin (a ∷ []) first p q r s t m begins hp hq hr hs ht same = absurd (omega (arith, begins.0))
begin (a ∷ b ∷ []) first p q r s t m begins hp hq hr hs ht same = absurd (omega (arith, begins.0))
begin (a ∷ b ∷ c ∷ []) first p q r s t m begins hp hq hr hs ht same = absurd (omega (arith, begins.0))
begin (a ∷ b ∷ c ∷ d ∷ []) first p q r s t m begins hp hq hr hs ht same = absurd (omega (arith, begins.0))
begin (a ∷ b ∷ c ∷ d ∷ e ∷ []) first p q r s t m begins hp hq hr hs ht same = absurd (omega (arith, begins.0))
begin (a ∷ b ∷ c ∷ d ∷ e ∷ f ∷ []) first p q r s t m begins hp hq hr hs ht same = absurd (omega (arith, begins.0))
begin (a ∷ b ∷ c ∷ d ∷ e ∷ f ∷ g ∷ []) first p q r s t m begins hp hq hr hs ht same = absurd (omega (arith, begins.0))
begin (a ∷ b ∷ c ∷ d ∷ e ∷ f ∷ g ∷ h ∷ rest) first p q r s t m begins hp hq hr hs ht is =
    let bytes = begins.2 in
    let same : a + 256 * (b + 256 * (c + 256 * (d + 256 * (e + 256 * (f + 256 * (g + 256 * h)))))) ≡ p + 256 *
    (q + 256 * (r + 256 * (s + 256 * (t + 256 * m)))) = omega (arith, begins.1, is) in
    let all = five a b c d e (f + 256 * (g + 256 * h)) p q r s t m (bytes 0) (bytes 1) (bytes 2) (bytes 3) (bytes 4) hp hq hr hs ht same in (
      rw (all.0, all.1, all.2, all.3, all.4) refl,
      λ n more. rw (lowest f (g + 256 * h) 32 n (bytes 5) (omega arith) (all.5 ∙ more)).0 refl,
    )

load_begins : (line : List ℕ) (first : ℕ) → BeginsWith line first → first % 2 ^ 40 ≡ LOAD.number → line ≡ keyword Kind.Load ++ 32 ∷ drop 5 line
load_begins line first begins is =
    (begin line first 108 111 97 100 32 (first / 2 ^ 40) begins (omega arith) (omega arith) (omega arith) (omega arith) (omega arith) (omega (arith, is))).0

store_begins : (line : List ℕ) (first : ℕ) → BeginsWith line first → first % 2 ^ 48 ≡ STORE.number → line ≡ keyword Kind.Store ++ 32 ∷ drop 6 line
store_begins line first begins is =
    let both = begin line first 115 116 111 114 101 (32 + 256 * (first / 2 ^ 48)) begins (omega arith) (omega arith) (omega arith) (omega arith) (omega arith)
    (omega (arith, is)) in
    both.0 ∙ ap (λ rest. 115 ∷ 116 ∷ 111 ∷ 114 ∷ 101 ∷ rest) (both.1 (first / 2 ^ 48) refl)

fetch_begins : (line : List ℕ) (first : ℕ) → BeginsWith line first → first % 2 ^ 48 ≡ FETCH.number → line ≡ keyword Kind.Fetch ++ 32 ∷ drop 6 line
fetch_begins line first begins is =
    let both = begin line first 102 101 116 99 104 (32 + 256 * (first / 2 ^ 48)) begins (omega arith) (omega arith) (omega arith) (omega arith) (omega arith)
    (omega (arith, is)) in
    both.0 ∙ ap (λ rest. 102 ∷ 101 ∷ 116 ∷ 99 ∷ 104 ∷ rest) (both.1 (first / 2 ^ 48) refl)

load_tells : Tells LOAD
load_tells = record { short = omega arith; said = λ line first begins same. load_begins line first begins (sym (and_mask first 40) ∙ same) }

store_tells : Tells STORE
store_tells = record { short = omega arith; said = λ line first begins same. store_begins line first begins (sym (and_mask first 48) ∙ same) }

fetch_tells : Tells FETCH
fetch_tells = record { short = omega arith; said = λ line first begins same. fetch_begins line first begins (sym (and_mask first 48) ∙ same) }

pub each_tells : (i : ℕ) (d : Keyword) → i < 8 → Tells (slice_index_or KEYWORDS i d)
each_tells zero d h = load_tells
each_tells (suc zero) d h = load_tells
each_tells (suc (suc zero)) d h = load_tells
each_tells (suc (suc (suc zero))) d h = store_tells
each_tells (suc (suc (suc (suc zero)))) d h = load_tells
each_tells (suc (suc (suc (suc (suc zero))))) d h = load_tells
each_tells (suc (suc (suc (suc (suc (suc zero)))))) d h = fetch_tells
each_tells (suc (suc (suc (suc (suc (suc (suc zero))))))) d h = load_tells
each_tells (suc (suc (suc (suc (suc (suc (suc (suc i)))))))) d h = absurd (omega (arith, h))
