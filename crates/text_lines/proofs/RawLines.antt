-- The first line of a text, by how many bytes stand before its LF.
use Rattle.std.proofs.Common.{ℕ, suc, ◌≡◌, ◌+◌, ◌<◌, length, Bool, true, false, List, [], ◌∷◌, take, drop, ap, refl, arith}
use Rattle.std.specs.Prelude.{◌==◌}
use Rattle.std.specs.List.{position_or_len}
use Rattle.text_lines.specs.Lines.{begun, is_lf, raw_lines}

abbrev before_lf : List ℕ → ℕ
before_lf bytes = position_or_len (λ b. b == 10) bytes

first_by :
    (b : ℕ) (bytes : List ℕ) (t : Bool) → is_lf b ≡ t → (before_lf bytes < length bytes
    → raw_lines bytes ≡ take (before_lf bytes) bytes ∷ raw_lines (drop (before_lf bytes + 1) bytes))
    → before_lf (b ∷ bytes) < length (b ∷ bytes) → raw_lines (b ∷ bytes) ≡ take (before_lf (b ∷ bytes)) (b ∷ bytes) ∷ raw_lines
    (drop (before_lf (b ∷ bytes) + 1) (b ∷ bytes))
first_by b bytes true e rest h = rw e refl
first_by b bytes false e rest h =
    let less = rw e at h in
    let end : 1 + before_lf bytes + 1 ≡ suc (before_lf bytes + 1) = omega arith in
    let more : 1 + before_lf bytes ≡ suc (before_lf bytes) = omega arith in
    rw (e, end, more) (ap (begun b) (rest (omega (arith, less))))

pub first_line : (bytes : List ℕ) → before_lf bytes < length bytes → raw_lines bytes ≡ take (before_lf bytes) bytes ∷ raw_lines
    (drop (before_lf bytes + 1) bytes)
first_line [] h = absurd (omega (arith, h))
first_line (b ∷ bytes) h = first_by b bytes (is_lf b) refl (first_line bytes) h

last_by : (b : ℕ) (bytes : List ℕ) (t : Bool) → is_lf b ≡ t → (before_lf bytes ≡ length bytes → begun b (raw_lines bytes) ≡ (b ∷ bytes) ∷ [])
    → before_lf (b ∷ bytes) ≡ length (b ∷ bytes) → raw_lines (b ∷ bytes) ≡ (b ∷ bytes) ∷ []
last_by b bytes true e rest h =
    let none = rw e at h in
    absurd (omega (arith, none))
last_by b bytes false e rest h =
    let all = rw e at h in
    rw e (rest (omega (arith, all)))

pub last_line : (bytes : List ℕ) → before_lf bytes ≡ length bytes → 0 < length bytes → raw_lines bytes ≡ bytes ∷ []
last_line [] h some = absurd (omega (arith, some))
last_line (b ∷ []) h some = last_by b [] (is_lf b) refl (λ e. refl) h
last_line (b ∷ c ∷ bytes) h some = last_by b (c ∷ bytes) (is_lf b) refl (λ e. ap (begun b) (last_line (c ∷ bytes) e (omega arith))) h
