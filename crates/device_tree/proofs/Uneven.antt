-- Bytes that are no whole number of rows.
use Rattle.std.proofs.Common.{ℕ, ◌≡◌, ◌+◌, ◌-◌, ◌*◌, ◌<◌, ◌∙◌, ap, suc, List, [], ◌∷◌, ◌++◌, length, arith}
use Rattle.std.proofs.Math.Nat.{mul-zero, suc-mul}
use Rattle.std.proofs.lemmas.List.{length-append}
use Rattle.std.proofs.lemmas.Nat.{same_from_place}
use Rattle.device_tree.specs.BoardRefusals.{IsUneven}

-- rows of no bytes
pub none_long : (len : ℕ) (bytes : List ℕ) → len ≡ 0 → 0 < length bytes → IsUneven len bytes
none_long len bytes e some = λ rows whole.
    let zero_long : rows * len ≡ 0 = ap (λ (n : ℕ). rows * n) e ∙ mul-zero rows in
    omega (arith, some, whole, zero_long)

-- fewer bytes than a row behind some rows
pub uneven : (done at len : ℕ) (bytes : List ℕ) → at ≡ done * len → at < length bytes → length bytes - at < len → IsUneven len bytes
uneven done at len bytes e below short = λ rows whole.
    let left : ℕ = length bytes - at in
    let some : 0 < len = omega (arith, short) in
    let both : done * len + left ≡ rows * len + 0 = omega (arith, e, below, whole) in
    let same = same_from_place done left rows 0 len short some both in
    omega (arith, same.1, below)

-- one row more
pub one_more : (done at len : ℕ) → at ≡ done * len → at + len ≡ suc done * len
one_more done at len e = omega (arith, e, suc-mul done len)

pub one_more_of : {X : Type 0} (before after : List X) (x : X) (at len : ℕ) → after ≡ before ++ (x ∷ []) → at ≡ length before * len
    → at + len ≡ length after * len
one_more_of before after x at len is e =
    let longer : length after ≡ suc (length before) = omega (arith, ap length is, length-append before (x ∷ [])) in
    rw longer (one_more (length before) at len e)
