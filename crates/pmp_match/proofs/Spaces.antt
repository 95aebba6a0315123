-- The space of a hart, and what of registers and extents is in it.
use Rattle.std.proofs.Common.{◌≡◌, ℕ, ◌+◌, ◌*◌, ◌%◌, ◌^◌, ◌<◌, ◌≤◌, inl, inr, ⊎_elim, min, List, ◌∷◌, refl, sym, ap, subst, arith}
use Rattle.std.proofs.Math.Nat.{min-eq_left, min-eq_right}
use Rattle.std.proofs.lemmas.Bool.{and_parts, cases_lt, leb-true}
use Rattle.pmp_encoding.specs.declared.extent.Extent.{Extent}
use Rattle.pmp_encoding.specs.declared.region.Entry.{Entry}
use Rattle.pmp_encoding.specs.Encoding.{MeansEntry}
use Rattle.pmp_encoding.specs.declared.xlen.Xlen.{Xlen}
use Rattle.pmp_encoding.specs.declared.xlen.Xlen.TheVariants.{Rv32, Rv64}
use Rattle.pmp_encoding.specs.Widths.{space_end, AreReached}
use Rattle.pmp_match.specs.RegisterMatching.{kept, within}

-- ---- what is kept

pub kept_small : (xlen : Xlen) (address : ℕ) → kept xlen address < 2 ^ 54
kept_small Rv32 address = omega arith
kept_small Rv64 address = omega arith

pub kept_inside : (xlen : Xlen) (address : ℕ) → 4 * kept xlen address < space_end xlen
kept_inside Rv32 address = omega arith
kept_inside Rv64 address = omega arith

pub whole_kept : (xlen : Xlen) (address : ℕ) → 4 * address < space_end xlen → kept xlen address ≡ address
whole_kept Rv32 address small = omega (arith, small)
whole_kept Rv64 address small = omega (arith, small)

space_words : (xlen : Xlen) → space_end xlen % 4 ≡ 0
space_words Rv32 = refl
space_words Rv64 = refl

-- ---- an extent in the space

pub end_words : (xlen : Xlen) (end : ℕ) → end % 4 ≡ 0 → min end (space_end xlen) % 4 ≡ 0
end_words xlen end words =
    ⊎_elim (λ less. subst (λ n. n % 4 ≡ 0) (sym (min-eq_left {n = end} {m = space_end xlen} (omega (arith, less)))) words)
    (λ over. subst (λ n. n % 4 ≡ 0) (sym (min-eq_right {n = space_end xlen} {m = end} over)) (space_words xlen)) (cases_lt end (space_end xlen))

pub end_above : (xlen : Xlen) (base end : ℕ) → base < end → base < space_end xlen → base < min end (space_end xlen)
end_above xlen base end low inside =
    ⊎_elim (λ less. subst (λ n. base < n) (sym (min-eq_left {n = end} {m = space_end xlen} (omega (arith, less)))) low)
    (λ over. subst (λ n. base < n) (sym (min-eq_right {n = space_end xlen} {m = end} over)) inside) (cases_lt end (space_end xlen))

pub whole_within : (xlen : Xlen) (x : Extent) → x.end ≤ space_end xlen → within xlen x ≡ x
whole_within xlen x inside = ap (λ n. record { base = x.base; end = n; perm = x.perm }) (min-eq_left {n = x.end} {m = space_end xlen} inside)

-- ---- an entry in the space

-- an address of a pair is in the block that the pair means
pub pair_low : (cfg address : ℕ) (e : Entry) → MeansEntry cfg address e → e.region.base ≤ 4 * address
pair_low cfg address e (inl a) = omega (arith, a.place)
pair_low cfg address e (inr a) = a.place.0

pub pair_high : (cfg address : ℕ) (e : Entry) → MeansEntry cfg address e → 4 * address < e.region.base + 2 ^ e.region.log2
pair_high cfg address e (inl a) = subst (λ n. 4 * address < e.region.base + 2 ^ n) (sym a.size) (omega (arith, a.place))
pair_high cfg address e (inr a) = a.place.1

-- the first of some entries that are reached, and the others
pub reached_end : (xlen : Xlen) (e : Entry) (entries : List Entry) → AreReached xlen (e ∷ entries) → e.region.base + 2 ^ e.region.log2 ≤ space_end xlen
reached_end Rv32 e entries are = leb-true _ _ (and_parts _ _ are).0
reached_end Rv64 e entries are = e.region.block.inside

pub reached_rest : (xlen : Xlen) (e : Entry) (entries : List Entry) → AreReached xlen (e ∷ entries) → AreReached xlen entries
reached_rest Rv32 e entries are = (and_parts _ _ are).1
reached_rest Rv64 e entries are = tt
