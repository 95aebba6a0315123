-- What an entry matches: one extent, of whole words, and none where it has a reserved value.
use Rattle.std.proofs.Common.{◌≡◌, ℕ, ◌+◌, ◌*◌, ◌/◌, ◌%◌, ◌^◌, ◌<◌, ◌≤◌, ◌⊎◌, inl, inr, ⊎_elim, zero, suc, take, List, [], ◌∷◌, ◌++◌, All, length}
use Rattle.std.proofs.Common.{cond, refl, sym, ap, ap₂, subst, ◌∙◌, arith, pow_pos}
use Rattle.std.specs.List.{AllByRecursion}
use Rattle.std.specs.Prelude.{slice_set}
use Rattle.std.proofs.Math.Nat.{min-le_left, min-le_right}
use Rattle.std.proofs.lemmas.Bool.{cases_lt, lt-ltb, le-ltb}
use Rattle.std.proofs.lemmas.List.{length-take-le, take_more_set}
use Rattle.std.proofs.lemmas.List.Elements.{All-from_recursion}
use Rattle.pmp_encoding.specs.declared.extent.Extent.{Extent}
use Rattle.pmp_encoding.specs.declared.fault.EncodingFault.{EncodingFault}
use Rattle.pmp_encoding.specs.declared.fault.EncodingFault.TheVariants.{ReservedPerm, Tor, Locked, ReservedBits, AddressBits, NoSuchCsr}
use Rattle.pmp_encoding.specs.declared.perm.Perm.{Perm}
use Rattle.pmp_encoding.specs.declared.perm.Perm.TheVariants.{NoAccess, Read, ReadWrite, Execute, ReadExecute, ReadWriteExecute}
use Rattle.pmp_encoding.specs.declared.region.Entry.{Entry}
use Rattle.pmp_encoding.specs.Encoding.{MeansEntry}
use Rattle.pmp_encoding.specs.Extents.{extent_of}
use Rattle.pmp_encoding.specs.Faults.{HasFault, IsFaultless}
use Rattle.pmp_encoding.specs.Perms.{bits_of}
use Rattle.pmp_encoding.proofs.Faulty.{entry_faultless, off_faultless}
use Rattle.pmp_encoding.proofs.Multiples.{IsMultiple, multiple_from_mod, multiple_trans, power_multiple}
use Rattle.pmp_encoding.proofs.Pairs.{bits_below, not_off, one_entry, perm_from_same_bits}
use Rattle.pmp_match.specs.declared.registers.Registers.{Registers}
use Rattle.pmp_match.specs.declared.reserved.Reserved.TheVariants.{Permission, Bits}
use Rattle.pmp_match.specs.RegisterDecision.{IsWords}
use Rattle.pmp_encoding.specs.declared.xlen.Xlen.{Xlen}
use Rattle.pmp_encoding.specs.Widths.{space_end}
use Rattle.pmp_match.specs.RegisterMatching.{AreExtents, AreExtentsFrom, IsExtentAt, off, tor, block, bottom_of, kept, nowhere, tor_extent, within}
use Rattle.pmp_match.specs.Registers.{address_at, cfg_at}
use Rattle.pmp_match.specs.Reserved.{IsDefined}
use Rattle.pmp_match.specs.declared.smepmp.Security.{Security}
use Rattle.pmp_match.specs.Smepmp.{user_cfg}
use Rattle.pmp_match.proofs.UserBytes.{no_write_alone, user_bits_below, write_alone_seen}
use Rattle.pmp_match.proofs.Spaces.{end_above, end_words, kept_inside, kept_small, pair_low}

-- ---- one extent

-- the byte of an entry that is OFF has mode 0, of NA4 2 and of NAPOT 3
entry_mode : (cfg address : ℕ) (e : Entry) → MeansEntry cfg address e → 16 ≤ cfg
entry_mode cfg address e p = ⊎_elim (λ a. omega (arith, a.bits)) (λ a. omega (arith, a.bits)) p

pub one_extent : (registers : Registers) (place : ℕ) (x y : Extent) → IsExtentAt registers place x → IsExtentAt registers place y → x ≡ y
one_extent registers place _ _ (off o) (off p) = refl
one_extent registers place _ _ (off o) (tor perm h) = absurd (omega (arith, o.bits, bits_below o.perm, h))
one_extent registers place _ _ (off o) (block e m) = absurd (not_off _ _ e m o)
one_extent registers place _ _ (tor perm h) (off o) = absurd (omega (arith, o.bits, bits_below o.perm, h))
one_extent registers place _ _ (tor perm h) (tor other k) =
    ap (λ p. tor_extent (bottom_of registers place) (kept registers.xlen (address_at registers place)) p) (perm_from_same_bits perm other (omega (arith, h, k)))
one_extent registers place _ _ (tor perm h) (block e m) = absurd (omega (arith, h, bits_below perm, entry_mode _ _ e m))
one_extent registers place _ _ (block e m) (off o) = absurd (not_off _ _ e m o)
one_extent registers place _ _ (block e m) (tor perm h) = absurd (omega (arith, h, bits_below perm, entry_mode _ _ e m))
one_extent registers place _ _ (block e m) (block f n) = ap (λ g. within registers.xlen (extent_of g)) (one_entry _ _ e f m n)

one_from : (registers : Registers) (place : ℕ) (xs ys : List Extent) → length xs ≡ length ys → AreExtentsFrom registers place xs
    → AreExtentsFrom registers place ys → xs ≡ ys
one_from registers place [] [] same a b = refl
one_from registers place (x ∷ xs) (y ∷ ys) same a b =
    ap₂ (λ z zs. z ∷ zs) (one_extent registers place x y a.0 b.0) (one_from registers (place + 1) xs ys (omega (arith, same)) a.1 b.1)
one_from registers place [] (y ∷ ys) same a b = absurd (omega (arith, same))
one_from registers place (x ∷ xs) [] same a b = absurd (omega (arith, same))

pub one_list : (registers : Registers) (xs ys : List Extent) → AreExtents registers xs → AreExtents registers ys → xs ≡ ys
one_list registers xs ys a b = one_from registers 0 xs ys (a.count ∙ sym b.count) a.each b.each

-- ---- no reserved value

defined_by : (s : Security) (cfg address : ℕ) → IsFaultless (user_cfg s cfg) address → IsDefined s cfg
defined_by s cfg address faultless Permission has =
    let seen = write_alone_seen s cfg has.0 in faultless.none ReservedPerm (omega (arith, seen, has.1.0), omega (arith, seen, has.1.1))
defined_by s cfg address faultless Bits has =
    let small = user_bits_below s cfg in faultless.none ReservedBits (λ none. has (omega (arith, none, small)))

tor_sound : (perm : Perm) → (1 * 8 + bits_of perm) / 2 % 2 ≡ 1 → (1 * 8 + bits_of perm) % 2 ≡ 0 → ⊥
tor_sound NoAccess w r = omega (arith, w, r)
tor_sound Read w r = omega (arith, w, r)
tor_sound ReadWrite w r = omega (arith, w, r)
tor_sound Execute w r = omega (arith, w, r)
tor_sound ReadExecute w r = omega (arith, w, r)
tor_sound ReadWriteExecute w r = omega (arith, w, r)

tor_defined : (s : Security) (cfg : ℕ) (perm : Perm) → user_cfg s cfg ≡ 1 * 8 + bits_of perm → IsDefined s cfg
tor_defined s cfg perm h Permission has =
    let seen = write_alone_seen s cfg has.0 in tor_sound perm (omega (arith, h, seen, has.1.0)) (omega (arith, h, seen, has.1.1))
tor_defined s cfg perm h Bits has = let small = user_bits_below s cfg in has (omega (arith, h, small, bits_below perm))

pub extent_defined : (registers : Registers) (place : ℕ) (x : Extent) → IsExtentAt registers place x
    → IsDefined registers.security (cfg_at registers place)
extent_defined registers place _ (off o) = defined_by registers.security _ _ (off_faultless _ _ o)
extent_defined registers place _ (tor perm h) = tor_defined registers.security _ perm h
extent_defined registers place _ (block e m) = defined_by registers.security _ _ (entry_faultless _ _ e m)

defined_from : (registers : Registers) (first : ℕ) (xs : List Extent) → AreExtentsFrom registers first xs → (place : ℕ) → first ≤ place
    → place < first + length xs → IsDefined registers.security (cfg_at registers place)
defined_from registers first [] are place low high = absurd (omega (arith, low, high))
defined_from registers first (x ∷ xs) are place low high =
    ⊎_elim (λ more. defined_from registers (first + 1) xs are.1 place (omega (arith, more)) (omega (arith, high)))
    (λ less. let same : first ≡ place = omega (arith, low, less) in subst (λ p. IsDefined registers.security (cfg_at registers p)) same
    (extent_defined registers first x are.0))
    (cases_lt first place)

pub all_defined : (registers : Registers) (xs : List Extent) → AreExtents registers xs → (place : ℕ) → place < 64
    → IsDefined registers.security (cfg_at registers place)
all_defined registers xs are place inside = defined_from registers 0 xs are.each place (omega arith) (omega (arith, are.count, inside))

-- ---- whole words

pub nowhere_words : IsWords nowhere
nowhere_words = record { base = refl; end = refl; inside = omega arith; some = inr (refl, refl) }

pub entry_words : (e : Entry) → IsWords (extent_of e)
entry_words e =
    let words : IsMultiple 4 (2 ^ e.region.log2) = power_multiple 2 e.region.log2 e.region.block.long in
    let base : IsMultiple 4 e.region.base = multiple_trans 4 (2 ^ e.region.log2) e.region.base words
    (multiple_from_mod (2 ^ e.region.log2) e.region.base e.region.block.aligned) in
    record {
      base = omega (arith, base.1);
      end = omega (arith, base.1, words.1);
      inside = e.region.block.inside;
      some = inl (omega (arith, pow_pos e.region.log2));
    }

-- the addresses of its block that the hart has
within_words : (xlen : Xlen) (cfg address : ℕ) (e : Entry) → MeansEntry cfg address e → 4 * address < space_end xlen → IsWords (within xlen (extent_of e))
within_words xlen cfg address e m inside =
    let words = entry_words e in
    let end = e.region.base + 2 ^ e.region.log2 in
    record {
      base = words.base;
      end = end_words xlen end words.end;
      inside = omega (arith, min-le_left end (space_end xlen), words.inside);
      some = inl (end_above xlen e.region.base end (omega (arith, pow_pos e.region.log2)) (omega (arith, inside, pair_low cfg address e m)));
    }

tor_words : (bottom top : ℕ) (perm : Perm) → top < 2 ^ 54 → IsWords (tor_extent bottom top perm)
tor_words bottom top perm small =
    ⊎_elim
    (λ less.
    subst (λ t. IsWords (cond t (record { base = 4 * bottom; end = 4 * top; perm = perm }) nowhere)) (sym (lt-ltb bottom top less))
    (record { base = omega arith; end = omega arith; inside = omega (arith, small); some = inl (omega (arith, less)) }))
    (λ over. subst (λ t. IsWords (cond t (record { base = 4 * bottom; end = 4 * top; perm = perm }) nowhere)) (sym (le-ltb bottom top over)) nowhere_words)
    (cases_lt bottom top)

pub extent_words : (registers : Registers) (place : ℕ) (x : Extent) → IsExtentAt registers place x → IsWords x
extent_words registers place _ (off o) = nowhere_words
extent_words registers place _ (tor perm h) = tor_words (bottom_of registers place) (kept registers.xlen (address_at registers place)) perm
    (kept_small registers.xlen (address_at registers place))
extent_words registers place _ (block e m) = within_words registers.xlen _ _ e m (kept_inside registers.xlen (address_at registers place))

words_from : (registers : Registers) (place : ℕ) (xs : List Extent) → AreExtentsFrom registers place xs → AllByRecursion IsWords xs
words_from registers place [] are = tt
words_from registers place (x ∷ xs) are = (extent_words registers place x are.0, words_from registers (place + 1) xs are.1)

pub each_words : (registers : Registers) (xs : List Extent) → AreExtents registers xs → AllByRecursion IsWords xs
each_words registers xs are = words_from registers 0 xs are.each

pub all_words : (registers : Registers) (xs : List Extent) → AreExtents registers xs → All IsWords xs
all_words registers xs are = All-from_recursion IsWords xs (each_words registers xs are)

-- ---- in the space

tor_inside : (xlen : Xlen) (bottom top : ℕ) (perm : Perm) → 4 * top < space_end xlen → (tor_extent bottom top perm).end ≤ space_end xlen
tor_inside xlen bottom top perm inside =
    ⊎_elim (λ less. subst (λ t. (cond t (tor_some bottom top perm) nowhere).end ≤ space_end xlen) (sym (lt-ltb bottom top less)) (omega (arith, inside)))
    (λ over. subst (λ t. (cond t (tor_some bottom top perm) nowhere).end ≤ space_end xlen) (sym (le-ltb bottom top over)) (omega arith))
    (cases_lt bottom top)
  where
    tor_some : ℕ → ℕ → Perm → Extent
    tor_some bottom top perm = record { base = 4 * bottom; end = 4 * top; perm = perm }

extent_inside : (registers : Registers) (place : ℕ) (x : Extent) → IsExtentAt registers place x → x.end ≤ space_end registers.xlen
extent_inside registers place _ (off o) = omega arith
extent_inside registers place _ (tor perm h) = tor_inside registers.xlen (bottom_of registers place) (kept registers.xlen (address_at registers place)) perm
    (kept_inside registers.xlen (address_at registers place))
extent_inside registers place _ (block e m) = min-le_right (e.region.base + 2 ^ e.region.log2) (space_end registers.xlen)

inside_from : (registers : Registers) (place : ℕ) (xs : List Extent) → AreExtentsFrom registers place xs
    → AllByRecursion (λ x. x.end ≤ space_end registers.xlen) xs
inside_from registers place [] are = tt
inside_from registers place (x ∷ xs) are = (extent_inside registers place x are.0, inside_from registers (place + 1) xs are.1)

pub all_inside : (registers : Registers) (xs : List Extent) → AreExtents registers xs → All (λ x. x.end ≤ space_end registers.xlen) xs
all_inside registers xs are = All-from_recursion (λ x. x.end ≤ space_end registers.xlen) xs (inside_from registers 0 xs are.each)

-- ---- one more entry

pub one_more : (registers : Registers) (place : ℕ) (xs : List Extent) (x : Extent) → AreExtentsFrom registers place xs
    → IsExtentAt registers (place + length xs) x → AreExtentsFrom registers place (xs ++ x ∷ [])
one_more registers place [] x are is = let same : place + 0 ≡ place = omega arith in (subst (λ p. IsExtentAt registers p x) same is, tt)
one_more registers place (y ∷ xs) x are is =
    let same : place + suc (length xs) ≡ place + 1 + length xs = omega arith in
    (are.0, one_more registers (place + 1) xs x are.1 (subst (λ p. IsExtentAt registers p x) same is))

-- ---- a pair that is decoded without its lock and its high bits

bits_clear : (s : Security) (cfg : ℕ) → IsDefined s cfg → cfg / 32 % 4 ≡ 0
bits_clear s cfg defined = go (cfg / 32 % 4) refl
  where
    go : (n : ℕ) → cfg / 32 % 4 ≡ n → cfg / 32 % 4 ≡ 0
    go zero is = is
    go (suc n) is = absurd (defined Bits (λ none. omega (arith, is, none)))

-- it has no fault where its mode is not TOR
pub no_fault : (s : Security) (cfg address : ℕ) (fault : EncodingFault) → IsDefined s cfg → (user_cfg s cfg / 8 ≡ 1 → ⊥) → address < 2 ^ 54
    → HasFault fault (user_cfg s cfg) address → ⊥
no_fault s cfg address ReservedPerm defined other small has = no_write_alone s cfg defined (omega (arith, has.0)) (omega (arith, has.1))
no_fault s cfg address Tor defined other small has = let low = user_bits_below s cfg in other (omega (arith, has, low, bits_clear s cfg defined))
no_fault s cfg address Locked defined other small has = let low = user_bits_below s cfg in omega (arith, has, low)
no_fault s cfg address ReservedBits defined other small has = let low = user_bits_below s cfg in has (omega (arith, low, bits_clear s cfg defined))
no_fault s cfg address AddressBits defined other small has = omega (arith, has, small)
no_fault s cfg address NoSuchCsr defined other small has = absurd has

-- its three low bits are no reserved permission
pub no_reserved : (s : Security) (cfg : ℕ) → IsDefined s cfg → (user_cfg s cfg % 8 ≡ 2) ⊎ ((user_cfg s cfg % 8 ≡ 6) ⊎ (7 < user_cfg s cfg % 8)) → ⊥
no_reserved s cfg defined (inl two) = no_write_alone s cfg defined (omega (arith, two)) (omega (arith, two))
no_reserved s cfg defined (inr (inl six)) = no_write_alone s cfg defined (omega (arith, six)) (omega (arith, six))
no_reserved s cfg defined (inr (inr more)) = omega (arith, more)

-- one place more has no reserved value
pub one_defined : (registers : Registers) (n : ℕ) → ((place : ℕ) → place < n → IsDefined registers.security (cfg_at registers place))
    → IsDefined registers.security (cfg_at registers n) → (place : ℕ) → place < n + 1 → IsDefined registers.security (cfg_at registers place)
one_defined registers n below here place less =
    ⊎_elim (λ under. below place under) (λ over. let same : n ≡ place = omega (arith, over, less) in subst
    (λ p. IsDefined registers.security (cfg_at registers p)) same here)
    (cases_lt place n)

-- one entry more behind the first ones
pub next_from : (registers : Registers) (place : ℕ) (extents : List Extent) (x : Extent) → place < length extents
    → AreExtentsFrom registers 0 (take place extents) → IsExtentAt registers place x → AreExtentsFrom registers 0 (take (place + 1) (slice_set extents place x))
next_from registers place extents x inside are is =
    let so_far : length (take place extents) ≡ place = length-take-le place extents (omega (arith, inside)) in
    let at : 0 + length (take place extents) ≡ place = omega (arith, so_far) in
    subst (λ (ys : List Extent). AreExtentsFrom registers 0 ys) (sym (take_more_set extents place x inside))
    (one_more registers 0 (take place extents) x are (subst (λ p. IsExtentAt registers p x) (sym at) is))
