-- What a list that means a view gives at each byte: the regions are made of aligned words of four bytes.
use Rattle.std.proofs.Common.{◌≡◌, ℕ, ◌+◌, ◌*◌, ◌/◌, ◌^◌, ◌<◌, ◌≤◌, List, [], ◌∷◌, true, cond, nat_lt, nat_le, refl, sym, ap, ap₂, ◌∙◌, arith}
use Rattle.std.proofs.lemmas.Bool.{ltb-true, leb-true, lt-ltb, le-leb, and_from, and_parts}
use Rattle.pmp_encoding.specs.declared.perm.Perm.TheVariants.{NoAccess}
use Rattle.pmp_encoding.specs.declared.region.Region.{Region}
use Rattle.pmp_encoding.specs.declared.region.Entry.{Entry}
use Rattle.pmp_encoding.proofs.Multiples.{IsMultiple, multiple_from_mod, multiple_trans, power_multiple}
use Rattle.pmp_match.specs.Bytes.{holds_byte, perm_at}
use Rattle.pmp_match.specs.Meaning.{View, Means}
use Rattle.pmp_match.proofs.FirstByte.{same_bool}
use Rattle.pmp_match.proofs.Meant.{Means_at_word}

-- the region holds a byte where it holds the first of its word
module _ (region : Region) (byte : ℕ) where
  words : IsMultiple 4 (2 ^ region.log2)
  words = power_multiple 2 region.log2 region.block.long

  base : IsMultiple 4 region.base
  base = multiple_trans 4 (2 ^ region.log2) region.base words (multiple_from_mod (2 ^ region.log2) region.base region.block.aligned)

  there : holds_byte region (4 * (byte / 4)) ≡ true → holds_byte region byte ≡ true
  there h =
      let both : (nat_le region.base (4 * (byte / 4)) ≡ true) × (nat_lt (4 * (byte / 4)) (region.base + 2 ^ region.log2) ≡ true) = and_parts _ _ h in
      let low : region.base ≤ 4 * (byte / 4) = leb-true _ _ both.0 in
      let high : 4 * (byte / 4) < region.base + 2 ^ region.log2 = ltb-true _ _ both.1 in
      let under : region.base ≤ byte = omega (arith, low) in
      let over : byte < region.base + 2 ^ region.log2 = omega (arith, high, base.1, words.1) in
      and_from _ _ (le-leb _ _ under) (lt-ltb _ _ over)

  back : holds_byte region byte ≡ true → holds_byte region (4 * (byte / 4)) ≡ true
  back h =
      let both : (nat_le region.base byte ≡ true) × (nat_lt byte (region.base + 2 ^ region.log2) ≡ true) = and_parts _ _ h in
      let low : region.base ≤ byte = leb-true _ _ both.0 in
      let high : byte < region.base + 2 ^ region.log2 = ltb-true _ _ both.1 in
      let under : region.base ≤ 4 * (byte / 4) = omega (arith, low, base.1) in
      let over : 4 * (byte / 4) < region.base + 2 ^ region.log2 = omega (arith, high) in
      and_from _ _ (le-leb _ _ under) (lt-ltb _ _ over)

  word_byte : holds_byte region (4 * (byte / 4)) ≡ holds_byte region byte
  word_byte = same_bool (holds_byte region (4 * (byte / 4))) (holds_byte region byte) there back

perm_at_word : (es : List Entry) (byte : ℕ) → perm_at NoAccess es (4 * (byte / 4)) ≡ perm_at NoAccess es byte
perm_at_word [] byte = refl
perm_at_word (e ∷ es) byte = ap₂ (λ held rest. cond held e.perm rest) (word_byte e.region byte) (perm_at_word es byte)

pub byte_law_proof : (es : List Entry) (view : View) → Means es view → (address : ℕ) → address < 2 ^ 56 → perm_at NoAccess es address ≡ view (address / 4096)
byte_law_proof es view means address small =
    let page : 4 * (address / 4) / 4096 ≡ address / 4096 = omega arith in
    sym (perm_at_word es address) ∙ Means_at_word es view means (address / 4) (omega (arith, small)) ∙ ap view page
