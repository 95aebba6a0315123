-- What the number of a packed entry has in it.
use Rattle.std.proofs.Common.{◌≡◌, ℕ, ◌+◌, ◌*◌, ◌/◌, ◌%◌, ◌^◌, ◌<◌, ◌∙◌, refl, sym, ap, subst, arith}
use Rattle.pmp_encoding.specs.declared.perm.Perm.{Perm}
use Rattle.pmp_encoding.specs.declared.perm.Perm.TheVariants.{NoAccess, Read, ReadWrite, Execute, ReadExecute, ReadWriteExecute}
use Rattle.pmp_encoding.specs.declared.region.Entry.{Entry}
use Rattle.pmp_encoding.specs.Block.{IsBlock}
use Rattle.pmp_encoding.specs.Perms.{bits_of, perm_for}
use Rattle.pmp_encoding.specs.PackedEntries.{HasBits, HasBlock, base_in, log2_in, entry_in}
use Rattle.pmp_encoding.proofs.Multiples.{multiple_from_mod, multiple_trans, power_multiple}
use Rattle.pmp_encoding.proofs.Pairs.{bits_below, same_entry, same_region}

perm_for-bits : (p : Perm) → perm_for (bits_of p) ≡ p
perm_for-bits NoAccess = refl
perm_for-bits Read = refl
perm_for-bits ReadWrite = refl
perm_for-bits Execute = refl
perm_for-bits ReadExecute = refl
perm_for-bits ReadWriteExecute = refl

-- the three parts of a number that is made of them
parts : (quarter k b : ℕ) → k < 64 → b < 8 → ((quarter * 512 + k * 8 + b) / 512 ≡ quarter) × ((quarter * 512 + k * 8 + b) / 8 % 64 ≡ k)
    × ((quarter * 512 + k * 8 + b) % 8 ≡ b)
parts quarter k b small few = (omega arith, omega arith, omega arith)

-- a block's lowest address is a multiple of four
quarter_whole : (base log2 : ℕ) → IsBlock base log2 → base / 4 * 4 ≡ base
quarter_whole base log2 block =
    let four = multiple_trans 4 (2 ^ log2) base (power_multiple 2 log2 block.long) (multiple_from_mod (2 ^ log2) base block.aligned) in
    omega (arith, four.1)

abbrev Is : Entry → ℕ → Type 0
Is e n = n ≡ e.region.base / 4 * 512 + e.region.log2 * 8 + bits_of e.perm

pub number_is : (e : Entry) (size bits b : ℕ) → size ≡ e.region.log2 → bits ≡ b → b ≡ bits_of e.perm → Is e (e.region.base / 4 * 512 + size * 8 + bits)
number_is e size bits b is same of = omega (arith, is, same, of)

-- such a number has the entry's region, and the bits of its permission
record Parts (e : Entry) (n : ℕ) : Type 0 where
  pub base : base_in n ≡ e.region.base
  pub log2 : log2_in n ≡ e.region.log2
  pub bits : n % 8 ≡ bits_of e.perm

parts_of : (e : Entry) (n : ℕ) → Is e n → Parts e n
parts_of e n is =
    let short = e.region.block.short in
    let its = parts (e.region.base / 4) e.region.log2 (bits_of e.perm) (omega (arith, short)) (bits_below e.perm) in
    record {
      base = ap (λ m. m / 512 * 4) is ∙ ap (λ m. m * 4) its.0 ∙ quarter_whole e.region.base e.region.log2 e.region.block;
      log2 = ap (λ m. m / 8 % 64) is ∙ its.1;
      bits = ap (λ m. m % 8) is ∙ its.2;
    }

pub has_block : (e : Entry) (n : ℕ) → Is e n → HasBlock n
has_block e n is =
    let own = parts_of e n is in
    let P : ℕ → Type 0 = λ b. IsBlock b e.region.log2 in
    let Q : ℕ → Type 0 = λ l. IsBlock (base_in n) l in
    subst Q (sym own.log2) (subst P (sym own.base) e.region.block)

pub has_bits : (e : Entry) (n : ℕ) → Is e n → HasBits n
has_bits e n is =
    let own = parts_of e n is in
    ap (λ b. bits_of (perm_for b)) own.bits ∙ ap bits_of (perm_for-bits e.perm) ∙ sym own.bits

pub entry_is : (e : Entry) (n : ℕ) → Is e n → (block : HasBlock n) → entry_in n block ≡ e
entry_is e n is block =
    let own = parts_of e n is in
    same_entry (entry_in n block) e (same_region (entry_in n block).region e.region own.base own.log2) (ap perm_for own.bits ∙ perm_for-bits e.perm)

-- which proof it carries makes no difference
pub region_same : (n : ℕ) (a b : HasBlock n) → record { base = base_in n; log2 = log2_in n; block = a } ≡ (entry_in n b).region
region_same n a b = same_region (record { base = base_in n; log2 = log2_in n; block = a }) (entry_in n b).region refl refl

pub entry_same : (n : ℕ) (a b : HasBlock n) → entry_in n a ≡ entry_in n b
entry_same n a b = same_entry (entry_in n a) (entry_in n b) (region_same n a b) refl
