-- A faultless pair is OFF or means an entry, and so a bank has a list.
use Rattle.std.proofs.Common.{◌≡◌, ◌≢◌, ℕ, zero, suc, ◌+◌, ◌*◌, ◌/◌, ◌%◌, ◌^◌, ◌<◌, ◌≤◌, ◌⊎◌, ◌↔◌, inl, inr, ⊎_elim, List, [], ◌∷◌, length, slice_index, refl}
use Rattle.std.proofs.Common.{arith, lit≤}
use Rattle.std.specs.Int.{w64, trailing_ones}
use Rattle.std.proofs.lemmas.Bool.{cases_lt}
use Rattle.pmp_encoding.specs.declared.perm.Perm.{Perm}
use Rattle.pmp_encoding.specs.declared.perm.Perm.TheVariants.{NoAccess, Read, ReadWrite, Execute, ReadExecute, ReadWriteExecute}
use Rattle.pmp_encoding.specs.declared.region.Entry.{Entry}
use Rattle.pmp_encoding.specs.declared.fault.EncodingFault.TheVariants.{ReservedPerm, Tor, Locked, ReservedBits, AddressBits}
use Rattle.pmp_encoding.specs.declared.bank.Bank.{Bank}
use Rattle.pmp_encoding.specs.Perms.{bits_of}
use Rattle.pmp_encoding.specs.Encoding.{IsOff, MeansEntry}
use Rattle.pmp_encoding.specs.Faults.{IsFaultless}
use Rattle.pmp_encoding.specs.Limits.{limit_number}
use Rattle.pmp_encoding.specs.Registers.{cfg_byte, pairs_from}
use Rattle.pmp_encoding.specs.Banks.{MeansList, done, skip, keep, HasList}
use Rattle.pmp_encoding.proofs.Faulty.{off_faultless}
use Rattle.pmp_encoding.proofs.Filled.{limit_most}
use Rattle.pmp_encoding.proofs.Pairs.{bits_below}
use Rattle.pmp_encoding.proofs.Trailing.{trailing_is, block_round, block_holds}

some_perm : (n : ℕ) → n < 8 → ¬ ((n / 2 % 2 ≡ 1) × (n % 2 ≡ 0)) → (p : Perm) × (n ≡ bits_of p)
some_perm zero h legal = (NoAccess, refl)
some_perm (suc zero) h legal = (Read, refl)
some_perm (suc (suc zero)) h legal = absurd (legal (refl, refl))
some_perm (suc (suc (suc zero))) h legal = (ReadWrite, refl)
some_perm (suc (suc (suc (suc zero)))) h legal = (Execute, refl)
some_perm (suc (suc (suc (suc (suc zero))))) h legal = (ReadExecute, refl)
some_perm (suc (suc (suc (suc (suc (suc zero)))))) h legal = absurd (legal (refl, refl))
some_perm (suc (suc (suc (suc (suc (suc (suc zero))))))) h legal = (ReadWriteExecute, refl)
some_perm (suc (suc (suc (suc (suc (suc (suc (suc n)))))))) h legal = absurd (omega (arith, h))

module _ (cfg address : ℕ) (clean : IsFaultless cfg address) where
  small : address < 2 ^ 54
  small = ⊎_elim (λ h. h) (λ h. absurd (clean.none AddressBits h)) (cases_lt address (2 ^ 54))

  short : cfg < 32
  short =
      ⊎_elim (λ h. h)
      (λ h.
      ⊎_elim (λ low. let bits : cfg / 32 % 4 ≢ 0 = omega (arith, h, low) in absurd (clean.none ReservedBits bits))
      (λ high. let byte = clean.byte in let bit : cfg / 128 % 2 ≡ 1 = omega (arith, high, byte) in absurd (clean.none Locked bit)) (cases_lt cfg 128))
      (cases_lt cfg 32)

  legal : ¬ ((cfg % 8 / 2 % 2 ≡ 1) × (cfg % 8 % 2 ≡ 0))
  legal h = clean.none ReservedPerm (let w : cfg / 2 % 2 ≡ 1 = omega (arith, h.0) in w, let r : cfg % 2 ≡ 0 = omega (arith, h.1) in r)

  perm : (p : Perm) × (cfg % 8 ≡ bits_of p)
  perm = some_perm (cfg % 8) (omega arith) legal

  off_from : cfg / 8 ≡ 0 → IsOff cfg address
  off_from h = record { perm = perm.0; bits = omega (arith, h, perm.1); small = small }

  na4_from : cfg / 8 ≡ 2 → (e : Entry) × MeansEntry cfg address e
  na4_from h =
      let inside = small in (
        record {
          region = record {
            base = 4 * address;
            log2 = 2;
            block = record {
              long = lit≤ tt;
              short = lit≤ tt;
              aligned = omega arith;
              inside = omega
                  (arith, inside);
            };
          };
          perm = perm.0;
        },
        inl (record { bits = omega (arith, h, perm.1); small = small; size = refl; place = refl }),
      )

  napot_from : cfg / 8 ≡ 3 → (e : Entry) × MeansEntry cfg address e
  napot_from h = ⊎_elim part (λ over. whole (omega (arith, over))) (cases_lt ones 53)
    where
      ones : ℕ
      ones = trailing_ones w64 address

      bits : cfg ≡ 3 * 8 + bits_of perm.0
      bits = omega (arith, h, perm.1)

      part : trailing_ones w64 address < 53 → (e : Entry) × MeansEntry cfg address e
      part few =
          let n = trailing_ones w64 address in
          let inside = small in (
            record {
              region = record {
                base = 4 * address / 2 ^ (n + 3) * 2 ^ (n + 3);
                log2 = n + 3;
                block = block_round (4 * address) (n + 3) (omega arith)
                    (omega (arith, few)) (omega (arith, inside));
              };
              perm = perm.0;
            },
            inr (record {
              bits = bits;
              small = small;
              ones = n;
              above = (trailing_is address small).above;
              trailing =
                  (trailing_is address small).split;
              size = omega (arith, few);
              place = block_holds (4 * address) (n + 3);
            }),
          )

      whole : 53 ≤ trailing_ones w64 address → (e : Entry) × MeansEntry cfg address e
      whole many =
          let inside = small in (
            record {
              region = record { base = 0; log2 = 56; block = record { long = lit≤ tt; short = lit≤ tt; aligned = refl; inside = lit≤ tt } };
              perm =
                  perm.0;
            },
            inr
                (record {
                  bits = bits;
                  small = small;
                  ones = trailing_ones w64 address;
                  above = (trailing_is address small).above;
                  trailing = (trailing_is address small).split;
                  size = omega (arith, many);
                  place = (omega arith, omega (arith, inside));
                }),
          )

  pub means_or_off : IsOff cfg address ⊎ ((e : Entry) × MeansEntry cfg address e)
  means_or_off = go (cfg / 8) refl
    where
      go : (mode : ℕ) → cfg / 8 ≡ mode → IsOff cfg address ⊎ ((e : Entry) × MeansEntry cfg address e)
      go zero h = inl (off_from h)
      go (suc zero) h = absurd (let tor : cfg / 8 % 4 ≡ 1 = omega (arith, h) in clean.none Tor tor)
      go (suc (suc zero)) h = inr (na4_from h)
      go (suc (suc (suc zero))) h = inr (napot_from h)
      go (suc (suc (suc (suc n)))) h = absurd (let few = short in omega (arith, h, few))

-- OFF is to be faultless in mode 0
pub off_is : (cfg address : ℕ) → IsOff cfg address ↔ (IsFaultless cfg address × (cfg / 8 ≡ 0))
off_is cfg address = ((λ off. (off_faultless cfg address off, omega (arith, off.bits, bits_below off.perm))), (λ h. off_from cfg address h.0 h.1))

-- ---- the list of a bank

list_some :
    (words addresses : List ℕ) (first count : ℕ) → first + count ≤ 64 → ((i : ℕ) → i < 64 → IsFaultless (cfg_byte words i) (slice_index addresses i))
    → (entries : List Entry) × MeansList (pairs_from words addresses first count) entries
list_some words addresses first zero h clean = ([], done)
list_some words addresses first (suc count) h clean =
    let rest = list_some words addresses (suc first) count (omega (arith, h)) clean in
    ⊎_elim (λ off. (rest.0, skip off rest.1)) (λ means. (means.0 ∷ rest.0, keep means.1 rest.1))
    (means_or_off (cfg_byte words first) (slice_index addresses first) (clean first (omega (arith, h))))

pub bank_some : (bank : Bank) → (entries : List Entry) × HasList bank entries
bank_some bank = list_some bank.words bank.addresses 0 (limit_number bank.limit)
    (let most = limit_most bank.limit in omega (arith, most)) bank.registers.faultless

short_list : (words addresses : List ℕ) (first count : ℕ) (entries : List Entry) → MeansList (pairs_from words addresses first count) entries
    → length entries ≤ count
short_list words addresses first zero _ done = omega arith
short_list words addresses first (suc count) _ (skip off rest) = let less = short_list words addresses (suc first) count _ rest in omega (arith, less)
short_list words addresses first (suc count) _ (keep means rest) = let less = short_list words addresses (suc first) count _ rest in omega (arith, less)

pub bank_short : (bank : Bank) (entries : List Entry) → HasList bank entries → length entries ≤ limit_number bank.limit
bank_short bank entries list = short_list bank.words bank.addresses 0 (limit_number bank.limit) entries list
