-- Faults of pairs: which pairs have none, and which has the least number.
use Rattle.std.proofs.Common.{◌≡◌, ◌≢◌, ℕ, ◌+◌, ◌*◌, ◌/◌, ◌%◌, ◌^◌, ◌<◌, ⊎_elim, Option, Some, None, Result, Ok, Err, cond, nat_eq, refl, sym, ap, ◌∙◌, arith}
use Rattle.std.proofs.Common.{MatchOption, MatchResult, IfOk}
use Rattle.pmp_encoding.specs.declared.perm.Perm.{Perm}
use Rattle.pmp_encoding.specs.declared.perm.Perm.TheVariants.{NoAccess, Read, ReadWrite, Execute, ReadExecute, ReadWriteExecute}
use Rattle.pmp_encoding.specs.declared.region.Entry.{Entry}
use Rattle.pmp_encoding.specs.declared.fault.EncodingFault.{EncodingFault}
use Rattle.pmp_encoding.specs.declared.fault.EncodingFault.TheVariants.{ReservedPerm, Tor, Locked, ReservedBits, AddressBits, NoSuchCsr}
use Rattle.pmp_encoding.specs.Perms.{bits_of}
use Rattle.pmp_encoding.specs.Encoding.{IsOff, MeansEntry}
use Rattle.pmp_encoding.specs.Faults.{fault_number, HasFault, IsFaultless, IsLeastFault}
use Rattle.pmp_encoding.proofs.Pairs.{one_entry, not_off}

-- ---- a pair that is OFF or means an entry has no fault

-- the bits of a permission below a mode of 0, 2 or 3
module _ (cfg address mode : ℕ) (perm : Perm) (bits : cfg ≡ mode * 8 + bits_of perm) (short : mode < 4) (known : mode ≢ 1) (small : address < 2 ^ 54) where
  apart : (p : Perm) → cfg ≡ mode * 8 + bits_of p → ¬ HasFault ReservedPerm cfg address
  apart NoAccess e s = omega arith
  apart Read e s = omega arith
  apart ReadWrite e s = omega arith
  apart Execute e s = omega arith
  apart ReadExecute e s = omega arith
  apart ReadWriteExecute e s = omega arith

  within : (p : Perm) → cfg ≡ mode * 8 + bits_of p → (cfg / 8 ≡ mode) × (cfg < 32)
  within NoAccess e = (omega arith, omega arith)
  within Read e = (omega arith, omega arith)
  within ReadWrite e = (omega arith, omega arith)
  within Execute e = (omega arith, omega arith)
  within ReadExecute e = (omega arith, omega arith)
  within ReadWriteExecute e = (omega arith, omega arith)

  mode_faultless : IsFaultless cfg address
  mode_faultless =
      let inside = within perm bits in
      record { byte = omega (arith, inside.1); none = go }
    where
      go : (fault : EncodingFault) → ¬ HasFault fault cfg address
      go ReservedPerm s = apart perm bits s
      go Tor s = let inside = within perm bits in omega (arith, inside.0, s)
      go Locked s = let inside = within perm bits in omega (arith, inside.1, s)
      go ReservedBits s = let inside = within perm bits in let none : cfg / 32 % 4 ≡ 0 = omega (arith, inside.1) in s none
      go AddressBits s = omega (arith, s)
      go NoSuchCsr s = s

pub off_faultless : (cfg address : ℕ) → IsOff cfg address → IsFaultless cfg address
off_faultless cfg address off = mode_faultless cfg address 0 off.perm (omega (arith, off.bits)) (omega arith) (omega arith) off.small

pub entry_faultless : (cfg address : ℕ) (e : Entry) → MeansEntry cfg address e → IsFaultless cfg address
entry_faultless cfg address e p =
    ⊎_elim (λ a. mode_faultless cfg address 2 e.perm a.bits (omega arith) (omega arith) a.small)
    (λ a. mode_faultless cfg address 3 e.perm a.bits (omega arith) (omega arith) a.small) p

-- ---- what is decoded is all that there is

-- a fault of a pair is no fault of a faultless one, and the least one is one
pub one_fault : (cfg address : ℕ) (f g : EncodingFault) → IsLeastFault cfg address f → IsLeastFault cfg address g → f ≡ g
one_fault cfg address f g p q = same_number f g (omega (arith, p.least g q.has, q.least f p.has))
  where
    fault_from : ℕ → EncodingFault
    fault_from n =
        cond (nat_eq n 1) ReservedPerm
        (cond (nat_eq n 2) Tor (cond (nat_eq n 3) Locked (cond (nat_eq n 4) ReservedBits (cond (nat_eq n 5) AddressBits NoSuchCsr))))

    fault_from_number : (f : EncodingFault) → fault_from (fault_number f) ≡ f
    fault_from_number ReservedPerm = refl
    fault_from_number Tor = refl
    fault_from_number Locked = refl
    fault_from_number ReservedBits = refl
    fault_from_number AddressBits = refl
    fault_from_number NoSuchCsr = refl

    same_number : (f g : EncodingFault) → fault_number f ≡ fault_number g → f ≡ g
    same_number f g h = sym (fault_from_number f) ∙ ap fault_from h ∙ fault_from_number g

abbrev IsMeaning : ℕ → ℕ → Option Entry → Type 0
IsMeaning cfg address o = MatchOption o (IsOff cfg address) (MeansEntry cfg address)

pub entry_decoded :
    (cfg address : ℕ) (r : Result (Option Entry) EncodingFault) → MatchResult r (λ _. IsFaultless cfg address) (IsLeastFault cfg address)
    → IfOk r (IsMeaning cfg address) → (e : Entry) → MeansEntry cfg address e
    → r ≡ Ok (Some e)
entry_decoded cfg address (Err f) fault meaning e p = absurd ((entry_faultless cfg address e p).none f fault.has)
entry_decoded cfg address (Ok None) fault meaning e p = absurd (not_off cfg address e p meaning)
entry_decoded cfg address (Ok (Some d)) fault meaning e p = ap (λ x. Ok (Some x)) (one_entry cfg address d e meaning p)

pub fault_decoded :
    (cfg address : ℕ) (r : Result (Option Entry) EncodingFault) → MatchResult r (λ _. IsFaultless cfg address) (IsLeastFault cfg address) → (f : EncodingFault)
    → IsLeastFault cfg address f → r ≡ Err f
fault_decoded cfg address (Err g) fault f p = ap (λ x. Err x) (one_fault cfg address g f fault p)
fault_decoded cfg address (Ok o) clean f p = absurd (clean.none f p.has)
