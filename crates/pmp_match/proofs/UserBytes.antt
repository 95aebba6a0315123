-- The configuration byte that supervisor and user mode see.
use Rattle.std.proofs.Common.{◌≡◌, ℕ, ◌/◌, ◌%◌, ◌<◌, zero, suc, Bool, true, false, cond, slice_index_or, refl, ap, ◌∙◌, arith}
use Rattle.pmp_encoding.specs.declared.fault.EncodingFault.TheVariants.{ReservedPerm, Locked}
use Rattle.pmp_encoding.specs.declared.perm.Perm.{Perm}
use Rattle.pmp_encoding.specs.declared.perm.Perm.TheVariants.{NoAccess, Read, ReadWrite, Execute, ReadExecute, ReadWriteExecute}
use Rattle.pmp_encoding.specs.Faults.{IsFaultless}
use Rattle.pmp_encoding.specs.Perms.{bits_of}
use Rattle.pmp_encoding.proofs.Pairs.{bits_below}
use Rattle.pmp_match.specs.declared.reserved.Reserved.TheVariants.{Permission}
use Rattle.pmp_match.specs.declared.smepmp.Security.{Security}
use Rattle.pmp_match.specs.Reserved.{IsDefined}
use Rattle.pmp_match.specs.Smepmp.{lockdown_rule, lockdown_rules, rule_of, user_bits, user_cfg}

-- where R, W and X are from
data Origin (s : Security) (cfg : ℕ) : Type 0 where
  plain : s.lockdown ≡ false → user_bits s cfg ≡ cfg % 8 → Origin s cfg
  ruled : s.lockdown ≡ true → user_bits s cfg ≡ bits_of (lockdown_rule cfg).1 → Origin s cfg

origin : (s : Security) (cfg : ℕ) → Origin s cfg
origin s cfg = go s.lockdown refl
  where
    go : (t : Bool) → s.lockdown ≡ t → Origin s cfg
    go true is = ruled is (ap (λ t. cond t (bits_of (lockdown_rule cfg).1) (cfg % 8)) is)
    go false is = plain is (ap (λ t. cond t (bits_of (lockdown_rule cfg).1) (cfg % 8)) is)

pub user_bits_below : (s : Security) (cfg : ℕ) → user_bits s cfg < 8
user_bits_below s cfg = go (origin s cfg)
  where
    go : Origin s cfg → user_bits s cfg < 8
    go (plain off is) = omega (arith, is)
    go (ruled on is) = omega (arith, is, bits_below (lockdown_rule cfg).1)

-- no permission is W without R
never_writes_alone : (p : Perm) → bits_of p / 2 % 2 ≡ 1 → bits_of p % 2 ≡ 0 → ⊥
never_writes_alone NoAccess w r = omega (arith, w, r)
never_writes_alone Read w r = omega (arith, w, r)
never_writes_alone ReadWrite w r = omega (arith, w, r)
never_writes_alone Execute w r = omega (arith, w, r)
never_writes_alone ReadExecute w r = omega (arith, w, r)
never_writes_alone ReadWriteExecute w r = omega (arith, w, r)

-- a byte without a reserved value is not seen as W without R
pub no_write_alone : (s : Security) (cfg : ℕ) → IsDefined s cfg → user_bits s cfg / 2 % 2 ≡ 1 → user_bits s cfg % 2 ≡ 0 → ⊥
no_write_alone s cfg defined w r = go (origin s cfg)
  where
    go : Origin s cfg → ⊥
    go (plain off is) = defined Permission (off, (omega (arith, is, w), omega (arith, is, r)))
    go (ruled on is) = never_writes_alone (lockdown_rule cfg).1 (omega (arith, is, w)) (omega (arith, is, r))

-- and one with a reserved permission is
pub write_alone_seen : (s : Security) (cfg : ℕ) → s.lockdown ≡ false → user_bits s cfg ≡ cfg % 8
write_alone_seen s cfg off = ap (λ t. cond t (bits_of (lockdown_rule cfg).1) (cfg % 8)) off

-- ---- a byte without a fault means the same under any `mseccfg`

ruled_bits : (cfg : ℕ) → cfg < 128 → (cfg / 2 % 2 ≡ 1 → cfg % 2 ≡ 0 → ⊥) → bits_of (lockdown_rule cfg).1 ≡ cfg % 8
ruled_bits cfg small sound = go (cfg % 8) refl
  where
    by_rule : (n rule : ℕ) → rule_of cfg ≡ rule → bits_of (slice_index_or lockdown_rules rule (NoAccess, NoAccess)).1 ≡ n → bits_of (lockdown_rule cfg).1 ≡ n
    by_rule n rule is same = ap (λ r. bits_of (slice_index_or lockdown_rules r (NoAccess, NoAccess)).1) is ∙ same

    go : (n : ℕ) → cfg % 8 ≡ n → bits_of (lockdown_rule cfg).1 ≡ n
    go zero is = by_rule 0 0 (omega (arith, is, small)) refl
    go (suc zero) is = by_rule 1 4 (omega (arith, is, small)) refl
    go (suc (suc zero)) is = absurd (sound (omega (arith, is)) (omega (arith, is)))
    go (suc (suc (suc zero))) is = by_rule 3 6 (omega (arith, is, small)) refl
    go (suc (suc (suc (suc zero)))) is = by_rule 4 1 (omega (arith, is, small)) refl
    go (suc (suc (suc (suc (suc zero))))) is = by_rule 5 5 (omega (arith, is, small)) refl
    go (suc (suc (suc (suc (suc (suc zero)))))) is = absurd (sound (omega (arith, is)) (omega (arith, is)))
    go (suc (suc (suc (suc (suc (suc (suc zero))))))) is = by_rule 7 7 (omega (arith, is, small)) refl
    go (suc (suc (suc (suc (suc (suc (suc (suc n)))))))) is = absurd (omega (arith, is))

pub plain_cfg : (s : Security) (cfg : ℕ) → cfg < 128 → (cfg / 2 % 2 ≡ 1 → cfg % 2 ≡ 0 → ⊥) → user_cfg s cfg ≡ cfg
plain_cfg s cfg small sound = go (origin s cfg)
  where
    go : Origin s cfg → user_cfg s cfg ≡ cfg
    go (plain off is) = omega (arith, is, small)
    go (ruled on is) = let same = ruled_bits cfg small sound in omega (arith, is, same, small)

pub whole_cfg : (s : Security) (cfg address : ℕ) → IsFaultless cfg address → user_cfg s cfg ≡ cfg
whole_cfg s cfg address faultless = plain_cfg s cfg (small (cfg / 128) refl) (λ w r. faultless.none ReservedPerm (w, r))
  where
    small : (top : ℕ) → cfg / 128 ≡ top → cfg < 128
    small zero is = omega (arith, is)
    small (suc top) is = absurd (faultless.none Locked (omega (arith, is, faultless.byte)))
