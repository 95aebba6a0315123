-- The effect of `mseccfg` on the configuration bytes of entries. (RISC-V Privileged Architecture,
-- Smepmp, PMP Enhancements for memory access and execution prevention on Machine mode)
use Rattle.std.specs.Prelude.{ℕ, ◌+◌, ◌*◌, ◌/◌, ◌%◌, ◌^◌, ◌==◌, if◌then◌else◌}
use Rattle.std.specs.Prelude.{List, [], ◌∷◌, slice_index_or}
use Rattle.pmp_encoding.specs.declared.perm.Perm.{Perm}
use Rattle.pmp_encoding.specs.declared.perm.Perm.TheVariants.{NoAccess, Read, ReadWrite, Execute}
use Rattle.pmp_encoding.specs.declared.perm.Perm.TheVariants.{ReadExecute, ReadWriteExecute}
use Rattle.pmp_encoding.specs.Perms.{bits_of, perm_for}
use Rattle.pmp_match.specs.declared.smepmp.Security.{Security}

-- the fields of a value of `mseccfg`: MML is bit 0, and MMWP bit 1
abbrev pub security_of : ℕ → Security
security_of mseccfg = record {
  lockdown = mseccfg % 2 == 1;
  whitelist = mseccfg / 2 % 2 == 1;
}

-- L, R, W and X, bits 7, 0, 1 and 2 of a configuration byte, as one binary number in that order
abbrev pub rule_of : ℕ → ℕ
rule_of cfg = cfg / 2 ^ 7 % 2 * 8 + cfg % 2 * 4 + cfg / 2 % 2 * 2 + cfg / 4 % 2

-- with MML set: the permissions of machine mode and of supervisor and user mode for each such
-- number, from 0000 to 1111
abbrev pub lockdown_rules : List (Perm × Perm)
lockdown_rules =
    (NoAccess, NoAccess) ∷ (NoAccess, Execute)
    ∷ (ReadWrite, Read) ∷ (ReadWrite, ReadWrite)
    ∷ (NoAccess, Read) ∷ (NoAccess, ReadExecute)
    ∷ (NoAccess, ReadWrite) ∷ (NoAccess, ReadWriteExecute)
    ∷ (NoAccess, NoAccess) ∷ (Execute, NoAccess)
    ∷ (Execute, Execute) ∷ (ReadExecute, Execute)
    ∷ (Read, NoAccess) ∷ (ReadExecute, NoAccess)
    ∷ (ReadWrite, NoAccess) ∷ (Read, Read) ∷ []

-- both permissions for a configuration byte
abbrev pub lockdown_rule : ℕ → Perm × Perm
lockdown_rule cfg = slice_index_or lockdown_rules (rule_of cfg) (NoAccess, NoAccess)

-- the bits R, W and X of supervisor and user mode: with MML set those of the rule, otherwise bits
-- 2:0 of the byte
abbrev pub user_bits : Security → ℕ → ℕ
user_bits s cfg = if s.lockdown then bits_of (lockdown_rule cfg).1 else cfg % 8

-- the configuration byte that gives supervisor and user mode the same on a hart without Smepmp:
-- bits 6:3 are unchanged, and L, bit 7, is clear, which has no effect on these modes
abbrev pub user_cfg : Security → ℕ → ℕ
user_cfg s cfg = cfg / 8 % 16 * 8 + user_bits s cfg

-- the permission of machine mode: with MML set that of the rule; otherwise bits 2:0 if the entry is
-- locked by L, bit 7, and everything if not
abbrev pub machine_perm : Security → ℕ → Perm
machine_perm s cfg = if s.lockdown then (lockdown_rule cfg).0
    else (if cfg / 2 ^ 7 % 2 == 1 then perm_for (cfg % 8) else ReadWriteExecute)

-- the permission of machine mode for addresses that no entry matches: nothing with MMWP set,
-- otherwise no execution with MML set, otherwise everything
abbrev pub machine_default : Security → Perm
machine_default s = if s.whitelist then NoAccess
    else (if s.lockdown then ReadWrite else ReadWriteExecute)
