-- The bit of the right that a kind of access wants: a permission with that bit lets it through.
use Rattle.std.proofs.Common.{◌≡◌, ◌==◌, not, bit_and, refl}
use Rattle.pmp_encoding.specs.declared.perm.Perm.{Perm}
use Rattle.pmp_encoding.specs.declared.perm.Perm.TheVariants.{NoAccess, Read, ReadWrite, Execute, ReadExecute, ReadWriteExecute}
use Rattle.pmp_encoding.specs.Perms.{bits_of}
use Rattle.pmp_match.specs.declared.access.Kind.TheVariants.{Fetch, Load, Store}
use Rattle.pmp_match.specs.Kinds.{holds}

pub wants_execute : (perm : Perm) → not (bit_and (bits_of perm) 4 == 0) ≡ holds perm Fetch
wants_execute NoAccess = refl
wants_execute Read = refl
wants_execute ReadWrite = refl
wants_execute Execute = refl
wants_execute ReadExecute = refl
wants_execute ReadWriteExecute = refl

pub wants_read : (perm : Perm) → not (bit_and (bits_of perm) 1 == 0) ≡ holds perm Load
wants_read NoAccess = refl
wants_read Read = refl
wants_read ReadWrite = refl
wants_read Execute = refl
wants_read ReadExecute = refl
wants_read ReadWriteExecute = refl

pub wants_write : (perm : Perm) → not (bit_and (bits_of perm) 2 == 0) ≡ holds perm Store
wants_write NoAccess = refl
wants_write Read = refl
wants_write ReadWrite = refl
wants_write Execute = refl
wants_write ReadExecute = refl
wants_write ReadWriteExecute = refl
