-- A refusal's name fits in a line.
use Rattle.std.proofs.Common.{◌≤◌, length, arith}
use Rattle.certificate_check.specs.declared.refusal.CheckRefusal.{CheckRefusal}
use Rattle.certificate_check.specs.declared.refusal.CheckRefusal.TheVariants.{BadMagic, BadVersion, Truncated, BadTag, BadPerm, BadEntry, SubPageEntry, TooDeep}
use Rattle.certificate_check.specs.declared.refusal.CheckRefusal.TheVariants.{LeafNotUniform, WrongLeaf, CostTooHigh, CostOverflow, EntriesTooMany}
use Rattle.certificate_check.specs.declared.refusal.CheckRefusal.TheVariants.{WrongMeaning, Trailing, BadLimit}
use Rattle.certificate_check.specs.Refusals.{refusal_name}

pub name_fits : (refusal : CheckRefusal) → length (refusal_name refusal) ≤ 32
name_fits BadMagic = omega arith
name_fits BadVersion = omega arith
name_fits Truncated = omega arith
name_fits BadTag = omega arith
name_fits BadPerm = omega arith
name_fits BadEntry = omega arith
name_fits SubPageEntry = omega arith
name_fits TooDeep = omega arith
name_fits LeafNotUniform = omega arith
name_fits WrongLeaf = omega arith
name_fits CostTooHigh = omega arith
name_fits CostOverflow = omega arith
name_fits EntriesTooMany = omega arith
name_fits WrongMeaning = omega arith
name_fits Trailing = omega arith
name_fits BadLimit = omega arith
