-- The checker's refusals: those for faults of the reader, their numbers and their names.
use Rattle.std.specs.Prelude.{ℕ, List, codes}
use Rattle.certificate_format.specs.declared.fault.ReadFault.{ReadFault}
use Rattle.certificate_format.specs.declared.fault.ReadFault.TheVariants as Read
use Rattle.certificate_check.specs.declared.refusal.CheckRefusal.{CheckRefusal}
use Rattle.certificate_check.specs.declared.refusal.CheckRefusal.TheVariants.{BadMagic, BadVersion}
use Rattle.certificate_check.specs.declared.refusal.CheckRefusal.TheVariants.{Truncated, BadTag}
use Rattle.certificate_check.specs.declared.refusal.CheckRefusal.TheVariants.{BadPerm, BadEntry}
use Rattle.certificate_check.specs.declared.refusal.CheckRefusal.TheVariants.{SubPageEntry, TooDeep}
use Rattle.certificate_check.specs.declared.refusal.CheckRefusal.TheVariants.{LeafNotUniform}
use Rattle.certificate_check.specs.declared.refusal.CheckRefusal.TheVariants.{WrongLeaf}
use Rattle.certificate_check.specs.declared.refusal.CheckRefusal.TheVariants.{CostTooHigh}
use Rattle.certificate_check.specs.declared.refusal.CheckRefusal.TheVariants.{CostOverflow}
use Rattle.certificate_check.specs.declared.refusal.CheckRefusal.TheVariants.{EntriesTooMany}
use Rattle.certificate_check.specs.declared.refusal.CheckRefusal.TheVariants.{WrongMeaning}
use Rattle.certificate_check.specs.declared.refusal.CheckRefusal.TheVariants.{Trailing, BadLimit}

-- the refusal for a fault of the reader
abbrev pub refusal_of : ReadFault → CheckRefusal
refusal_of Read.BadMagic = BadMagic
refusal_of Read.BadVersion = BadVersion
refusal_of Read.Truncated = Truncated
refusal_of Read.BadTag = BadTag
refusal_of Read.BadPerm = BadPerm
refusal_of Read.BadLimit = BadLimit

-- the number of a refusal
abbrev pub refusal_number : CheckRefusal → ℕ
refusal_number BadMagic = 1
refusal_number BadVersion = 2
refusal_number Truncated = 3
refusal_number BadTag = 4
refusal_number BadPerm = 5
refusal_number BadEntry = 6
refusal_number SubPageEntry = 7
refusal_number TooDeep = 8
refusal_number LeafNotUniform = 9
refusal_number WrongLeaf = 10
refusal_number CostTooHigh = 11
refusal_number CostOverflow = 12
refusal_number EntriesTooMany = 13
refusal_number WrongMeaning = 14
refusal_number Trailing = 15
refusal_number BadLimit = 16

-- the name of a refusal, as `check` prints it
abbrev pub refusal_name : CheckRefusal → List ℕ
refusal_name BadMagic = codes "BadMagic"
refusal_name BadVersion = codes "BadVersion"
refusal_name Truncated = codes "Truncated"
refusal_name BadTag = codes "BadTag"
refusal_name BadPerm = codes "BadPerm"
refusal_name BadEntry = codes "BadEntry"
refusal_name SubPageEntry = codes "SubPageEntry"
refusal_name TooDeep = codes "TooDeep"
refusal_name LeafNotUniform = codes "LeafNotUniform"
refusal_name WrongLeaf = codes "WrongLeaf"
refusal_name CostTooHigh = codes "CostTooHigh"
refusal_name CostOverflow = codes "CostOverflow"
refusal_name EntriesTooMany = codes "EntriesTooMany"
refusal_name WrongMeaning = codes "WrongMeaning"
refusal_name Trailing = codes "Trailing"
refusal_name BadLimit = codes "BadLimit"
