use Rattle.std.proofs.Common.{◌∙◌, sym, refl}
use Rattle.pmp_encoding.specs.declared.limit.Limit.TheVariants.{Sixteen, SixtyFour}
use Rattle.platforms.proofs.platform.Platform.with_entries.Goals as goal

pub returns-in_default-clause-fault : goal.returns-in_default-clause-fault
returns-in_default-clause-fault c = (
  refl,
  λ is. c.in_default.ensures.none Sixteen (sym (c.from.ensures ∙ is)),
  λ is. c.in_default.ensures.none SixtyFour (sym (c.from.ensures ∙ is)),
)
