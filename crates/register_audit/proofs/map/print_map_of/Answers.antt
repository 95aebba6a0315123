use Rattle.register_audit.proofs.Meant.{map_meant}
use Rattle.register_audit.proofs.NoMap.{none_meant}
use Rattle.std.proofs.Common.{◌∙◌}
use Rattle.register_audit.proofs.map.print_map_of.Goals as goal

pub returns-clause-means : goal.returns-clause-means
returns-clause-means g c = λ e.
    let meant = map_meant c.args.mode c.in-Ok.listing _ _ c.in-Ok-said_of.ensures.said e in (
      c.in-Ok.listing,
      c.in-Ok.ensures.listing,
      meant.modelled,
      meant.runs,
      meant.are_runs,
      meant.means,
      rw (c.as_slice.ensures.value ∙ meant.is_text) at c.in-Ok-write_whole.ensures,
    )

pub returns-clause-none : goal.returns-clause-none
returns-clause-none g c = λ e. (c.in-Ok.listing, c.in-Ok.ensures.listing, none_meant c.args.mode c.in-Ok.listing _ _ c.in-Ok-said_of.ensures.said e)

pub returns-in_default-clause-broken : goal.returns-in_default-clause-broken
returns-in_default-clause-broken g c = λ e. (
  _,
  _,
  record { leaves = c.in-Ok.listing; listed_as = c.in-Ok.ensures.listing; is_said = c.in-Ok-said_of.ensures.said },
  rw c.as_slice.ensures.value at c.in_default.ensures,
)
