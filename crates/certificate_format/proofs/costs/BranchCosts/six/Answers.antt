-- The six numbers are those at the six places.
use Rattle.std.proofs.Common.{◌≡◌, ◌∙◌}
use Rattle.certificate_format.specs.Costs.{costs_in}
use Rattle.certificate_format.specs.declared.costs.SixCosts.{SixCosts}
use Rattle.certificate_format.proofs.costs.BranchCosts.six.Goals as goal

pub returns : goal.returns
returns c =
    let all : SixCosts = costs_in c.self.inside.bytes.now in
    cc (
      c.number_at.ensures,
      c.number_at-2.ensures,
      c.number_at-3.ensures,
      c.number_at-4.ensures,
      c.number_at-5.ensures,
      c.number_at-6.ensures,
    ) ∙ c.self.view_is
