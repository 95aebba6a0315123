use Rattle.std.proofs.Common.{◌/◌, ◌%◌, ap}
use Rattle.hart_sim.specs.Groups.{page_of}
use Rattle.hart_sim.proofs.Groups.{none_at}
use Rattle.hart_sim.proofs.page_span.PageSpan.new.Goals as goal

pub returns : goal.returns
returns c = λ place. ap (λ o. page_of o (place % 64)) (none_at 64 (place / 64))
