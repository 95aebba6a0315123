use Rattle.std.proofs.Common.{◌≡◌, ℕ, ◌-◌, ◌/◌, ◌&&◌, if◌then◌else◌, nat_lt, None}
use Rattle.hart_sim.specs.Memory.{in_range}
use Rattle.hart_sim.specs.Groups.{page_on}
use Rattle.hart_sim.proofs.page_span.PageSpan.forget.Given as goal

abbrev pub invariant-loop-group : goal.invariant-loop-group
invariant-loop-group l = (q : ℕ) → page_on l.self q ≡ (if nat_lt (q / 64) l.group && in_range l.from (l.end - l.from) q then None else page_on l.initial.self q)
