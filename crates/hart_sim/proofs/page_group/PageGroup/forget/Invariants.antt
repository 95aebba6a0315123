use Rattle.std.proofs.Common.{◌≡◌, ℕ, ◌-◌, if◌then◌else◌, None}
use Rattle.hart_sim.specs.Memory.{in_range}
use Rattle.hart_sim.specs.Groups.{page_at}
use Rattle.hart_sim.proofs.page_group.PageGroup.forget.Given as goal

abbrev pub invariant-loop-place : goal.invariant-loop-place
invariant-loop-place l = (k : ℕ) → page_at l.self k ≡ (if in_range l.fn.from (l.place - l.fn.from) k then None else page_at l.fn.self k)
