use Rattle.std.proofs.Common.{◌≡◌, ℕ, ◌==◌, ◌&&◌, not, true, nat_lt, if◌then◌else◌}
use Rattle.monitor_core.specs.Changes.{is_host}
use Rattle.monitor_core.specs.Parts.{mark_in, world_in}
use Rattle.monitor_core.proofs.parts.MonitorParts.mark_others.Given as goal

abbrev pub invariant-loop-other : goal.invariant-loop-other
invariant-loop-other l = record {
  table : l.self.table ≡ l.fn.self.table;
  worlds : l.self.worlds ≡ l.fn.self.worlds;
  marks : (h : ℕ) → mark_in l.self.marked h ≡ (if nat_lt h l.other && not (h == l.hart) && is_host
      (world_in l.fn.self.worlds h) then true else mark_in l.fn.self.marked h);
}
