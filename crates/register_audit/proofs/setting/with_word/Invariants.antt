use Rattle.std.proofs.Common.{◌≡◌, ◌+◌, ◌-◌}
use Rattle.register_audit.specs.RegisterListings.{set_bytes}
use Rattle.register_audit.proofs.setting.with_word.Given as goal

abbrev pub invariant-loop-i : goal.invariant-loop-i
invariant-loop-i l = set_bytes l.i (l.place + l.count - l.i) l.rest l.bytes ≡ set_bytes l.place l.count l.value l.initial.bytes
