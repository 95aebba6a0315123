use Rattle.std.proofs.Common.{take}
use Rattle.std.specs.List.{flat_map}
use Rattle.plan_certificate.specs.Pieces.{taken, IsPut}
use Rattle.plan_certificate.specs.Written.{entry_bytes}
use Rattle.plan_certificate.proofs.pieces.put_entries.Given as goal

abbrev pub invariant-loop-i : goal.invariant-loop-i
invariant-loop-i g l =
    let now = taken g.W.Sink.contents g.W.Sink.failures g.W.Sink.stalls in
    IsPut l.initial.piece.items l.piece.items (now l.initial.sink) (now l.sink) (flat_map entry_bytes (take l.i (g.P.WrittenPlan.planned l.plan).entries))
