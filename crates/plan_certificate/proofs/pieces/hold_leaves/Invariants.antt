-- What is held and what is still to be put are the whole.
use Rattle.std.proofs.Common.{◌≡◌, ◌+◌, ◌*◌, ◌≤◌, ◌++◌, length}
use Rattle.plan_certificate.specs.ChainBytes.{leaves_bytes}
use Rattle.plan_certificate.proofs.pieces.hold_leaves.Given as goal

abbrev pub invariant-loop-left : goal.invariant-loop-left
invariant-loop-left l = record {
  room : length l.piece.items + 2 * l.left ≤ 16384;
  held : l.piece.items ++ leaves_bytes l.left l.fn.perm ≡ l.fn.piece.items ++ leaves_bytes l.fn.count l.fn.perm;
}

abbrev pub decreases-loop-left : goal.decreases-loop-left
decreases-loop-left l = l.left
