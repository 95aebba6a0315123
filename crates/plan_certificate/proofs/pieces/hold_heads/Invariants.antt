-- What is held and what is still to be put are the whole.
use Rattle.std.proofs.Common.{◌≡◌, ℕ, ◌+◌, ◌*◌, ◌^◌, ◌<◌, ◌≤◌, ◌++◌, length}
use Rattle.pmp_encoding.specs.declared.perm.Perm.{Perm}
use Rattle.entry_planner.specs.Plans.{cost_in}
use Rattle.plan_certificate.specs.ChainBytes.{head_bytes, leaves_bytes, tail_bytes}
use Rattle.plan_certificate.proofs.pieces.hold_heads.Given as goal

abbrev pub invariant-loop-rest : goal.invariant-loop-rest
invariant-loop-rest l = record {
  place : l.rest.place < 2 ^ l.rest.levels;
  most : l.rest.levels ≤ 44;
  from : l.fn.i ≤ l.next;
  counted : l.next + l.rest.levels ≡ l.fn.i + l.fn.chain.levels;
  room : length l.piece.items + 27 * l.rest.levels ≤ 16384;
  held : l.piece.items ++ head_bytes l.fn.costs l.next l.rest.levels l.rest.place l.fn.chain.before ≡ l.fn.piece.items
      ++ head_bytes l.fn.costs l.fn.i l.fn.chain.levels l.fn.chain.place l.fn.chain.before;
  tails : (behind : Perm) → leaves_bytes l.behind behind ++ tail_bytes l.rest.levels l.rest.place behind ≡ tail_bytes l.fn.chain.levels l.fn.chain.place behind;
  few : l.behind + l.rest.levels ≤ l.fn.chain.levels;
  fits : (m : ℕ) → l.fn.i ≤ m → m < l.next → (perm : Perm) → cost_in l.fn.costs m perm < 2 ^ 32;
}

abbrev pub decreases-loop-rest : goal.decreases-loop-rest
decreases-loop-rest l = l.rest.levels
