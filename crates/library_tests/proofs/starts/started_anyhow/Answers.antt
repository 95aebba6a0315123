use Rattle.std.proofs.Common.{◌==◌, false, if◌then◌else◌, Ok, ap, refl}
use Rattle.std.proofs.lemmas.Bool.{eq-eqb}
use Rattle.board.specs.Board.{Board, memory_after}
use Rattle.library_tests.proofs.starts.started_anyhow.Goals as goal

-- the hart is started, and makes the access
pub returns : goal.returns
returns c = λ old hart byte value a entries known parked has below judged reaches own.
    let new : Board = record old { parked = λ h. if h == hart then false else old.parked h } in
    let after : Board = record new { memory = memory_after (Ok tt) old.memory a value } in (
      new,
      after,
      record { known = known; was_parked = parked; state = refl },
      record {
        up = record { known = known; started = ap (λ b. if b then false else old.parked hart) (eq-eqb hart hart refl) };
        below = below;
        entries = entries;
        loaded = has;
        judged = judged;
        memory = λ at there. refl;
        state = refl;
      },
    )
