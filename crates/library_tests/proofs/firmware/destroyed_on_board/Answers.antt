use Rattle.std.proofs.Common.{ℕ, subst, sym}
use Rattle.board.specs.Board.{Board, access, trapped, happened}
use Rattle.board.specs.Held.{CanConfine, ControlRegisters}
use Rattle.library_tests.proofs.firmware.destroyed_on_board.Goals as goal

-- one event more is a run too, of which the law holds
pub returns : goal.returns
returns c = λ layout opened events old trap frame read question answered new run does rules answer can id gone.
    let still : (hart : ℕ) → CanConfine (new.csrs hart) = λ hart.
    subst (λ (cs : ℕ → ControlRegisters). CanConfine (cs hart)) (sym does.duties.csrs) (can hart) in
    let last = c.board_law.ensures layout opened _ new (happened run (trapped trap frame read question answered) does) rules answer still in
    record {
      closed = λ hart a value said after byte x own reaches other.
          let same : (hart : ℕ) → CanConfine (after.csrs hart) = λ h. subst (λ (b : Board). CanConfine (b.csrs h)) (sym x.state) (can h) in
          let next = c.board_law.ensures layout opened _ after (happened run (access hart a value said) x) rules answer same in
          next.each.1.denied id byte gone.0 (gone.1, own) reaches other;
      zero = λ byte own. last.each.1.0.zeroes id gone byte own;
      entries = last.banks;
    }
