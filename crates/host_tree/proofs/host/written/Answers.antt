use Rattle.std.proofs.Common.{◌∙◌, ◌≤◌, ◌+◌, [], List, length, ap, subst}
use Rattle.device_tree.specs.declared.reservations.Reservation.{Reservation}
use Rattle.device_tree.specs.declared.pieces.PlacedPiece.{PlacedPiece}
use Rattle.device_tree.specs.Pieces.{parts_of}
use Rattle.device_tree.specs.Nodes.{parts_of_tree}
use Rattle.device_tree.specs.Trees.{SpellsTree}
use Rattle.std.proofs.lemmas.Result.{err_from_is_err_and}
use Rattle.host_tree.specs.Refusals.{IsWriteFault}
use Rattle.host_tree.specs.Written.{plain_size}
use Rattle.host_tree.proofs.Sizes.{at_most}
use Rattle.host_tree.proofs.RootRefused.{with_reservations}
use Rattle.host_tree.proofs.WriteFaults.{finish_written}
use Rattle.host_tree.proofs.host.written.Goals as goal

pub returns-in-Ok-clause-ok : goal.returns-in-Ok-clause-ok
returns-in-Ok-clause-ok c = λ board e.
    let made = c.in_ok-put_tree.ensures.put board (ap (λ (x : List PlacedPiece). parts_of x) c.as_slice.ensures.value ∙ e) in (
      made.0,
      made.1,
      subst (λ (x : List Reservation). SpellsTree c.in-Ok.bytes.items made.0 x) c.as_slice-2.ensures.value
          (c.in-Ok.ensures.spelt made.0 (made.2 [] c.new-writer.ensures)),
      subst (λ (x : List Reservation). length c.in-Ok.bytes.items ≤ plain_size made.0 x + c.args.free) c.as_slice-2.ensures.value
          (at_most c.put_tree.new.writer made.0 c.as_slice-2.result.now c.args.free (length c.in-Ok.bytes.items)
          (made.2 [] c.new-writer.ensures) c.in-Ok.ensures.size),
    )

pub returns-in_err-put_tree-clause-refused : goal.returns-in_err-put_tree-clause-refused
returns-in_err-put_tree-clause-refused c =
    let p = err_from_is_err_and c.from_residual.result c.from_residual.ensures.1 in
    rw (p.1, p.2) (λ board e. with_reservations board c.args.ranges.now c.args.read.now.reservations.items _
    (c.in_err-put_tree.ensures.refused board (ap (λ (x : List PlacedPiece). parts_of x) c.as_slice.ensures.value ∙ e)))

pub returns-clause-refused : goal.returns-clause-refused
returns-clause-refused c = λ board e.
    let why = finish_written c.put_tree.new.writer (parts_of_tree board) c.as_slice-2.result.now c.args.free c.in-Err.fault c.in-Err.ensures.refused in
    subst (λ (x : List Reservation). IsWriteFault (parts_of_tree board) x c.in-Err.fault) c.as_slice-2.ensures.value why
