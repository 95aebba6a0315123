use Rattle.std.proofs.Common.{◌∙◌, ap, inl, inr, refl, subst, sym}
use Rattle.device_tree.specs.Pieces.{parts_of}
use Rattle.device_tree.specs.Places.{ArePlaced, block_of}
use Rattle.device_tree.specs.Trees.{front_of}
use Rattle.board_texts.proofs.platform.platform_text_of.Goals as goal

pub returns-in-Ok-platform_of_pieces-clause-ok : goal.returns-in-Ok-platform_of_pieces-clause-ok
returns-in-Ok-platform_of_pieces-clause-ok c =
    let read = c.in-Ok.ensures.ok in
    let said = c.in-Ok-platform_of_pieces.ensures.ok read.0 (ap parts_of c.as_slice-pieces.ensures.value ∙ read.2) in
    record {
      ranges = said.0;
      reservations = c.in-Ok.tree.reservations.items;
      board = record { tree = read.0; read = read.1; says = said.1 };
      platform = rw c.as_slice.ensures.value at said.2;
    }

pub returns-in-Err-clause-refused : goal.returns-in-Err-clause-refused
returns-in-Err-clause-refused c = inl (c.in-Err.fault, refl, λ m. (c.in-Err.ensures.reason m, c.in-Err.ensures.refused m))

pub returns-clause-refused : goal.returns-clause-refused
returns-clause-refused c =
    let read = c.in-Ok.ensures.ok in
    inr (
      read.0,
      c.in-Ok.tree.reservations.items,
      read.1,
      c.in-Err-platform_of_pieces.ensures.refused (block_of (front_of c.args.bytes.now)) read.0
          (ap parts_of c.as_slice-pieces.ensures.value ∙ read.2)
          (subst (ArePlaced (block_of (front_of c.args.bytes.now))) (sym c.as_slice-pieces.ensures.value) c.in-Ok.ensures.places),
    )
