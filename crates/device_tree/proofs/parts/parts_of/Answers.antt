use Rattle.std.proofs.Common.{◌≡◌, ◌+◌, ◌-◌, ◌∙◌, ap, sym, subst, ℕ, List, ◌++◌, arith}
use Rattle.device_tree.specs.declared.ways.RowPart.{RowPart}
use Rattle.device_tree.specs.Windows.{AreParts, bus_size, moved, path_of, root_address}
use Rattle.device_tree.proofs.ExtentParts.{longer, same_yes}
use Rattle.device_tree.proofs.parts.parts_of.Goals as goal

pub overflow_add-part-then-continues : goal.overflow_add-part-then-continues
overflow_add-part-then-continues c =
    omega (arith, c.parts.invariant.room, c.part_at-next.ensures.within, c.bus_size-size.ensures, c.bus_size-size.type_inv)

pub parts-preserved-then-continues : goal.parts-preserved-then-continues
parts-preserved-then-continues c =
    let root = root_address (path_of c.args.way.now) in
    let part = c.parts.part in
    let next = c.part_at-next.ensures in
    let more = c.part_at-next.result.size in
    let inv = c.parts.invariant in
    let whole_too : (part.size + more) + (c.parts.left - more) ≡ part.size + c.parts.left = omega (arith, next.within) in
    let goes_on = same_yes _ _ (sym c.continues.ensures ∙ c.if-continues.true) in
    let at_next = sym next.is_root ∙ goes_on ∙ ap (moved part.size) inv.is_root in
    record {
      ends = ap (λ (x : ℕ). part.base + x) whole_too ∙ inv.ends;
      room = omega (arith, whole_too, inv.room);
      some = omega (arith, inv.some);
      is_root = inv.is_root;
      piece = longer root part.base part.size more inv.piece at_next next.piece;
      whole = subst
          (λ (x : ℕ). (later : List RowPart) → AreParts root part.base x later
          → AreParts root c.args.row.base (bus_size c.args.row) (c.parts.parts.items ++ later))
          (sym whole_too) inv.whole;
    }
