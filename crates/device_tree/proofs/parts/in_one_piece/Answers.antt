use Rattle.std.proofs.Common.{◌≡◌, ◌+◌, ◌≤◌, ◌^◌, ◌∙◌, ap, sym, subst, ℕ, false, Option, arith}
use Rattle.device_tree.specs.Windows.{IsPiece, is_same_address, moved, path_of, root_address}
use Rattle.device_tree.proofs.ExtentParts.{a_piece, longer, no_piece, same_yes}
use Rattle.device_tree.proofs.parts.in_one_piece.Goals as goal

pub returns-then-not-continues : goal.returns-then-not-continues
returns-then-not-continues c =
    let root = root_address (path_of c.args.way.now) in
    let part = c.piece.part in
    let next = c.part_at-next.ensures in
    let inv = c.piece.invariant in
    let here : is_same_address (root (part.base + part.size)) (moved part.size (root c.args.extent.base)) ≡ false =
    subst (λ (x : Option ℕ). is_same_address (root (part.base + part.size)) (moved part.size x) ≡ false) inv.is_root
    (subst (λ (x : Option ℕ). is_same_address x (moved part.size part.root) ≡ false) next.is_root (sym c.continues.ensures ∙ c.if-not-continues.true)) in
    no_piece root c.args.extent part.size c.piece-test.true
    (subst (λ (x : ℕ). is_same_address (root (x + part.size)) (moved part.size (root c.args.extent.base)) ≡ false) inv.base here)

pub piece-preserved : goal.piece-preserved
piece-preserved c =
    let root = root_address (path_of c.args.way.now) in
    let part = c.piece.part in
    let next = c.part_at-next.ensures in
    let more = c.part_at-next.result.size in
    let inv = c.piece.invariant in
    let goes_on = same_yes _ _ (sym c.continues.ensures ∙ c.if-not-continues.false) in
    let there = ap (λ (x : ℕ). root (x + part.size)) (sym inv.base) ∙ sym next.is_root ∙ goes_on ∙ ap (moved part.size) inv.is_root in
    let far = subst (λ (x : ℕ). IsPiece root (x + part.size) more) inv.base next.piece in
    record {
      within = omega (arith, next.within, c.piece-test.true);
      base = inv.base;
      is_root = inv.is_root;
      piece = longer root c.args.extent.base part.size more inv.piece there far;
    }

pub returns : goal.returns
returns c =
    let root = root_address (path_of c.args.way.now) in
    let inv = c.piece.invariant in
    let all : c.piece.part.size ≡ c.args.extent.size = omega (arith, inv.within, c.piece-test.false) in
    let fits : c.args.extent.base + c.args.extent.size ≤ 2 ^ 64 = omega (arith, c.if-bus_size-extent.false, c.bus_size.ensures) in
    a_piece root c.args.extent c.in_ok-base.base (sym c.in_ok-base.was ∙ c.step-first.ensures.is_root) fits
    (subst (λ (x : ℕ). IsPiece root c.args.extent.base x) all inv.piece)
