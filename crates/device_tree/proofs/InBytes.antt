-- Faults of a structure block in the bytes of a tree.
use Rattle.std.proofs.Common.{◌≡◌, ℕ, ◌+◌, ◌-◌, List, length, drop, sym, ap, subst, ◌∙◌}
use Rattle.device_tree.specs.declared.fault.TreeFault.{TreeFault}
use Rattle.device_tree.specs.declared.pieces.PlacedPiece.{PlacedPiece}
use Rattle.device_tree.specs.Pieces.{Part, SpellsParts, parts_of}
use Rattle.device_tree.specs.Places.{ArePlaced, BeginsAt, block_at}
use Rattle.device_tree.specs.Refusals.{IsPartsFault, IsShapeFault, IsWrongAt, offset_of}
use Rattle.device_tree.proofs.Placed.{end_at, placed_at}

pub same_block : (s t b c : List ℕ) (m n : ℕ) → s ≡ t → b ≡ c → m ≡ n → block_at s b m ≡ block_at t c n
same_block s t b c m n e f g = ap (λ (x : List ℕ). block_at x b m) e ∙ ap (λ (x : List ℕ). block_at t x m) f ∙ ap (λ (x : ℕ). block_at t c x) g

pub parts_fault : (s b : List ℕ) (start end : ℕ) (pieces slice : List PlacedPiece) (fault : TreeFault) → slice ≡ pieces → SpellsParts s b (parts_of pieces)
    → ArePlaced (block_at s b start) pieces → end ≡ start + length b - 4 → IsWrongAt IsShapeFault slice end fault → IsPartsFault (block_at s b start) fault
parts_fault s b start end pieces slice fault e spelt placed is_end wrong_there =
    let w = subst (λ (x : List PlacedPiece). IsWrongAt IsShapeFault x end fault) e wrong_there in
    let block = block_at s b start in
    let here : BeginsAt block (offset_of (drop w.count pieces) end) (parts_of (drop w.count pieces)) =
    placed_at block pieces w.count end placed (end_at s b (parts_of pieces) start end spelt is_end) in
    record {
      before = w.before;
      left = parts_of (drop w.count pieces);
      spelt = subst (λ (x : List Part). SpellsParts s b x) w.parts_are spelt;
      place = subst (λ (x : ℕ). BeginsAt block x (parts_of (drop w.count pieces))) (sym w.offset_is) here;
      wrong = w.wrong;
    }
