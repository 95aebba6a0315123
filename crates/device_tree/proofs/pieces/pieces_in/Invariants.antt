use Rattle.std.proofs.Common.{◌≡◌, ◌≤◌, ◌-◌, List, ◌++◌, length, drop}
use Rattle.device_tree.specs.Pieces.{Part, SpellsParts, parts_of}
use Rattle.device_tree.specs.Places.{ComesTo, block_at}
use Rattle.device_tree.proofs.Placed.{PlacedBefore}
use Rattle.device_tree.proofs.pieces.pieces_in.Given as goal

abbrev pub invariant-pieces : goal.invariant-pieces
invariant-pieces l = record {
  inside : length l.rest ≤ length l.block;
  cut : l.rest ≡ drop (length l.block - length l.rest) l.block;
  whole : (later : List Part) → SpellsParts l.strings l.rest later → SpellsParts l.strings l.block (parts_of l.pieces.items ++ later);
  left : (parts : List Part) → SpellsParts l.strings l.block parts → (later : List Part)
      × (parts ≡ parts_of l.pieces.items ++ later) × SpellsParts l.strings l.rest later;
  comes : ComesTo l.strings l.block (parts_of l.pieces.items) l.rest;
  placed : (later : List Part) → SpellsParts l.strings l.rest later → PlacedBefore (block_at l.strings l.block l.start) l.pieces.items later;
}

abbrev pub decreases-pieces : goal.decreases-pieces
decreases-pieces l = length l.rest
