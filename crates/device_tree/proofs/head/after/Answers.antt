use Rattle.std.proofs.Common.{◌≡◌, ◌-◌, ◌∙◌, ap, sym, ℕ, List, take, drop, length, arith}
use Rattle.std.proofs.lemmas.Grind.{common_steps}
use Rattle.std.proofs.lemmas.List.{drop-map}
use Rattle.device_tree.specs.declared.pieces.PlacedPiece.{PlacedPiece}
use Rattle.device_tree.specs.Pieces.{part_of, parts_of}
use Rattle.device_tree.proofs.head.after.Goals as goal

rest_from : {X : Type 0} (n : ℕ) (xs : List X) → take (length xs - n) (drop n xs) ≡ drop n xs
rest_from n xs = grind (arith, common_steps)

pub returns-clause-parts : goal.returns-clause-parts
returns-clause-parts c = ap parts_of (rest_from c.args.n c.args.pieces.now) ∙ sym (drop-map (λ (x : PlacedPiece). part_of x.piece) c.args.n c.args.pieces.now)
