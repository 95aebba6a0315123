-- How many bytes parts need.
use Rattle.std.proofs.Common.{◌≡◌, ◌≤◌, ℕ, ◌+◌, List, [], ◌∷◌, ◌++◌, length, length-append, ap, ◌∙◌, arith}
use Rattle.device_tree.specs.declared.reservations.Reservation.{Reservation}
use Rattle.device_tree.specs.Pieces.{Part}
use Rattle.device_tree.specs.Nodes.{Tree, parts_of_tree}
use Rattle.host_tree.specs.declared.writer.TreeWriter.{TreeWriter}
use Rattle.host_tree.specs.Written.{HasWritten, part_size, parts_size, plain_size, whole_size}

pub parts_more : (x : List Part) (p : Part) → parts_size (x ++ p ∷ []) ≡ parts_size x + part_size p
parts_more [] p = omega arith
parts_more (q ∷ x) p = omega (arith, parts_more x p)

-- bytes at the end of others
pub grown : (a b x : List ℕ) → b ≡ a ++ x → length b ≡ length a + length x
grown a b x e = ap length e ∙ length-append a x

-- a tree that was written has no more bytes than it needs
pub at_most : (writer : TreeWriter) (tree : Tree) (reservations : List Reservation) (free size : ℕ) → HasWritten writer (parts_of_tree tree)
    → size ≡ whole_size writer (length reservations) free → size ≤ plain_size tree reservations + free
at_most writer tree reservations free size written is = omega (arith, is, written.size)
