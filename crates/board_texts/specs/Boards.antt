-- A board as its device tree describes it, and the text of its map.
use Rattle.std.specs.Prelude.{◌≡◌, ◌≢◌, ◌⊎◌, ⊤, ℕ, ◌*◌, Bool, leb, ◌&&◌}
use Rattle.std.specs.Prelude.{List, [], ◌∷◌, ◌++◌, length, take, bytes_eq, codes}
use Rattle.pmp_encoding.specs.Perms.{perm_word}
use Rattle.pmp_encoding.specs.Views.{SameView}
use Rattle.permission_map.specs.declared.runs.Run.{Run}
use Rattle.permission_map.specs.Runs.{AreRuns, view_of_runs}
use Rattle.map_text.specs.MapFile.{Makes}
use Rattle.device_tree.specs.declared.reservations.Reservation.{Reservation}
use Rattle.device_tree.specs.Nodes.{Tree}
use Rattle.device_tree.specs.Trees.{ReadsAs, front_of}
use Rattle.device_tree.specs.Places.{Block, block_of}
use Rattle.device_tree.specs.Refusals.{IsTreeFault}
use Rattle.device_tree.specs.declared.board_fault.BoardFault.{BoardFault}
use Rattle.device_tree.specs.Meaning.{Range, TreeSays}
use Rattle.device_tree.specs.BoardRefusals.{IsBoardFaultIn}
use Rattle.text_lines.specs.Pieces.{address_text}
use Rattle.device_tree.specs.declared.fault.TreeFault.{TreeFault}
use Rattle.device_tree.specs.declared.fault.TreeReason.TheVariants as tree_reasons
use Rattle.board_texts.specs.declared.fault.BoardTextFault.{BoardTextFault}
use Rattle.board_texts.specs.declared.fault.BoardTextFault.TheVariants as faults
use Rattle.board_texts.specs.Comments.{comments_on, lefts_text, reservations_text}
use Rattle.board_texts.specs.Views.{board_view, nowhere}

-- bytes begin with the magic number of a flattened device tree
abbrev pub is_tree : List ℕ → Bool
is_tree bytes = leb 4 (length bytes) && bytes_eq (take 4 bytes) (0xd0 ∷ 0x0d ∷ 0xfe ∷ 0xed ∷ [])

-- the bytes begin with a device tree that gives these ranges and has these reservations
pub record IsBoard (bytes : List ℕ) (ranges : List Range) (reservations : List Reservation) :
    Type 0 where
  pub tree : Tree
  pub read : ReadsAs bytes tree reservations
  pub says : TreeSays tree ranges

-- a line of a map
abbrev pub run_text : Run → List ℕ
run_text run = address_text (4096 * run.first) ++ (codes " " ++ (address_text (4096 * run.count)
    ++ (codes " " ++ (perm_word run.perm ++ codes "\n"))))

-- a run of a map: the comments on its ranges, and its line
abbrev pub item_text : List Range → Run → List ℕ
item_text ranges run = comments_on run ranges ++ run_text run

-- each run of a map
abbrev pub lines_text : List Range → List Run → List ℕ
lines_text ranges [] = []
lines_text ranges (run ∷ runs) = item_text ranges run ++ lines_text ranges runs

-- the first lines of a map
unfoldable pub map_head : List ℕ
map_head = codes "# The map of a device tree: memory rwx, devices rw. It does not name nodes that are\n"
    ++ codes "# not in use, /reserved-memory without no-map or reg, and what is reached through PCI.\n"

-- the text of a board's map
abbrev pub board_map_text : List Range → List Reservation → List Run → List ℕ
board_map_text ranges reservations runs = map_head ++ (lines_text ranges runs
    ++ (lefts_text runs ranges ++ reservations_text reservations))

-- the text is the map of a board: its lines give the board's view
pub record IsBoardMap (ranges : List Range) (reservations : List Reservation) (text : List ℕ) :
    Type 0 where
  pub runs : List Run
  pub are_runs : AreRuns runs
  pub view_is : SameView (view_of_runs runs) (board_view nowhere ranges)
  pub text_is : text ≡ board_map_text ranges reservations runs
  pub made : Makes text runs

-- faults after the tree has given ranges: too many of them, a text that fails to read back, or a
-- failed allocation
abbrev pub IsLateFault : BoardTextFault → Type 0
IsLateFault (faults.Tree fault) = ⊥
IsLateFault (faults.Ranges fault) = ⊥
IsLateFault faults.TooManyRanges = ⊤
IsLateFault faults.NoMonitor = ⊥
IsLateFault (faults.Rule fault) = ⊥
IsLateFault faults.NotReadBack = ⊤
IsLateFault faults.Memory = ⊤

-- the bytes do not begin with an accepted tree, and the fault is the true reason, unless an
-- allocation failed
abbrev pub IsNoTree : List ℕ → TreeFault → Type 0
IsNoTree bytes fault = fault.reason ≢ tree_reasons.Memory
    → IsTreeFault (front_of bytes) fault
    × ((tree : Tree) (reservations : List Reservation) → ReadsAs bytes tree reservations → ⊥)

-- the conditions for a tree in a block to have no map: it gives no ranges, because of this fault of
-- the node at its offset; or a late fault
abbrev pub IsReadFault : Block → Tree → BoardTextFault → Type 0
IsReadFault block tree fault = ((one : BoardFault) × (fault ≡ faults.Ranges one)
    × IsBoardFaultIn block tree one)
    ⊎ IsLateFault fault

-- the conditions for there to be no map: the bytes do not begin with a tree, or the tree has no map
abbrev pub IsNoMap : List ℕ → BoardTextFault → Type 0
IsNoMap bytes fault = ((reason : TreeFault) × (fault ≡ faults.Tree reason)
    × IsNoTree bytes reason)
    ⊎ ((tree : Tree) × (reservations : List Reservation) × ReadsAs bytes tree reservations
    × IsReadFault (block_of (front_of bytes)) tree fault)

-- the bytes begin with a device tree, and the text is the map of its board
pub record IsMapOfTree (bytes text : List ℕ) : Type 0 where
  pub ranges : List Range
  pub reservations : List Reservation
  pub board : IsBoard bytes ranges reservations
  pub map : IsBoardMap ranges reservations text
