-- The platform of a board, and its text.
use Rattle.std.specs.Prelude.{◌≡◌, ◌⊎◌, ⊤, ℕ, ◌*◌, ◌/◌, cond, min}
use Rattle.std.specs.Prelude.{List, [], ◌∷◌, ◌++◌, Option, Some, None, codes, decimal}
use Rattle.pmp_encoding.specs.declared.limit.Limit.TheVariants.{Sixteen}
use Rattle.pmp_encoding.specs.declared.pages.PageRange.{PageRange}
use Rattle.pmp_encoding.specs.declared.perm.Perm.{Perm}
use Rattle.pmp_encoding.specs.declared.perm.Perm.TheVariants.{ReadWrite}
use Rattle.pmp_encoding.specs.Views.{SameView}
use Rattle.permission_map.specs.declared.runs.Run.{Run}
use Rattle.permission_map.specs.Runs.{AreRuns, view_of_runs}
use Rattle.device_tree.specs.declared.reservations.Reservation.{Reservation}
use Rattle.device_tree.specs.Nodes.{Tree}
use Rattle.device_tree.specs.Trees.{ReadsAs, front_of}
use Rattle.device_tree.specs.Places.{Block, block_of}
use Rattle.device_tree.specs.declared.fault.TreeFault.{TreeFault}
use Rattle.device_tree.specs.declared.board_fault.BoardFault.{BoardFault}
use Rattle.device_tree.specs.declared.kinds.Kind.TheVariants.{Memory, Device}
use Rattle.device_tree.specs.Meaning.{Range, TreeSays}
use Rattle.device_tree.specs.BoardRefusals.{IsBoardFaultIn}
use Rattle.platforms.specs.declared.platform.PlatformFault.{PlatformFault}
use Rattle.platforms.specs.declared.platform.PlatformFault.TheVariants.{BadHarts}
use Rattle.platforms.specs.CheckLists.{FailsFirst}
use Rattle.platforms.specs.Platform.{PlatformLayout, platform_rules}
use Rattle.input_files.specs.Document.{IsPlatformFile}
use Rattle.text_lines.specs.Pieces.{address_text}
use Rattle.board_texts.specs.declared.fault.BoardTextFault.{BoardTextFault}
use Rattle.board_texts.specs.declared.fault.BoardTextFault.TheVariants as faults
use Rattle.board_texts.specs.Boards.{IsBoard, IsNoTree}
use Rattle.board_texts.specs.Comments.{comments_on, gives, lefts_text, reservations_text}
use Rattle.board_texts.specs.Monitors.{harts_of, monitor_of}
use Rattle.board_texts.specs.Views.{board_view}

-- the ranges of memory among the runs, in bytes
abbrev pub ram_of : List Run → List (ℕ × ℕ)
ram_of [] = []
ram_of (run ∷ runs) = cond (gives Memory run.perm)
    ((4096 * run.first, 4096 * run.count) ∷ ram_of runs) (ram_of runs)

-- the devices among the runs, in bytes
abbrev pub devices_of : List Run → List (ℕ × ℕ × Perm)
devices_of [] = []
devices_of (run ∷ runs) = cond (gives Device run.perm)
    ((4096 * run.first, 4096 * run.count, ReadWrite) ∷ devices_of runs) (devices_of runs)

-- the pages of a base and a size
abbrev pub pages_of_bytes : (ℕ × ℕ) → PageRange
pages_of_bytes range = record { first = range.0 / 4096; count = range.1 / 4096 }

-- the number of harts in the platform, at most four
abbrev pub harts_used : List Range → ℕ
harts_used ranges = min (harts_of ranges) 4

-- a base and a size in a platform file
abbrev pub keys_text : ℕ → ℕ → List ℕ
keys_text base size = codes "base = " ++ (address_text base ++ (codes "\nsize = "
    ++ (address_text size ++ codes "\n")))

-- the table of a run, if it is memory or a device
abbrev pub table_text : Run → List ℕ
table_text run = cond (gives Memory run.perm)
    (codes "[[ram]]\n" ++ keys_text (4096 * run.first) (4096 * run.count))
    (codes "[[device]]\n" ++ (keys_text (4096 * run.first) (4096 * run.count)
    ++ codes "perm = \"rw\"\n"))

-- a run of a platform: the comments on its ranges, and its table
abbrev pub part_text : List Range → Run → List ℕ
part_text ranges run = codes "\n" ++ (comments_on run ranges ++ table_text run)

-- each run of a platform
abbrev pub tables_text : List Range → List Run → List ℕ
tables_text ranges [] = []
tables_text ranges (run ∷ runs) = part_text ranges run ++ tables_text ranges runs

-- the number of harts in the platform, with that in the tree
abbrev pub harts_text : ℕ → ℕ → List ℕ
harts_text used harts = codes "harts = " ++ (decimal used ++ (codes " # the tree has "
    ++ (decimal harts ++ codes " in use\n")))

-- the comment on the origin of the monitor's range
abbrev pub given_text : Option (ℕ × ℕ) → List ℕ
given_text (Some given) = codes "# as it was given\n"
given_text None = codes "# the no-map node in which memory begins\n"

-- the first lines of a platform
unfoldable pub platform_head : List ℕ
platform_head = codes "# The platform of a device tree. It does not name nodes that are not in use,\n"
    ++ (codes "# /reserved-memory without no-map or reg, and what is reached through PCI.\n"
    ++ (codes "# A device that reads or writes memory by itself reaches all of it: take out the\n"
    ++ codes "# table of each that the host is not to have.\n"))

-- the number of PMP entries of a hart, and the header of the monitor's table
unfoldable pub entries_text : List ℕ
entries_text = codes "entries = 16 # a tree does not say how many: 16 or 64\n\n[monitor]\n"

-- the first part of the text of a board's platform
abbrev pub head_text : Option (ℕ × ℕ) → (ℕ × ℕ) → List Range → List ℕ
head_text given monitor ranges = platform_head
    ++ (harts_text (harts_used ranges) (harts_of ranges)
    ++ (entries_text ++ (given_text given ++ keys_text monitor.0 monitor.1)))

-- the text of a board's platform
abbrev pub board_platform_text : Option (ℕ × ℕ) → (ℕ × ℕ) → List Range → List Reservation
    → List Run → List ℕ
board_platform_text given monitor ranges reservations runs = head_text given monitor ranges
    ++ (tables_text ranges runs ++ (codes "\n" ++ (lefts_text runs ranges
    ++ reservations_text reservations)))

-- the runs of a board's platform: those of the board's view, in which the monitor's pages are not
-- denied
pub record IsBoardLayout (given : Option (ℕ × ℕ)) (ranges : List Range) (runs : List Run)
    (monitor : ℕ × ℕ) : Type 0 where
  pub monitor_is : monitor_of given ranges ≡ Some monitor
  pub are_runs : AreRuns runs
  pub view_is : SameView (view_of_runs runs) (board_view (pages_of_bytes monitor) ranges)

-- the platform of these ranges with this number of harts
abbrev pub built : (ℕ × ℕ) → List (ℕ × ℕ) → List (ℕ × ℕ × Perm) → ℕ → PlatformLayout
built monitor ram devices harts = record {
  monitor = monitor;
  ram = ram;
  devices = devices;
  harts = harts;
  limit = Sixteen;
}

-- the platform of runs and a monitor
abbrev pub layout_of : List Range → List Run → (ℕ × ℕ) → PlatformLayout
layout_of ranges runs monitor = built monitor (ram_of runs) (devices_of runs) (harts_used ranges)

-- the first broken rule on ranges has this fault, or there is no hart
abbrev pub IsRuleBroken : (ℕ × ℕ) → List (ℕ × ℕ) → List (ℕ × ℕ × Perm) → ℕ → PlatformFault
    → Type 0
IsRuleBroken monitor ram devices harts fault = FailsFirst (platform_rules monitor ram devices) fault
    ⊎ ((fault ≡ BadHarts) × (harts ≡ 0))

-- the platform of a board breaks a rule
pub record BreaksRule (given : Option (ℕ × ℕ)) (ranges : List Range) (fault : PlatformFault) :
    Type 0 where
  pub runs : List Run
  pub monitor : ℕ × ℕ
  pub layout : IsBoardLayout given ranges runs monitor
  pub broken : IsRuleBroken monitor (ram_of runs) (devices_of runs) (harts_used ranges) fault

-- the text is the platform of a board
pub record IsBoardPlatform (given : Option (ℕ × ℕ)) (ranges : List Range)
    (reservations : List Reservation) (text : List ℕ) : Type 0 where
  pub runs : List Run
  pub monitor : ℕ × ℕ
  pub layout : IsBoardLayout given ranges runs monitor
  pub text_is : text ≡ board_platform_text given monitor ranges reservations runs
  pub file : IsPlatformFile text (layout_of ranges runs monitor)

-- the bytes begin with a device tree, and the text is the platform of its board
pub record IsPlatformOfTree (given : Option (ℕ × ℕ)) (bytes text : List ℕ) : Type 0 where
  pub ranges : List Range
  pub reservations : List Reservation
  pub board : IsBoard bytes ranges reservations
  pub platform : IsBoardPlatform given ranges reservations text

-- the condition for the runs of a board not to form a platform: a rule is broken
abbrev pub IsMapRefusal : (ℕ × ℕ) → List Range → List Run → BoardTextFault → Type 0
IsMapRefusal monitor ranges runs (faults.Tree fault) = ⊥
IsMapRefusal monitor ranges runs (faults.Ranges fault) = ⊥
IsMapRefusal monitor ranges runs faults.TooManyRanges = ⊥
IsMapRefusal monitor ranges runs faults.NoMonitor = ⊥
IsMapRefusal monitor ranges runs (faults.Rule fault) = IsRuleBroken monitor (ram_of runs)
    (devices_of runs) (harts_used ranges) fault
IsMapRefusal monitor ranges runs faults.NotReadBack = ⊤
IsMapRefusal monitor ranges runs faults.Memory = ⊤

-- the conditions for the ranges of a board not to form a platform: the monitor's location is
-- unknown, or a rule is broken
abbrev pub IsBoardRefusal : Option (ℕ × ℕ) → List Range → BoardTextFault → Type 0
IsBoardRefusal given ranges (faults.Tree fault) = ⊥
IsBoardRefusal given ranges (faults.Ranges fault) = ⊥
IsBoardRefusal given ranges faults.TooManyRanges = ⊤
IsBoardRefusal given ranges faults.NoMonitor = monitor_of given ranges ≡ None
IsBoardRefusal given ranges (faults.Rule fault) = BreaksRule given ranges fault
IsBoardRefusal given ranges faults.NotReadBack = ⊤
IsBoardRefusal given ranges faults.Memory = ⊤

-- the conditions for a tree in a block not to give a platform: its ranges do not form one; or it
-- gives no ranges, because of this fault of the node at its offset
abbrev pub IsTreeRefusal : Option (ℕ × ℕ) → Block → Tree → BoardTextFault → Type 0
IsTreeRefusal given block tree fault = ((one : BoardFault) × (fault ≡ faults.Ranges one)
    × IsBoardFaultIn block tree one)
    ⊎ ((ranges : List Range) × TreeSays tree ranges × IsBoardRefusal given ranges fault)

-- the conditions for there to be no platform: the bytes do not begin with a tree, or the tree does
-- not give one
abbrev pub IsNoPlatform : Option (ℕ × ℕ) → List ℕ → BoardTextFault → Type 0
IsNoPlatform given bytes fault = ((reason : TreeFault) × (fault ≡ faults.Tree reason)
    × IsNoTree bytes reason)
    ⊎ ((tree : Tree) × (reservations : List Reservation) × ReadsAs bytes tree reservations
    × IsTreeRefusal given (block_of (front_of bytes)) tree fault)
