-- The messages for boards that cannot be written as text.
use Rattle.std.specs.Prelude.{ℕ, List, ◌++◌, codes, decimal}
use Rattle.device_tree.specs.declared.fault.TreeReason.{TreeReason}
use Rattle.device_tree.specs.declared.fault.TreeReason.TheVariants as trees
use Rattle.device_tree.specs.declared.board_fault.BoardReason.{BoardReason}
use Rattle.device_tree.specs.declared.board_fault.BoardReason.TheVariants.{BadCells, BadRows}
use Rattle.device_tree.specs.declared.rows.RowFault.TheVariants as rows
use Rattle.platforms.specs.declared.platform.PlatformFault.{PlatformFault}
use Rattle.platforms.specs.declared.platform.PlatformFault.TheVariants as rules
use Rattle.board_texts.specs.declared.fault.BoardTextFault.{BoardTextFault}
use Rattle.board_texts.specs.declared.fault.BoardTextFault.TheVariants.{Tree, Ranges, Rule}
use Rattle.board_texts.specs.declared.fault.BoardTextFault.TheVariants.{TooManyRanges, NoMonitor}
use Rattle.board_texts.specs.declared.fault.BoardTextFault.TheVariants.{NotReadBack, Memory}

-- the reason why bytes are not a tree
abbrev pub tree_text : TreeReason → List ℕ
tree_text trees.ShortHeader = codes "the header is cut"
tree_text trees.BadMagic = codes "it does not begin with d0 0d fe ed"
tree_text trees.BadSize = codes "the header says more bytes than there are"
tree_text trees.OldVersion = codes "the version is below 17"
tree_text trees.NewVersion = codes "it is not to be read as version 17"
tree_text trees.BadStructureBlock = codes "the structure block is misplaced"
tree_text trees.BadStringsBlock = codes "the strings block is misplaced"
tree_text trees.BadReservationBlock = codes "the reservation block is misplaced"
tree_text trees.UnendedReservations = codes "the reservations do not end"
tree_text trees.NoToken = codes "a token is cut"
tree_text trees.UnknownToken = codes "a token is not known"
tree_text trees.UnendedName = codes "the name of a node does not end"
tree_text trees.PastBlock = codes "a name or a value is cut"
tree_text trees.NoPropertyName = codes "a property has no name"
tree_text trees.BytesBehindEnd = codes "bytes follow the end"
tree_text trees.TooDeep = codes "more than 64 nodes are inside one another"
tree_text trees.LateProperty = codes "a property follows a node"
tree_text trees.UnendedNode = codes "a node does not end"
tree_text trees.NoRoot = codes "there is no root"
tree_text trees.PieceBehindRoot = codes "something follows the root"
tree_text trees.Memory = codes "memory was refused"

-- the reason why the numbers of a node do not give ranges
abbrev pub ranges_text : BoardReason → List ℕ
ranges_text BadCells = codes "cells are no number from 0 to 4"
ranges_text (BadRows rows.BadLength) = codes "reg or ranges has no whole rows"
ranges_text (BadRows rows.LargeNumber) = codes "an address or a size is above 64 bits"
ranges_text (BadRows rows.TooMany) = codes "registers in too many ranges"
ranges_text (BadRows rows.Memory) = codes "memory was refused"

-- the rule on platforms that is broken
abbrev pub rule_text : PlatformFault → List ℕ
rule_text rules.BadRange = codes "the monitor is no whole pages"
rule_text rules.Overlap = codes "two ranges have a page in common"
rule_text rules.MonitorNotRam = codes "a page of the monitor is not memory"
rule_text rules.BadNumber = codes "not 1 to 32 ranges of memory, at most 32 devices"
rule_text rules.BadHarts = codes "the tree has no hart"
rule_text rules.BadEntries = codes "neither 16 nor 64 entries"

-- the message for a fault, with the offset of the byte or node in the tree if it has one
abbrev pub fault_text : BoardTextFault → List ℕ
fault_text (Tree fault) = tree_text fault.reason ++ (codes ", at byte " ++ decimal fault.offset)
fault_text (Ranges fault) = ranges_text fault.reason
    ++ (codes ", in the node at byte " ++ decimal fault.offset)
fault_text TooManyRanges = codes "too many ranges"
fault_text NoMonitor = codes "no node says where the monitor is; give --monitor"
fault_text (Rule fault) = rule_text fault
fault_text NotReadBack = codes "the text is not read back"
fault_text Memory = codes "out of memory"
