-- What is no platform as runs is none as a board.
use Rattle.std.proofs.Common.{ℕ, List, Option}
use Rattle.permission_map.specs.declared.runs.Run.{Run}
use Rattle.device_tree.specs.Meaning.{Range}
use Rattle.board_texts.specs.declared.fault.BoardTextFault.{BoardTextFault}
use Rattle.board_texts.specs.declared.fault.BoardTextFault.TheVariants as faults
use Rattle.board_texts.specs.Platforms.{IsBoardLayout, IsBoardRefusal, IsMapRefusal}

pub board_refusal :
    (given : Option (ℕ × ℕ)) (ranges : List Range) (runs : List Run) (monitor : ℕ × ℕ) (fault : BoardTextFault) → IsBoardLayout given ranges runs monitor
    → IsMapRefusal monitor ranges runs fault → IsBoardRefusal given ranges fault
board_refusal given ranges runs monitor (faults.Tree fault) layout refused = refused
board_refusal given ranges runs monitor (faults.Ranges fault) layout refused = refused
board_refusal given ranges runs monitor faults.TooManyRanges layout refused = absurd refused
board_refusal given ranges runs monitor faults.NoMonitor layout refused = absurd refused
board_refusal given ranges runs monitor (faults.Rule fault) layout refused = record { runs = runs; monitor = monitor; layout = layout; broken = refused }
board_refusal given ranges runs monitor faults.NotReadBack layout refused = refused
board_refusal given ranges runs monitor faults.Memory layout refused = refused
