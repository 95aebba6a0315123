-- The ranges that are left, laid on the map so far, come to all of them laid on the first map.
use Rattle.std.proofs.Common.{drop}
use Rattle.permission_map.specs.Runs.{view_of_runs}
use Rattle.pmp_encoding.specs.Views.{SameView}
use Rattle.device_tree.specs.Meaning.{said_of}
use Rattle.board_texts.specs.Views.{laid}
use Rattle.board_texts.proofs.view.lay.Given as goal

abbrev pub invariant-loop-one : goal.invariant-loop-one
invariant-loop-one l = SameView (laid l.layer l.kept (said_of (drop l.one-index l.found)) (view_of_runs l.map))
    (laid l.layer l.kept (said_of l.found) (view_of_runs l.initial.map))
