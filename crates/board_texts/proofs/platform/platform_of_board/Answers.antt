use Rattle.std.proofs.Common.{sym}
use Rattle.device_tree.specs.Meaning.{said_of}
use Rattle.board_texts.proofs.Refusals.{board_refusal}
use Rattle.board_texts.proofs.platform.platform_of_board.Goals as goal

pub returns-clause-refused : goal.returns-clause-refused
returns-clause-refused c = board_refusal c.args.given (said_of c.args.found.now) _ _ _
    (record { monitor_is = sym c.in-Some.ensures; are_runs = c.in-Ok.ensures.runs; view_is = c.in-Ok.ensures.view }) c.in-Err-platform_of_map.ensures.refused
