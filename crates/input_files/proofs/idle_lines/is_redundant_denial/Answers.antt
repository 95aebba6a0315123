use Rattle.input_files.specs.Settings.{allows}
use Rattle.input_files.proofs.Denied.{said_by}
use Rattle.input_files.proofs.idle_lines.is_redundant_denial.Goals as goal

pub returns-then-not-denies : goal.returns-then-not-denies
returns-then-not-denies c = allows (c.denies.ensures.no c.if-not-denies.true)

pub returns : goal.returns
returns c = said_by c.args.kept.now c.args.setting.now c.in_ok-map.map _ c.in_ok-map.ensures
    (c.denies.ensures.yes c.if-not-denies.false) c.is_denied.ensures.yes c.is_denied.ensures.no
