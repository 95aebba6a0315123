use Rattle.std.proofs.Common.{◌∙◌, ◌++◌, ap, sym}
use Rattle.map_table.specs.JsonTables.{json_entry}
use Rattle.map_table.proofs.json.push_entry.Goals as goal

pub returns : goal.returns
returns c = c.in_ok-push_decider.ensures ∙ ap (λ x. c.args.text.now.items ++ json_entry c.args.extents.now c.args.stretch.now x) (sym c.in-Some.is)
