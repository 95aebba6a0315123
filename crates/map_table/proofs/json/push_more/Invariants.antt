use Rattle.std.proofs.Common.{◌≡◌, ◌++◌, drop}
use Rattle.map_table.specs.JsonTables.{json_more}
use Rattle.map_table.proofs.json.push_more.Given as goal

abbrev pub invariant-loop-stretch : goal.invariant-loop-stretch
invariant-loop-stretch l = l.text.items ++ json_more l.extents (drop l.stretch-index l.all) ≡ l.initial.text.items ++ json_more l.extents l.all
