use Rattle.std.proofs.Common.{◌≡◌, ◌++◌, drop}
use Rattle.map_table.specs.JsonTables.{numbers_more}
use Rattle.map_table.proofs.json.push_numbers_more.Given as goal

abbrev pub invariant-loop-number : goal.invariant-loop-number
invariant-loop-number l = l.text.items ++ numbers_more (drop l.number-index l.numbers) ≡ l.initial.text.items ++ numbers_more l.numbers
