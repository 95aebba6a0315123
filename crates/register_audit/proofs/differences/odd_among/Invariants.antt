-- Those that are left come after those that were taken.
use Rattle.std.proofs.Common.{List, ◌++◌, drop}
use Rattle.map_table.specs.declared.stretch.Stretch.{Stretch}
use Rattle.register_audit.specs.Differences.{AreOdd}
use Rattle.register_audit.proofs.differences.odd_among.Given as goal

abbrev pub invariant-loop-stretch : goal.invariant-loop-stretch
invariant-loop-stretch l = (rest : List Stretch) → AreOdd (drop l.stretch-index l.all) rest → AreOdd l.all (l.odd.items ++ rest)
