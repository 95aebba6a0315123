use Rattle.std.proofs.Common.{◌≡◌, ◌++◌, drop}
use Rattle.input_files.specs.Masters.{held_by, masters}
use Rattle.input_files.proofs.held_masters.push_held.Given as goal

-- with those of the masters that are left they are all
abbrev pub invariant-loop-master : goal.invariant-loop-master
invariant-loop-master l = l.held.items ++ held_by l.number l.device (drop l.master-index l.master-items)
    ≡ l.initial.held.items ++ held_by l.number l.device masters
