use Rattle.std.proofs.Common.{◌≡◌, drop}
use Rattle.pmp_match.specs.Deciders.{found_from}
use Rattle.pmp_match.proofs.deciders.first_of.Given as goal

-- the extents from here on decide as all of them
abbrev pub invariant-loop-number : goal.invariant-loop-number
invariant-loop-number l = found_from l.number (drop l.number l.extents) l.access ≡ found_from 0 l.extents l.access
