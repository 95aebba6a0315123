use Rattle.register_audit.specs.Maps.{below, cut, mapped}
use Rattle.register_audit.proofs.map.said_of_extents.Goals as goal

pub returns-in-Means-clause-said : goal.returns-in-Means-clause-said
returns-in-Means-clause-said c = rw c.in_ok-text-in-Means.ensures.text (mapped _ c.in_ok-text-in-Means.ensures.runs
    (rw c.in-Means.is at c.in_ok-compare.ensures))

pub returns-in-Differs-clause-said : goal.returns-in-Differs-clause-said
returns-in-Differs-clause-said c = below _ c.in_ok-map.ensures.map c.in-Differs.stretch (rw c.in-Differs.is at c.in_ok-compare.ensures) _

pub returns-clause-said : goal.returns-clause-said
returns-clause-said c = cut _ c.in_ok-map.ensures.map c.in-Cuts.entry c.in-Cuts.at (rw c.in-Cuts.is at c.in_ok-compare.ensures) _
