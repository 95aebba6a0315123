-- The run ends inside, or begins and ends there, or begins there.
use Rattle.std.proofs.Common.{arith}
use Rattle.prefix_tree.proofs.Nested.{run_ends, run_inside, run_begins}
use Rattle.prefix_tree.proofs.chains.edges_of.Goals as goal

pub returns-then-run-first-clause-edges : goal.returns-then-run-first-clause-edges
returns-then-run-first-clause-edges c = run_ends _ _ _ c.requires.block c.requires.cut (omega (arith, c.if-run-first.true))

pub returns-then-stop-first-clause-edges : goal.returns-then-stop-first-clause-edges
returns-then-stop-first-clause-edges c = run_inside _ _ _ c.requires.block (omega (arith, c.if-run-first.false))
    (omega (arith, c.if-stop-first.true, c.pages_of.ensures))

pub returns-clause-edges : goal.returns-clause-edges
returns-clause-edges c = run_begins _ _ _ c.requires.block (omega (arith, c.if-run-first.false)) (omega (arith, c.if-stop-first.false, c.pages_of.ensures))
