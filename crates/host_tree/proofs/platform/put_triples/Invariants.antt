use Rattle.std.proofs.Common.{◌≡◌, ◌++◌}
use Rattle.host_tree.specs.Platforms.{triples_in}
use Rattle.host_tree.proofs.platform.put_triples.Given as goal

abbrev pub invariant-triples : goal.invariant-triples
invariant-triples l = l.list.items ++ triples_in l.left l.rest ≡ l.initial.list.items ++ triples_in l.count l.words

abbrev pub decreases-triples : goal.decreases-triples
decreases-triples l = l.left
