-- The lines of the ranges so far.
use Rattle.std.proofs.Common.{◌≡◌, ◌++◌, drop}
use Rattle.register_audit.specs.MapTexts.{map_text}
use Rattle.register_audit.proofs.map_texts.map_text.Given as goal

abbrev pub invariant-loop-run : goal.invariant-loop-run
invariant-loop-run l = l.text.items ++ map_text (drop l.run-index l.run-items) ≡ map_text l.map
