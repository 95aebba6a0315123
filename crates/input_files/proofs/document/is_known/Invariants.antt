use Rattle.std.proofs.Common.{◌≡◌, map, drop}
use Rattle.input_files.specs.Document.{is_known}
use Rattle.input_files.proofs.document.is_known.Given as goal

abbrev pub invariant-loop-name : goal.invariant-loop-name
invariant-loop-name l = is_known l.key (map (λ name. name.now) (drop l.name-index l.names)) ≡ is_known l.key (map (λ name. name.now) l.names)
