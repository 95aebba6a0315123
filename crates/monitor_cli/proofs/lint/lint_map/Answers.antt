use Rattle.std.proofs.Common.{◌≡◌, ℕ, Bool, true, false, List, Ok, ap, refl}
use Rattle.permission_map.specs.declared.runs.Run.{Run}
use Rattle.map_text.specs.MapFile.{Makes}
use Rattle.input_files.specs.Maps.{IsAtFault, IsVerdictOfLines}
use Rattle.monitor_cli.proofs.lint.lint_map.Goals as goal

verdict : (bytes : List ℕ) (is_map : Bool) → (is_map ≡ true → (runs : List Run) × Makes bytes runs) → (is_map ≡ false → IsAtFault bytes)
    → IsVerdictOfLines bytes is_map
verdict bytes true map fault = map refl
verdict bytes false map fault = fault refl

pub returns-in-Ok-clause-found : goal.returns-in-Ok-clause-found
returns-in-Ok-clause-found g c =
    let e = c.in-Ok.ensures in
    verdict c.args.bytes.now c.in-Ok.is_map (λ yes. e.map (ap (λ t. Ok t) yes)) (λ no. e.fault (ap (λ t. Ok t) no))
