-- The stop of a run over the lines of an input.
use Rattle.std.specs.Prelude.{ℕ, List, Option}
use Rattle.text_lines.specs.declared.fault.RunFault.{RunFault}
use Rattle.text_lines.specs.declared.fault.RunFault.TheVariants as runs
use Rattle.text_lines.specs.LineLoop.{Meaning, StopsAt, StopsForMemory, StopsReading, StopsTooLong}
use Rattle.text_lines.specs.LineLoop.{StopsWriting}

-- the stop of the interpretation of an input's lines, for each fault
abbrev pub Stops :
    {S : Type 0} → Meaning S → (S → List ℕ → Type 0) → (S → List ℕ → S → Type 0) → S → S
    → Option (List ℕ) → Option (List ℕ) → Option (List ℕ) → Option (List ℕ) → RunFault → Type 0
Stops does refuses starves old new before after held holds (runs.Line n) =
    StopsAt n does refuses old new before after held holds
Stops does refuses starves old new before after held holds runs.TooLong =
    StopsTooLong does old new before after held holds
Stops does refuses starves old new before after held holds runs.Read =
    StopsReading does old new before after held holds
Stops does refuses starves old new before after held holds runs.Write =
    StopsWriting does old new before after held holds
Stops does refuses starves old new before after held holds runs.Memory =
    StopsForMemory does starves old new before after held holds
