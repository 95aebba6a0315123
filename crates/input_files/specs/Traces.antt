-- Verdicts on traces, and their rejected lines with the reasons.
use Rattle.std.specs.Prelude.{ℕ, ◌+◌, nat_le, nat_lt, ◌&&◌, if◌then◌else◌, Bool, true, false, List}
use Rattle.std.specs.Prelude.{[]}
use Rattle.std.specs.Prelude.{◌∷◌, ◌++◌, length, Option, Some, None, is_some}
use Rattle.std.specs.List.{list_all}
use Rattle.text_lines.specs.Lines.{raw_lines, without_return}
use Rattle.hart_trace.specs.Answers.{access_on}
use Rattle.hart_trace.specs.Events.{meaning_of}
use Rattle.hart_trace.specs.Faults.{Fault, access_fault, line_fault, told}
use Rattle.hart_trace.specs.declared.fault.Reason.TheVariants.{LongLine}
use Rattle.input_files.specs.declared.taker.Taker.{Taker}
use Rattle.input_files.specs.declared.taker.Taker.TheVariants.{Run, Judge}
use Rattle.input_files.specs.declared.trace_lint.TraceFinding.{TraceFinding}

-- a command accepts a line without its LF and CR: `run` accepts a line with a meaning for its
-- harts, `judge` an access, and both a line without words
abbrev pub takes : Taker → List ℕ → Bool
takes (Run harts) line = is_some (meaning_of harts line)
takes Judge line = is_some (access_on line)

-- the fault of a rejected line
abbrev pub fault_by : Taker → List ℕ → Option Fault
fault_by (Run harts) line = line_fault harts line
fault_by Judge line = access_fault line

-- a command accepts a line without its LF
abbrev pub is_taken : Taker → List ℕ → Bool
is_taken taker raw = nat_le (length raw) 1023 && takes taker (without_return raw)

-- the fault of a rejected line: it is too long, or its words are invalid
abbrev pub fault_of : Taker → List ℕ → Option Fault
fault_of taker raw = if nat_lt 1023 (length raw) then Some (1023, [], LongLine)
    else fault_by taker (without_return raw)

-- a rejected line: its number and its fault
abbrev pub Finding : Type 0
Finding = ℕ × Fault

-- a finding of the program, as a value
abbrev pub told_at : TraceFinding → Finding
told_at finding = (finding.line, told finding.fault)

-- the finding at line n, given whether it is accepted and its fault
abbrev pub found_at : ℕ → Bool → Option Fault → List Finding
found_at n true fault = []
found_at n false None = []
found_at n false (Some fault) = (n, fault) ∷ []

-- the findings in lines, if the first has number n
abbrev pub findings_from : Taker → ℕ → List (List ℕ) → List Finding
findings_from taker n [] = []
findings_from taker n (raw ∷ lines) = found_at n (is_taken taker raw) (fault_of taker raw)
    ++ findings_from taker (n + 1) lines

-- the findings in a file
abbrev pub findings_in : Taker → List ℕ → List Finding
findings_in taker bytes = findings_from taker 1 (raw_lines bytes)

-- each line is accepted
abbrev pub is_trace : Taker → List ℕ → Bool
is_trace taker bytes = list_all (is_taken taker) (raw_lines bytes)
