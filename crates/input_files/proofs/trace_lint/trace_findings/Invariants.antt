use Rattle.std.proofs.Common.{◌≡◌, ◌++◌, ◌+◌, ◌≤◌, ◌&&◌, length, map}
use Rattle.std.specs.Prelude.{◌==◌}
use Rattle.text_lines.specs.Lines.{raw_lines}
use Rattle.input_files.specs.Traces.{findings_from, is_trace, told_at}
use Rattle.input_files.proofs.trace_lint.trace_findings.Given as goal

abbrev pub decreases-loop-rest : goal.decreases-loop-rest
decreases-loop-rest l = length l.rest

abbrev pub invariant-loop-rest : goal.invariant-loop-rest
invariant-loop-rest l = record {
  found : map (λ finding. told_at finding) l.findings.items ++ findings_from l.taker (l.line + 1) (raw_lines l.rest)
      ≡ findings_from l.taker 1 (raw_lines l.bytes);
  verdict : (length l.findings.items == 0 && is_trace l.taker l.rest) ≡ is_trace l.taker l.bytes;
  counted : l.line + length l.rest ≤ length l.bytes;
}
