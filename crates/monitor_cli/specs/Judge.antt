-- The effects of `judge` on the files and streams that are lent to it.
use Rattle.std.specs.Prelude.{◌≡◌, ℕ, ◌^◌, Bool, true, false, List, Option, Some}
use Rattle.std.specs.Prelude.{Result, Ok, Err}
use Rattle.std.specs.Borrow.{Bor}
use Rattle.text_lines.specs.Streams.{WriteFails}
use Rattle.text_lines.specs.Writings.{Breaks, IsUnwritten, IsWell, TakesAll, TakesPart, Writing}
use Rattle.pmp_encoding.specs.declared.bank.Bank.{Bank}
use Rattle.pmp_encoding.specs.declared.limit.Limit.{Limit}
use Rattle.pmp_encoding.specs.Limits.{limit_number}
use Rattle.permission_map.specs.declared.runs.Run.{Run}
use Rattle.permission_map.specs.Runs.{view_of_runs}
use Rattle.pmp_match.specs.declared.registers.Registers.{Registers}
use Rattle.text_lines.specs.declared.fault.RunFault.{RunFault}
use Rattle.text_lines.specs.LineLoop.{CountsReads, CountsWrites, DoesAll, Meaning}
use Rattle.hart_trace.specs.Answers.{Outcomes, answered_by, by_list, is_no_access}
use Rattle.register_audit.specs.Answers.{by_registers}
use Rattle.register_audit.specs.Listings.{HasRules, IsRefused}
use Rattle.command_line.specs.declared.options.Options.{Options}
use Rattle.command_line.specs.declared.options.Answers.{Answers}
use Rattle.command_line.specs.declared.options.Answers.TheVariants as answers
use Rattle.program_files.specs.declared.trouble.Trouble.{Trouble}
use Rattle.program_files.specs.declared.trouble.Trouble.TheVariants.{Output}
use Rattle.trace_answers.specs.Comparisons.{ComparesAll, LineAnswer}
use Rattle.trace_answers.specs.Explained.{explaining}
use Rattle.monitor_cli.specs.Expected.{IsTold}
use Rattle.monitor_cli.specs.Stops.{Stops}
use Rattle.program_files.specs.Troubles.{run_trouble}
use Rattle.program_files.specs.Reading.{Reading, IsUnread, HasBytes, HasMap}
use Rattle.monitor_cli.specs.CertifiedPlan.{IsLoaded}
use Rattle.monitor_cli.specs.Commands.{HasNoListing}
use Rattle.monitor_cli.specs.Plan.{HasNoPlan}

-- a trace is judged line by line, to its end or until it stops
pub data JudgesTrace {R W : Type 0} (does : Meaning (Unit {0})) (trace : Bor (List ℕ))
    (second : Reading R) (out : Writing W) : Result ℕ Trouble → Type 0 where
  to_its_end : DoesAll does tt tt second.before second.after out.before out.after
      → second.failed ≡ second.failures → IsWell out → JudgesTrace does trace second out (Ok 0)
  until :
      (fault : RunFault) → Stops does is_no_access (λ old line new. ⊥) tt tt second.before
      second.after out.before out.after fault
      → CountsReads (Err fault) second.failures second.failed
      → CountsWrites (Err fault) out.failures out.failed out.stalls out.stalled
      → JudgesTrace does trace second out (Err (run_trouble trace fault))

-- a trace is judged and its answers are compared with those expected in its comments: the first
-- mismatch is reported after the answers, with the status 1
pub data JudgesExpecting {R W : Type 0} (does : Meaning (Unit {0})) (trace : Bor (List ℕ))
    (second : Reading R) (out : Writing W) : Result ℕ Trouble → Type 0 where
  compared :
      (report : Option (List ℕ)) (first : Option LineAnswer) (status : ℕ)
      → ComparesAll does tt tt second.before second.after out.before report first
      → IsTold first report out.after status
      → second.failed ≡ second.failures → IsWell out
      → JudgesExpecting does trace second out (Ok status)
  not_told :
      (report : Option (List ℕ)) (found : LineAnswer) (text : List ℕ)
      → ComparesAll does tt tt second.before second.after out.before report (Some found)
      → TakesPart text report out.after
      → second.failed ≡ second.failures → WriteFails out.failures out.failed out.stalls out.stalled
      → JudgesExpecting does trace second out (Err Output)
  unfinished :
      (fault : RunFault) → Stops does is_no_access (λ old line new. ⊥) tt tt second.before
      second.after out.before out.after fault
      → CountsReads (Err fault) second.failures second.failed
      → CountsWrites (Err fault) out.failures out.failed out.stalls out.stalled
      → JudgesExpecting does trace second out (Err (run_trouble trace fault))

-- a trace is judged; with `--explain` a comment after each answer names the entry that decided it,
-- and with `--expect` the answers are compared
abbrev pub JudgesTraceAs : {R W : Type 0} → Answers → Outcomes → Bor (List ℕ) → Reading R
    → Writing W → Result ℕ Trouble → Type 0
JudgesTraceAs answers.Plain outcomes trace second out done =
    JudgesTrace (answered_by outcomes) trace second out done
JudgesTraceAs answers.Explained outcomes trace second out done =
    JudgesTrace (explaining (answered_by outcomes)) trace second out done
JudgesTraceAs answers.Compared outcomes trace second out done =
    JudgesExpecting (answered_by outcomes) trace second out done

-- `judge` reads the map and loads its entries, and then judges the trace by them; or no plan of the
-- map fits the hart
pub data JudgesByMap {R W : Type 0} (map trace : Bor (List ℕ)) (limit : Limit) (options : Options)
    (first second : Reading R) (out : Writing W) : Result ℕ Trouble → Type 0 where
  judged :
      (runs : List Run) (bank : Bank) (done : Result ℕ Trouble) → HasMap first runs
      → IsLoaded (view_of_runs runs) options.xlen limit bank
      → JudgesTraceAs options.answers (by_list bank) trace second out done
      → JudgesByMap map trace limit options first second out done
  no_plan : (trouble : Trouble)
      → HasNoPlan map options.xlen (Some (limit_number limit)) first trouble → IsUnread second
      → IsUnwritten out → JudgesByMap map trace limit options first second out (Err trouble)

-- `judge --registers` reads the listing of registers, and then judges the trace by them line by
-- line; if they judge nothing, the trace is not read, and the reason is printed
pub data JudgesByRegisters {R W : Type 0} (listing trace : Bor (List ℕ)) (options : Options)
    (first second : Reading R) (out : Writing W) : Result ℕ Trouble → Type 0 where
  ruled :
      (bytes : List ℕ) (registers : Registers) (done : Result ℕ Trouble)
      → HasBytes (2 ^ 20) first bytes → HasRules options.xlen bytes registers
      → JudgesTraceAs options.answers (by_registers registers) trace second out done
      → JudgesByRegisters listing trace options first second out done
  refused :
      (bytes line : List ℕ) → HasBytes (2 ^ 20) first bytes
      → IsRefused options.xlen bytes → IsUnread second → TakesAll line out
      → JudgesByRegisters listing trace options first second out (Ok 1)
  no_listing : (trouble : Trouble) → HasNoListing listing options.xlen first trouble
      → IsUnread second → IsUnwritten out
      → JudgesByRegisters listing trace options first second out (Err trouble)
  no_output :
      (bytes line : List ℕ) → HasBytes (2 ^ 20) first bytes
      → IsRefused options.xlen bytes → IsUnread second → Breaks line out
      → JudgesByRegisters listing trace options first second out (Err Output)

-- `judge`, with `--registers` or without
abbrev pub JudgesBy : {R W : Type 0} → Bool → Bor (List ℕ) → Bor (List ℕ) → Limit → Options
    → Reading R → Reading R → Writing W → Result ℕ Trouble → Type 0
JudgesBy true file trace limit options first second out done =
    JudgesByRegisters file trace options first second out done
JudgesBy false file trace limit options first second out done =
    JudgesByMap file trace limit options first second out done
