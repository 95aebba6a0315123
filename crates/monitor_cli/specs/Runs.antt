-- The effects of `run` on the files and streams that are lent to it.
use Rattle.std.specs.Prelude.{◌≡◌, ℕ, ◌≤◌, Bool, true, false, List, Option, Some, Result, Ok}
use Rattle.std.specs.Prelude.{Err}
use Rattle.std.specs.Borrow.{Bor}
use Rattle.std.specs.Io.KnownBytes.{Appends}
use Rattle.text_lines.specs.Streams.{WriteFails}
use Rattle.text_lines.specs.Writings.{IsUnwritten, IsWell, TakesPart, Writing}
use Rattle.text_lines.specs.declared.fault.RunFault.{RunFault}
use Rattle.text_lines.specs.LineLoop.{CountsReads, CountsWrites, DoesAll, Meaning}
use Rattle.enclave_table.specs.Boot.{IsBootFault}
use Rattle.platforms.specs.Platform.{PlatformLayout}
use Rattle.platforms.specs.declared.boot_fault.BootFault.{BootFault}
use Rattle.hart_sim.specs.declared.machine.Machine.{Machine}
use Rattle.hart_sim.specs.After.{IsBooted}
use Rattle.hart_sim.specs.Machines.{kept_of}
use Rattle.hart_sim.specs.Reports.{DoesLine, RefusesLine, StarvesLine}
use Rattle.trace_answers.specs.Comparisons.{ComparesAll, LineAnswer}
use Rattle.trace_answers.specs.Explained.{explaining}
use Rattle.command_line.specs.declared.options.Answers.{Answers}
use Rattle.command_line.specs.declared.options.Answers.TheVariants as answers
use Rattle.program_files.specs.declared.trouble.Trouble.{Trouble}
use Rattle.program_files.specs.declared.trouble.Trouble.TheVariants.{Output}
use Rattle.program_files.specs.Troubles.{run_trouble}
use Rattle.monitor_cli.specs.Platforms.{boot_trouble}
use Rattle.program_files.specs.Reading.{IsUnread, Reading}
use Rattle.monitor_cli.specs.Platforms.{HasNoPlatform, HasPlatform}
use Rattle.monitor_cli.specs.Expected.{IsTold}
use Rattle.monitor_cli.specs.Stops.{Stops}
use Rattle.monitor_cli.specs.Measurements.{AreMeasures}

-- the measurements of a machine's live enclaves were written if they are requested, and otherwise
-- nothing
abbrev pub IsMeasured : Bool → Machine → Option (List ℕ) → Option (List ℕ) → Type 0
IsMeasured false machine before after = after ≡ before
IsMeasured true machine before after = (text : List ℕ) × AreMeasures (kept_of machine).table 64 text
    × Appends before after text

-- a machine runs a trace line by line, to its end or until it stops, and the measurements come last
pub data RunsTrace {R W : Type 0} (does : Meaning Machine) (booted : Machine) (trace : Bor (List ℕ))
    (measure : Bool) (second : Reading R) (out : Writing W) : Result ℕ Trouble → Type 0 where
  to_its_end :
      (ended : Machine) (report : Option (List ℕ))
      → DoesAll does booted ended second.before second.after out.before report
      → IsMeasured measure ended report out.after
      → second.failed ≡ second.failures → IsWell out
      → RunsTrace does booted trace measure second out (Ok 0)
  until :
      (ended : Machine) (fault : RunFault)
      → Stops does RefusesLine StarvesLine booted ended second.before second.after out.before
      out.after fault
      → CountsReads (Err fault) second.failures second.failed
      → CountsWrites (Err fault) out.failures out.failed out.stalls out.stalled
      → RunsTrace does booted trace measure second out (Err (run_trouble trace fault))
  not_measured :
      (ended : Machine) (report : Option (List ℕ)) (n : ℕ) (text : List ℕ) → measure ≡ true
      → DoesAll does booted ended second.before second.after out.before report → n ≤ 64
      → AreMeasures (kept_of ended).table n text → TakesPart text report out.after
      → second.failed ≡ second.failures → WriteFails out.failures out.failed out.stalls out.stalled
      → RunsTrace does booted trace measure second out (Err Output)

-- a machine runs a trace and a comment after each answer explains what happened: after the report
-- come the measurements, and then a summary
pub data RunsExplaining {R W : Type 0} (does : Meaning Machine) (booted : Machine)
    (trace : Bor (List ℕ)) (measure : Bool) (second : Reading R)
    (out : Writing W) : Result ℕ Trouble
    → Type 0 where
  explained :
      (ended : Machine) (report measured : Option (List ℕ)) (summary : List ℕ)
      → DoesAll does booted ended second.before second.after out.before report
      → IsMeasured measure ended report measured → Appends measured out.after summary
      → second.failed ≡ second.failures → IsWell out
      → RunsExplaining does booted trace measure second out (Ok 0)
  stopped :
      (ended : Machine) (fault : RunFault)
      → Stops does RefusesLine StarvesLine booted ended second.before second.after out.before
      out.after fault
      → CountsReads (Err fault) second.failures second.failed
      → CountsWrites (Err fault) out.failures out.failed out.stalls out.stalled
      → RunsExplaining does booted trace measure second out (Err (run_trouble trace fault))
  not_all_measured :
      (ended : Machine) (report : Option (List ℕ)) (n : ℕ) (text : List ℕ) → measure ≡ true
      → DoesAll does booted ended second.before second.after out.before report → n ≤ 64
      → AreMeasures (kept_of ended).table n text → TakesPart text report out.after
      → second.failed ≡ second.failures → WriteFails out.failures out.failed out.stalls out.stalled
      → RunsExplaining does booted trace measure second out (Err Output)
  not_summed_up :
      (ended : Machine) (report measured : Option (List ℕ)) (summary : List ℕ)
      → DoesAll does booted ended second.before second.after out.before report
      → IsMeasured measure ended report measured → TakesPart summary measured out.after
      → second.failed ≡ second.failures → WriteFails out.failures out.failed out.stalls out.stalled
      → RunsExplaining does booted trace measure second out (Err Output)

-- a machine runs a trace and its answers are compared with those expected in its comments: the
-- first mismatch is reported after the report and the measurements, with the status 1
pub data RunsExpecting {R W : Type 0} (does : Meaning Machine) (booted : Machine)
    (trace : Bor (List ℕ)) (measure : Bool) (second : Reading R)
    (out : Writing W) : Result ℕ Trouble
    → Type 0 where
  compared :
      (ended : Machine) (report measured : Option (List ℕ)) (difference : Option LineAnswer)
      (status : ℕ)
      → ComparesAll does booted ended second.before second.after out.before report difference
      → IsMeasured measure ended report measured → IsTold difference measured out.after status
      → second.failed ≡ second.failures → IsWell out
      → RunsExpecting does booted trace measure second out (Ok status)
  unfinished :
      (ended : Machine) (fault : RunFault)
      → Stops does RefusesLine StarvesLine booted ended second.before second.after out.before
      out.after fault
      → CountsReads (Err fault) second.failures second.failed
      → CountsWrites (Err fault) out.failures out.failed out.stalls out.stalled
      → RunsExpecting does booted trace measure second out (Err (run_trouble trace fault))
  unmeasured :
      (ended : Machine) (report : Option (List ℕ)) (difference : Option LineAnswer) (n : ℕ)
      (text : List ℕ) → measure ≡ true
      → ComparesAll does booted ended second.before second.after out.before report difference
      → n ≤ 64 → AreMeasures (kept_of ended).table n text → TakesPart text report out.after
      → second.failed ≡ second.failures → WriteFails out.failures out.failed out.stalls out.stalled
      → RunsExpecting does booted trace measure second out (Err Output)
  not_told :
      (ended : Machine) (report measured : Option (List ℕ)) (found : LineAnswer) (text : List ℕ)
      → ComparesAll does booted ended second.before second.after out.before report (Some found)
      → IsMeasured measure ended report measured → TakesPart text measured out.after
      → second.failed ≡ second.failures
      → WriteFails out.failures out.failed out.stalls out.stalled
      → RunsExpecting does booted trace measure second out (Err Output)

-- a machine runs a trace; with `--explain` a comment after each answer explains what happened, and
-- the summary comes last; with `--expect` the answers are compared
abbrev pub RunsTraceAs : {R W : Type 0} → Answers → Machine → Bor (List ℕ) → Bool → Reading R
    → Writing W → Result ℕ Trouble → Type 0
RunsTraceAs answers.Plain booted trace measure second out done =
    RunsTrace DoesLine booted trace measure second out done
RunsTraceAs answers.Explained booted trace measure second out done =
    RunsExplaining (explaining DoesLine) booted trace measure second out done
RunsTraceAs answers.Compared booted trace measure second out done =
    RunsExpecting DoesLine booted trace measure second out done

-- `run` reads and boots the platform, and then its machine runs the trace
pub data Runs {R W : Type 0} (answers : Answers) (file trace : Bor (List ℕ)) (measure : Bool)
    (first second : Reading R) (out : Writing W) : Result ℕ Trouble → Type 0 where
  ran :
      (platform : PlatformLayout) (booted : Machine) (result : Result ℕ Trouble)
      → HasPlatform first platform → IsBooted platform booted
      → RunsTraceAs answers booted trace measure second out result
      → Runs answers file trace measure first second out result
  no_platform : (trouble : Trouble) → HasNoPlatform file first trouble → IsUnread second
      → IsUnwritten out → Runs answers file trace measure first second out (Err trouble)
  not_booted :
      (platform : PlatformLayout) (fault : BootFault) → HasPlatform first platform
      → IsBootFault platform fault → IsUnread second → IsUnwritten out
      → Runs answers file trace measure first second out (Err (boot_trouble fault))
