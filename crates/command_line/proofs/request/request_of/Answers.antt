use Rattle.std.proofs.Common.{Option, Some, Result, Ok, Err, IfErr, ◌≡◌, ◌∙◌, codes, refl}
use Rattle.command_line.specs.declared.fault.Fault.{Fault}
use Rattle.command_line.specs.declared.hints.Hints.{Hints}
use Rattle.command_line.specs.declared.task.Subcommand.{Subcommand}
use Rattle.command_line.specs.Faults.{IsFirst, demands_of, first, unknown}
use Rattle.command_line.specs.Given.{flags_of, values_of}
use Rattle.command_line.specs.Hints.{hints_word}
use Rattle.command_line.specs.Requests.{IsFaultOfRequest, NamesNoRequest, of_task}
use Rattle.command_line.specs.Subcommands.{Text, subcommand_word}
use Rattle.command_line.proofs.Refused.{none_of}
use Rattle.command_line.proofs.request.request_of.Goals as goal

-- the fault of a subcommand's values is that of its word, where its hints have one
told_fault :
    {T : Type 0} (result : Result T Fault) (name : Text) (value flag : Text → Option Text) (subcommand : Subcommand) (hints : Hints)
    → name ≡ subcommand_word subcommand → value (codes "hints") ≡ Some (hints_word hints)
    → IfErr result (IsFirst value flag (demands_of subcommand)) → IfErr result (IsFaultOfRequest name value flag)
told_fault (Ok task) name value flag subcommand hints e h is = tt
told_fault (Err fault) name value flag subcommand hints e h is = of_task hints h (first subcommand e is)

-- and no request for a sound task is that word with these values
told_none :
    {T : Type 0} (result : Result T Fault) (name : Text) (value flag : Text → Option Text) (subcommand : Subcommand) → name ≡ subcommand_word subcommand
    → IfErr result (IsFirst value flag (demands_of subcommand)) → IfErr result (λ _. NamesNoRequest name value flag)
told_none (Ok task) name value flag subcommand e is = tt
told_none (Err fault) name value flag subcommand e is = λ request named has sound.
    none_of subcommand value flag fault is request.task request.options (named ∙ e) has.0 sound

pub returns-clause-fault : goal.returns-clause-fault
returns-clause-fault c =
    told_fault c.task_in.result c.args.name.now (values_of c.args.given.now) (flags_of c.args.given.now) c.in-Some.subcommand c.in_ok-hints.hints
    c.in-Some.ensures.some c.in_ok-hints.ensures.value c.task_in.ensures.fault

pub returns-clause-refused : goal.returns-clause-refused
returns-clause-refused c =
    told_none c.task_in.result c.args.name.now (values_of c.args.given.now) (flags_of c.args.given.now) c.in-Some.subcommand c.in-Some.ensures.some
    c.task_in.ensures.fault

pub returns-in_default-clause-fault : goal.returns-in_default-clause-fault
returns-in_default-clause-fault c = of_task c.in_ok-hints.hints c.in_ok-hints.ensures.value (unknown (c.in_default.ensures.none refl) refl)
