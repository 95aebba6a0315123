-- The subcommand that was entered, by its name and its rows, and the requests that it may be.
use Rattle.std.proofs.Common.{List, Option, Some, None, Result, Ok, Err, IfOk, IfErr, Box, ◌≡◌, ◌∙◌, ap, subst, sym, option_map}
use Rattle.std.specs.Option.{option_map_or}
use Rattle.std.specs.Box.{box_value}
use Rattle.clap.specs.Words.{Row, Text, one_of, subcommand_rows, subcommand_rows_of, subcommand_name_of}
use Rattle.clap.specs.declared.parser.matches.ArgMatches.{ArgMatches}
use Rattle.clap.specs.declared.parser.matches.ArgMatches.TheViews.{out-ArgMatches, out-SubCommand}
use Rattle.clap.specs.declared.parser.matches.SubCommand.{SubCommand}
use Rattle.command_line.specs.declared.fault.Fault.{Fault}
use Rattle.command_line.specs.declared.request.Request.{Request}
use Rattle.command_line.specs.Requests.{HasRequest, IsFaultOfRequest, NamesNoRequest}
use Rattle.command_line.specs.Subcommands.{word_of}
use Rattle.command_line.specs.CommandLine.{AreNone, IsFaultIn, IsRequest}
use Rattle.command_line.specs.Given.{value_of}

joined : {Z : Type 0} (sub : Option (Box SubCommand Z)) (name : Text) (rows : List Row)
    → Some name ≡ option_map (λ b. (out-SubCommand (box_value b)).name.now) sub → Some rows ≡ option_map (λ p. p.1) (subcommand_rows sub)
    → subcommand_rows sub ≡ Some (name, rows)
joined None name rows p q = cc
joined (Some b) name rows p q = cc

pub entered : (m : ArgMatches) (name : Text) (rows : List Row) → Some name ≡ subcommand_name_of m
    → Some rows ≡ option_map (λ p. p.1) (subcommand_rows (out-ArgMatches m).subcommand) → subcommand_rows_of m ≡ Some (name, rows)
entered m name rows p q = joined (out-ArgMatches m).subcommand name rows p q

pub with_rows :
    {E : Type 0} (result : Result Request E) (found : Option (Text × List Row)) (name : Text) (rows : List Row) → found ≡ Some (name, rows)
    → IfOk result (λ request. word_of request.task ≡ name) → IfOk result (HasRequest (value_of rows) (λ id. one_of id rows))
    → IfOk result (IsRequest found)
with_rows (Ok request) found name rows e word values = (rows, rw (sym word) at e, values)
with_rows (Err error) found name rows e word values = tt

pub fault_with_rows :
    {E : Type 0} (result : Result E Fault) (found : Option (Text × List Row)) (name : Text) (rows : List Row) → found ≡ Some (name, rows)
    → IfErr result (IsFaultOfRequest name (value_of rows) (λ id. one_of id rows)) → IfErr result (IsFaultIn found)
fault_with_rows result found name rows e is = subst (λ it. IfErr result (IsFaultIn it)) (sym e) is

same_name : (found : Option (Text × List Row)) (name word : Text) (rows others : List Row) → found ≡ Some (name, rows) → found ≡ Some (word, others)
    → word ≡ name
same_name found name word rows others e f = ap (λ o. option_map_or (λ p. p.0) o name) (sym f ∙ e)

same_rows : (found : Option (Text × List Row)) (name word : Text) (rows others : List Row) → found ≡ Some (name, rows) → found ≡ Some (word, others)
    → others ≡ rows
same_rows found name word rows others e f = ap (λ o. option_map_or (λ p. p.1) o rows) (sym f ∙ e)

pub none_with_rows :
    {E : Type 0} (result : Result Request E) (found : Option (Text × List Row)) (name : Text) (rows : List Row) → found ≡ Some (name, rows)
    → IfErr result (λ _. NamesNoRequest name (value_of rows) (λ id. one_of id rows)) → IfErr result (λ _. AreNone found)
none_with_rows (Ok request) found name rows e none = tt
none_with_rows (Err error) found name rows e none = λ request is sound.
    let same = same_rows found name (word_of request.task) rows is.0 e is.1 in
    none request (same_name found name (word_of request.task) rows is.0 e is.1) (rw same at is.2) sound
