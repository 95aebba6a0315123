-- The program as `clap` sees it is one whose parses it tells.
use Rattle.std.proofs.Common.{List, [], ◌≡◌, ◌⊎◌, inl, inr, true, refl, subst, ⊎_elim}
use Rattle.clap.specs.Kinds.{IsAmong}
use Rattle.clap.specs.Words.{App, HasMatchesOf, Text, fault_of, is_simple, is_simple_and_free, subcommand_of, subcommand_rows_of}
use Rattle.clap.specs.declared.error.kind.ErrorKind.{ErrorKind}
use Rattle.clap.specs.declared.error.kind.ErrorKind.TheVariants.{OutOfMemory}
use Rattle.clap.specs.declared.parser.matches.ArgMatches.{ArgMatches}
use Rattle.command_line.specs.CommandLine.{program_app, with_subcommands, AreNone, IsFaultIn, IsRequest, Refuses}
use Rattle.command_line.specs.Kinds.{IsMistake}
use Rattle.command_line.specs.declared.fault.Fault.{Fault}
use Rattle.command_line.specs.declared.request.Request.{Request}

program_told : is_simple_and_free program_app ≡ true
unfolding with_subcommands
program_told = refl

program_simple : is_simple program_app ≡ true
unfolding with_subcommands
program_simple = refl

pub no_kind : (app : App) (words : List Text) → app ≡ program_app → (is_simple_and_free app ≡ true → fault_of app words ≡ []) → fault_of program_app words ≡ []
no_kind app words e h = subst (λ a. is_simple_and_free a ≡ true → fault_of a words ≡ []) e h program_told

pub some_kind :
    (app : App) (words : List Text) (kind : ErrorKind) → app ≡ program_app
    → (is_simple_and_free app ≡ true → (kind ≡ OutOfMemory) ⊎ IsAmong kind (fault_of app words))
    → Refuses words kind
some_kind app words kind e h =
    let told = subst (λ a. is_simple_and_free a ≡ true → (kind ≡ OutOfMemory) ⊎ IsAmong kind (fault_of a words)) e h program_told in
    ⊎_elim (λ m. inl m) (λ k. inr (inl k)) told

pub some_request :
    (app : App) (words : List Text) (m : ArgMatches) (request : Request) → app ≡ program_app → HasMatchesOf app words m
    → IsRequest (subcommand_rows_of m) request
    → IsRequest (subcommand_of program_app words) request
some_request app words m request e h is = subst (λ found. IsRequest found request) (subst (λ a. HasMatchesOf a words m) e h program_simple).1 is

pub no_request :
    (app : App) (words : List Text) (m : ArgMatches) (kind : ErrorKind) (fault : Fault) → app ≡ program_app → HasMatchesOf app words m
    → AreNone (subcommand_rows_of m)
    → IsFaultIn (subcommand_rows_of m) fault → IsMistake kind → Refuses words kind
no_request app words m kind fault e h none first told =
    let same = (subst (λ a. HasMatchesOf a words m) e h program_simple).1 in
    inr (inr (record { none = subst AreNone same none; fault = fault; first = subst (λ found. IsFaultIn found fault) same first; told = told }))
