-- The exit status if the words name no task.
use Rattle.std.specs.Prelude.{◌≡◌, ◌≢◌, ◌⊎◌, ℕ, List}
use Rattle.std.specs.Process.{exit_status}
use Rattle.std.specs.declared.process.ExitCode.{ExitCode}
use Rattle.clap.specs.declared.error.kind.ErrorKind.{ErrorKind}
use Rattle.clap.specs.declared.error.kind.ErrorKind.TheVariants.{DisplayHelp, DisplayVersion}
use Rattle.clap.specs.declared.error.kind.ErrorKind.TheVariants.{OutOfMemory}
use Rattle.command_line.specs.CommandLine.{Refuses}

-- the exit status after an error of this kind: 4 if an allocation failed, 0 if help or the version
-- was printed or 3 if that failed, and 2 otherwise
pub record IsStatusOf (kind : ErrorKind) (status : ℕ) : Type 0 where
  pub memory : kind ≡ OutOfMemory → status ≡ 4
  pub shown : kind ≡ DisplayHelp ⊎ kind ≡ DisplayVersion → status ≡ 0 ⊎ status ≡ 3
  pub mistake : kind ≢ OutOfMemory → kind ≢ DisplayHelp → kind ≢ DisplayVersion → status ≡ 2

-- words are rejected with an error of a matching kind, and with its status
pub record IsRefused (words : List (List ℕ)) (code : ExitCode) : Type 0 where
  pub kind : ErrorKind
  pub refuses : Refuses words kind
  pub status : IsStatusOf kind (exit_status code)
