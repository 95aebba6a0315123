-- The kinds of `clap` errors for words that are well-formed but name no task.
use Rattle.std.specs.Prelude.{◌≢◌}
use Rattle.clap.specs.declared.error.kind.ErrorKind.{ErrorKind}
use Rattle.clap.specs.declared.error.kind.ErrorKind.TheVariants.{DisplayHelp, DisplayVersion}
use Rattle.clap.specs.declared.error.kind.ErrorKind.TheVariants.{OutOfMemory}

-- the words are at fault: the error is not a request for help or the version, and not a failed
-- allocation
pub record IsMistake (kind : ErrorKind) : Type 0 where
  pub no_help : kind ≢ DisplayHelp
  pub no_version : kind ≢ DisplayVersion
  pub no_memory : kind ≢ OutOfMemory
