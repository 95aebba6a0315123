-- The rows are the lemmas.
use Rattle.library_tests.proofs.Booted.{boot_means}
use Rattle.library_tests.proofs.BootNeeds.{boot_needs}
use Rattle.library_tests.proofs.laws.boot_row.Goals as goal

pub returns : goal.returns
returns c = record { means = boot_means; needs = boot_needs }
