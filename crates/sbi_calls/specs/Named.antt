-- The harts that an outcome names.
use Rattle.std.specs.Prelude.{◌≡◌, ℕ, ◌<◌}
use Rattle.std.specs.Int.{bit_at}
use Rattle.sbi_calls.specs.declared.harts.HartState.TheVariants.{Stopped}
use Rattle.sbi_calls.specs.declared.harts.Harts.{Harts}
use Rattle.sbi_calls.specs.declared.outcome.Outcome.{Outcome}
use Rattle.sbi_calls.specs.declared.outcome.Outcome.TheVariants.{FenceInstructions, Interrupt}
use Rattle.sbi_calls.specs.declared.outcome.Outcome.TheVariants.{FenceTranslations, StartHart}
use Rattle.sbi_calls.specs.Harts.{hart_count, state_of}

-- each hart of the word is on the board
abbrev pub AreOnBoard : ℕ → ℕ → Type 0
AreOnBoard count word = (hart : ℕ) → bit_at word hart ≡ 1 → hart < count

-- each hart that the outcome names is on the board, and a hart that it starts is stopped
abbrev pub NamesBoard : Harts → Outcome → Type 0
NamesBoard harts (Interrupt word) = AreOnBoard (hart_count harts) word
NamesBoard harts (FenceInstructions word) = AreOnBoard (hart_count harts) word
NamesBoard harts (FenceTranslations word) = AreOnBoard (hart_count harts) word
NamesBoard harts (StartHart hart address opaque) =
    (hart < hart_count harts) × (state_of harts hart ≡ Stopped)
NamesBoard harts _ = Unit {0}
