-- The list of entries that register pairs mean.
use Rattle.std.specs.Prelude.{ℕ, List, [], ◌∷◌}
use Rattle.pmp_encoding.specs.declared.region.Entry.{Entry}
use Rattle.pmp_encoding.specs.Encoding.{IsOff, MeansEntry}

-- the entries that the pairs mean, in order, without the pairs that are OFF
pub data MeansList : List (ℕ × ℕ) → List Entry → Type 0 where
  done : MeansList [] []
  skip : {pair : ℕ × ℕ} {pairs : List (ℕ × ℕ)} {entries : List Entry} → IsOff pair.0 pair.1
      → MeansList pairs entries → MeansList (pair ∷ pairs) entries
  keep : {pair : ℕ × ℕ} {e : Entry} {pairs : List (ℕ × ℕ)} {entries : List Entry}
      → MeansEntry pair.0 pair.1 e → MeansList pairs entries
      → MeansList (pair ∷ pairs) (e ∷ entries)
