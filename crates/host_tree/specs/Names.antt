-- The names of properties, one after another, each with its terminating zero. Devicetree
-- Specification 0.4, section 5.5.
use Rattle.std.specs.Prelude.{ℕ, ◌+◌, List, drop, length}
use Rattle.device_tree.specs.Words.{BeginsWithText}

-- one of the names is this
pub data HasName : List ℕ → List ℕ → Type 0 where
  first : {names name : List ℕ} → BeginsWithText names name → HasName names name
  later : {names name : List ℕ} (other : List ℕ) → BeginsWithText names other
      → HasName (drop (length other + 1) names) name → HasName names name
