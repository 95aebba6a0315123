-- The length of the shortest lists with a chain that mean a view.
use Rattle.std.specs.Prelude.{◌≡◌, ℕ}
use Rattle.pmp_encoding.specs.declared.xlen.Xlen.{Xlen}
use Rattle.pmp_encoding.specs.Views.{View}
use Rattle.chain_planner.specs.Chained.{Chained, IsFewestChained, length_of}

-- a list of n entries, from entry 0 of a hart on, means the view: NA4 and NAPOT entries, then at
-- most one OFF entry, which counts, then one chain of TOR entries. No shorter list of this kind
-- means it
pub record NeedsWithChain (xlen : Xlen) (view : View) (n : ℕ) : Type 0 where
  pub list : Chained
  pub fewest : IsFewestChained xlen 0 view list
  pub count : length_of list ≡ n
