-- Nested blocks: each except the smallest splits into a half that contains the next one and a
-- uniform half.
use Rattle.std.specs.Prelude.{◌≡◌, ◌≢◌, ℕ, zero, suc, ◌+◌, ◌-◌, ◌*◌, ◌^◌, ◌<◌, ◌≤◌, Bool, cond, ltb}
use Rattle.std.specs.Prelude.{nat_le}
use Rattle.pmp_encoding.specs.declared.perm.Perm.{Perm}
use Rattle.prefix_tree.specs.declared.chains.Chain.{Chain}
use Rattle.prefix_tree.specs.declared.chains.Edges.{Edges}
use Rattle.prefix_tree.specs.declared.chains.Part.{Part}
use Rattle.prefix_tree.specs.Trees.{PermTree, Uniform, Split}

-- a block 2 ^ n times as large as one inside it, which `place` blocks of its size precede, with one
-- permission before that block and one after it
abbrev pub nested : ℕ → ℕ → Perm → Perm → PermTree → PermTree
nested zero place before behind tree = tree
nested (suc n) place before behind tree =
    cond (ltb place (2 ^ n)) (Split (nested n place before behind tree) (Uniform behind))
    (Split (Uniform before) (nested n (place - 2 ^ n) before behind tree))

-- the largest block of a chain, given its smallest
abbrev pub chained : Chain → PermTree → PermTree
chained chain tree = nested chain.levels chain.place chain.before chain.behind tree

-- a chain has 1 to 44 split blocks, and the smallest block lies in the largest
pub record IsChain (chain : Chain) : Type 0 where
  pub some : 0 < chain.levels
  pub most : chain.levels ≤ 44
  pub place : chain.place < 2 ^ chain.levels

-- the next smaller block is the upper half of the largest
abbrev pub goes_up : Chain → Bool
goes_up chain = nat_le (2 ^ (chain.levels - 1)) chain.place

-- the chain without its largest block
abbrev pub smaller : Chain → Chain
smaller chain = record {
  levels = chain.levels - 1;
  place = cond (goes_up chain) (chain.place - 2 ^ (chain.levels - 1)) chain.place;
  before = chain.before;
  behind = chain.behind;
}

-- the edges of a view from the page `first` up to but excluding `end`: it has one permission before
-- the first edge and one from the last on
pub record AreEdges (view : ℕ → Perm) (first end : ℕ) (edges : Edges) : Type 0 where
  pub low : first < edges.low
  pub rising : edges.low ≤ edges.high
  pub high : edges.high < end
  pub apart : view edges.low ≢ edges.before
  pub before : (page : ℕ) → first ≤ page → page < edges.low → view page ≡ edges.before
  pub behind : (page : ℕ) → edges.high ≤ page → page < end → view page ≡ edges.behind

-- a part of the 2 ^ height pages from `first` on, which remains after halving them `levels` times,
-- contains all the edges inside
pub record IsPartAround (first height low high levels place start : ℕ) : Type 0 where
  pub within : levels ≤ height
  pub placed : place < 2 ^ levels
  pub starts : start ≡ first + place * 2 ^ (height - levels)
  pub ends : start + 2 ^ (height - levels) ≤ first + 2 ^ height
  pub begins : start < low
  pub reaches : high < start + 2 ^ (height - levels)

abbrev pub HasEdges : ℕ → ℕ → Edges → Part → Type 0
HasEdges first height edges part =
    IsPartAround first height edges.low edges.high part.levels part.place part.first
