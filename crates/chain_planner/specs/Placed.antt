-- The entries and the changes that are placed in a block: as many as its costs.
use Rattle.std.specs.Prelude.{◌≡◌, ℕ, suc, ◌+◌, ◌-◌, ◌^◌, List, [], ◌∷◌, ◌++◌}
use Rattle.pmp_encoding.specs.declared.perm.Perm.{Perm}
use Rattle.pmp_encoding.specs.declared.perm.Perm.TheVariants.{NoAccess}
use Rattle.pmp_encoding.specs.declared.region.Entry.{Entry}
use Rattle.prefix_tree.specs.Trees.{PermTree, Uniform, Split}
use Rattle.entry_planner.specs.Costs.{cost}
use Rattle.entry_planner.specs.Placement.{IsBlockOf}
use Rattle.entry_planner.proofs.Placements.{IsPlacedAt}
use Rattle.chain_planner.specs.declared.turns.Turn.{Turn}
use Rattle.chain_planner.specs.ChainCosts.{change, covered, through, begins}
use Rattle.chain_planner.specs.Turns.{turn_to}

-- an entry of the whole block, and the fewest of its halves over it
pub record IsCover (k first : ℕ) (lower upper : PermTree) (low high : List Entry) (e : Entry) :
    Type 0 where
  pub perm : Perm
  pub block : IsBlockOf (suc k) first perm e
  pub lows : IsPlacedAt k first perm lower low
  pub highs : IsPlacedAt k (first + 2 ^ k) perm upper high
  pub least : 1 + (cost lower perm + cost upper perm) ≡ covered lower upper

-- for a chain that passes the block: from p at its lower edge to q at its upper
pub data IsPassed : ℕ → ℕ → Perm → Perm → PermTree → List Entry → List Turn → Type 0 where
  follows : {k first : ℕ} {v : Perm} → IsPassed k first v v (Uniform v) [] []
  covers :
      {k first : ℕ} {p q v : Perm} {e : Entry} → IsBlockOf k first v e
      → through (Uniform v) p q ≡ 1 + change p q
      → IsPassed k first p q (Uniform v) (e ∷ []) (turn_to first p q)
  halves :
      {k first : ℕ} {p m n q : Perm} {lower upper : PermTree} {low high : List Entry}
      {before behind : List Turn} → IsPassed k first p m lower low before
      → IsPassed k (first + 2 ^ k) n q upper high behind
      → through (Split lower upper) p q ≡ through lower p m + change m n + through upper n q
      → IsPassed (suc k) first p q (Split lower upper) (low ++ high)
      (before ++ (turn_to (first + 2 ^ k) m n ++ behind))
  covers_halves :
      {k first : ℕ} {p q : Perm} {lower upper : PermTree} (low high : List Entry) (e : Entry)
      → IsCover k first lower upper low high e
      → through (Split lower upper) p q ≡ covered lower upper + change p q
      → IsPassed (suc k) first p q (Split lower upper) (low ++ (high ++ e ∷ []))
      (turn_to first p q)

-- for a chain that begins with m under an entry of the block, which becomes the last entry of the
-- list, and has q at the block's upper edge
pub data IsBegun : ℕ → ℕ → Perm → PermTree → List Entry → Entry → Perm → List Turn → Type 0 where
  under : {k first : ℕ} {q v : Perm} {e : Entry} → IsBlockOf k first v e
      → IsBegun k first q (Uniform v) [] e q []
  under_halves :
      {k first : ℕ} {q : Perm} {lower upper : PermTree} (low high : List Entry) {e : Entry}
      → IsCover k first lower upper low high e
      → begins (Split lower upper) q ≡ covered lower upper
      → IsBegun (suc k) first q (Split lower upper) (low ++ high) e q []
  in_lower :
      {k first : ℕ} {q b m n : Perm} {lower upper : PermTree} {low high : List Entry} {e : Entry}
      {before behind : List Turn} → IsBegun k first m lower low e b before
      → IsPassed k (first + 2 ^ k) n q upper high behind
      → begins (Split lower upper) q ≡ begins lower m + change m n + through upper n q
      → IsBegun (suc k) first q (Split lower upper) (low ++ high) e b
      (before ++ (turn_to (first + 2 ^ k) m n ++ behind))
  in_upper :
      {k first : ℕ} {q b : Perm} {lower upper : PermTree} (low : List Entry) {high : List Entry}
      {e : Entry} {turns : List Turn} → IsPlacedAt k first NoAccess lower low
      → IsBegun k (first + 2 ^ k) q upper high e b turns
      → begins (Split lower upper) q ≡ cost lower NoAccess + begins upper q
      → IsBegun (suc k) first q (Split lower upper) (low ++ high) e b turns

-- with those that are placed the old entries and changes are the new ones
abbrev pub AddsPlaced : ℕ → ℕ → Perm → PermTree → List Entry → List Entry → Type 0
AddsPlaced k first p tree old new = (es : List Entry) × IsPlacedAt k first p tree es
    × (new ≡ old ++ es)

abbrev pub AddsHalves : ℕ → ℕ → Perm → PermTree → PermTree → List Entry → List Entry → Type 0
AddsHalves k first p lower upper old new =
    (low : List Entry) × (high : List Entry) × IsPlacedAt (k - 1) first p lower low
    × IsPlacedAt (k - 1) (first + 2 ^ (k - 1)) p upper high × (new ≡ old ++ (low ++ high))

abbrev pub AddsBlock : ℕ → ℕ → Perm → List Entry → List Entry → Type 0
AddsBlock k first p old new = (e : Entry) × IsBlockOf k first p e × (new ≡ old ++ e ∷ [])

abbrev pub AddsPassed :
    ℕ → ℕ → Perm → Perm → PermTree → List Entry → List Entry → List Turn → List Turn → Type 0
AddsPassed k first p q tree old new old_turns new_turns =
    (es : List Entry) × (turns : List Turn) × IsPassed k first p q tree es turns
    × (new ≡ old ++ es) × (new_turns ≡ old_turns ++ turns)

abbrev pub AddsBegun :
    ℕ → ℕ → Perm → PermTree → Entry → Perm → List Entry → List Entry → List Turn → List Turn
    → Type 0
AddsBegun k first q tree e b old new old_turns new_turns =
    (es : List Entry) × (turns : List Turn) × IsBegun k first q tree es e b turns
    × (new ≡ old ++ es) × (new_turns ≡ old_turns ++ turns)
