-- The nodes of a certificate, compared with a view.
use Rattle.std.specs.Prelude.{◌≡◌, ◌≢◌, ℕ, suc, ◌+◌, ◌^◌, ◌<◌, ◌≤◌, ◌⊎◌, List, ◌∷◌, ◌++◌, Result}
use Rattle.std.specs.Prelude.{MatchResult}
use Rattle.pmp_encoding.specs.declared.perm.Perm.{Perm}
use Rattle.pmp_encoding.specs.Perms.{bits_of}
use Rattle.pmp_encoding.specs.Views.{View, IsUniform}
use Rattle.pmp_match.specs.Bounds.{BoundTree, bound_of, IsSoundAt}
use Rattle.certificate_format.specs.Costs.{cost_of}
use Rattle.certificate_format.specs.Spelling.{costs_bytes, node_bytes, FitsNode, HasNoOverflow}
use Rattle.certificate_format.specs.Faults.{ShortFault, TagFault, PermFault}
use Rattle.certificate_format.specs.declared.costs.SixCosts.{SixCosts}
use Rattle.certificate_format.specs.declared.fault.ReadFault.{ReadFault}
use Rattle.certificate_check.specs.declared.refusal.CheckRefusal.{CheckRefusal}
use Rattle.certificate_check.specs.declared.refusal.CheckRefusal.TheVariants.{TooDeep}
use Rattle.certificate_check.specs.declared.refusal.CheckRefusal.TheVariants.{LeafNotUniform}
use Rattle.certificate_check.specs.declared.refusal.CheckRefusal.TheVariants.{WrongLeaf}
use Rattle.certificate_check.specs.declared.refusal.CheckRefusal.TheVariants.{CostTooHigh}
use Rattle.certificate_check.specs.declared.refusal.CheckRefusal.TheVariants.{CostOverflow}
use Rattle.certificate_check.specs.Refusals.{refusal_of}
use Rattle.certificate_check.specs.Later.{AgreeFrom}

-- a sound bound of the 2 ^ k pages from `first` on that a certificate can contain and that does not
-- overflow
pub record IsRightNode (view : View) (k first : ℕ) (tree : BoundTree) : Type 0 where
  pub fits : FitsNode k tree
  pub sound : IsSoundAt view k first tree
  pub sums : HasNoOverflow tree

-- the numbers are those of the tree's root
abbrev pub AreNumbersOf : BoundTree → SixCosts → Type 0
AreNumbersOf tree numbers = (p : Perm) → cost_of numbers p ≡ bound_of tree p

-- each sum of the halves' numbers, plus one, fits in four bytes
abbrev pub HaveSums : (Perm → ℕ) → (Perm → ℕ) → Type 0
HaveSums lower upper = (p : Perm) → lower p + upper p + 1 < 2 ^ 32

-- the halves' numbers allow the costs of a split block, and their sums plus one fit in four bytes
pub record IsAllowed (costs lower upper : Perm → ℕ) : Type 0 where
  pub sums : HaveSums lower upper
  pub same : (p : Perm) → costs p ≤ lower p + upper p
  pub any : (p q : Perm) → costs p ≤ 1 + (lower q + upper q)

-- some sum of the halves' numbers, plus one, does not fit in four bytes
abbrev pub IsTooLarge : (Perm → ℕ) → (Perm → ℕ) → Type 0
IsTooLarge lower upper = (p : Perm) × (2 ^ 32 ≤ lower p + upper p + 1)

-- some cost is greater than the halves' sum for the same permission, or greater than one plus their
-- sum for some permission
abbrev pub IsTooHigh : (Perm → ℕ) → (Perm → ℕ) → (Perm → ℕ) → Type 0
IsTooHigh costs lower upper = (p : Perm) × (q : Perm)
    × ((lower p + upper p < costs p) ⊎ (1 + (lower q + upper q) < costs p))

-- the costs of a split block contain the fault of a refusal: overflowing sums are reported before
-- costs that are too high
abbrev pub BranchFault : (Perm → ℕ) → (Perm → ℕ) → (Perm → ℕ) → CheckRefusal → Type 0
BranchFault costs lower upper CostOverflow = IsTooLarge lower upper
BranchFault costs lower upper CostTooHigh = HaveSums lower upper × IsTooHigh costs lower upper
BranchFault costs lower upper _ = ⊥

-- the node at the front of the bytes, for the 2 ^ k pages from `first` on, contains the fault of a
-- refusal
pub data NodeFault (view : View) : ℕ → ℕ → List ℕ → CheckRefusal → Type 0 where
  in_tag : {k first : ℕ} {bytes : List ℕ} (fault : ReadFault) → TagFault bytes fault
      → NodeFault view k first bytes (refusal_of fault)
  in_perm : {k first : ℕ} {bytes : List ℕ} (rest : List ℕ) (fault : ReadFault) → bytes ≡ 0 ∷ rest
      → PermFault rest fault → NodeFault view k first bytes (refusal_of fault)
  not_uniform :
      {k first : ℕ} {bytes : List ℕ} (perm : Perm) (rest : List ℕ) → bytes ≡ 0 ∷ bits_of perm ∷ rest
      → ((other : Perm) → IsUniform view k first other → ⊥)
      → NodeFault view k first bytes LeafNotUniform
  another :
      {k first : ℕ} {bytes : List ℕ} (perm other : Perm) (rest : List ℕ)
      → bytes ≡ 0 ∷ bits_of perm ∷ rest → IsUniform view k first other → perm ≢ other
      → NodeFault view k first bytes WrongLeaf
  a_page : {k first : ℕ} {bytes : List ℕ} (rest : List ℕ) → bytes ≡ 1 ∷ rest → k ≡ 0
      → NodeFault view k first bytes TooDeep
  in_costs :
      {k first : ℕ} {bytes : List ℕ} (half : ℕ) (rest : List ℕ) (fault : ReadFault) → k ≡ suc half
      → bytes ≡ 1 ∷ rest → ShortFault 24 rest fault
      → NodeFault view k first bytes (refusal_of fault)
  in_lower :
      {k first : ℕ} {bytes : List ℕ} (half : ℕ) (costs : Perm
      → ℕ) (rest : List ℕ) (refusal : CheckRefusal) → k ≡ suc half
      → bytes ≡ 1 ∷ (costs_bytes costs ++ rest)
      → NodeFault view half first rest refusal → NodeFault view k first bytes refusal
  in_upper :
      {k first : ℕ} {bytes : List ℕ} (half : ℕ) (costs : Perm
      → ℕ) (lower : BoundTree) (rest : List ℕ) (refusal : CheckRefusal) → k ≡ suc half
      → bytes ≡ 1 ∷ (costs_bytes costs ++ (node_bytes lower ++ rest))
      → IsRightNode view half first lower → NodeFault view half (first + 2 ^ half) rest refusal
      → NodeFault view k first bytes refusal
  overflow :
      {k first : ℕ} {bytes : List ℕ} (half : ℕ) (costs : Perm
      → ℕ) (lower upper : BoundTree) (rest : List ℕ) → k ≡ suc half
      → bytes ≡ 1 ∷ (costs_bytes costs ++ (node_bytes lower ++ (node_bytes upper ++ rest)))
      → IsRightNode view half first lower → IsRightNode view half (first + 2 ^ half) upper
      → IsTooLarge (bound_of lower) (bound_of upper) → NodeFault view k first bytes CostOverflow
  too_high :
      {k first : ℕ} {bytes : List ℕ} (half : ℕ) (costs : Perm
      → ℕ) (lower upper : BoundTree) (rest : List ℕ) → k ≡ suc half
      → bytes ≡ 1 ∷ (costs_bytes costs ++ (node_bytes lower ++ (node_bytes upper ++ rest)))
      → ((p : Perm) → costs p < 2 ^ 32) → IsRightNode view half first lower
      → IsRightNode view half (first + 2 ^ half) upper → HaveSums (bound_of lower) (bound_of upper)
      → IsTooHigh costs (bound_of lower) (bound_of upper)
      → NodeFault view k first bytes CostTooHigh

-- a right node with these numbers was read from the front of the bytes
pub record IsNodeRead (view : View) (k first : ℕ) (bytes rest : List ℕ) (numbers : SixCosts) :
    Type 0 where
  pub tree : BoundTree
  pub right : IsRightNode view k first tree
  pub spelled : bytes ≡ node_bytes tree ++ rest
  pub numbers_of : AreNumbersOf tree numbers

-- the result of reading the node at the front of the bytes is right for each view that agrees with
-- the known one from its first page on: the node is right, or contains that fault
abbrev pub ReadsNode : View → ℕ → ℕ → Result SixCosts CheckRefusal → List ℕ → List ℕ → Type 0
ReadsNode known k first answer left rest = (view : View) → AgreeFrom first known view
    → MatchResult answer (IsNodeRead view k first left rest) (NodeFault view k first left)
