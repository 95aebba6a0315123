-- Comparison of extents with a view.
use Rattle.std.specs.Prelude.{◌≡◌, ◌≢◌, ℕ, ◌/◌, ◌%◌, ◌^◌, ◌<◌, ◌≤◌, true, refl, All, List, ◌∷◌}
use Rattle.std.specs.Prelude.{◌++◌, Some, slice_get, take}
use Rattle.pmp_encoding.specs.declared.extent.Extent.{Extent}
use Rattle.pmp_encoding.specs.Views.{View}
use Rattle.pmp_match.specs.declared.access.Access.{Access}
use Rattle.pmp_match.specs.declared.access.Mode.TheVariants.{User}
use Rattle.pmp_match.specs.declared.access.Kind.TheVariants.{Load}
use Rattle.pmp_match.specs.RegisterBytes.{IsGiven, perm_at}
use Rattle.pmp_match.specs.RegisterDecision.{ContainsAll, ExtentsMean, Meets, NoneMeets}
use Rattle.map_table.specs.declared.stretch.Stretch.{Stretch}
use Rattle.map_table.specs.Stretches.{IsStretch}
use Rattle.register_audit.specs.declared.finding.Finding.{Finding}
use Rattle.register_audit.specs.declared.finding.Finding.TheVariants as findings
use Rattle.pmp_match.specs.Kinds.{holds}

-- the extents give the bytes of the stretch the permission of the view
abbrev pub agrees : Stretch → Type 0
agrees s = s.wanted ≡ s.given

-- the first stretch of a list that does not agree
pub record IsFirstOdd (all : List Stretch) (s : Stretch) : Type 0 where
  pub before : List Stretch
  pub behind : List Stretch
  pub split : all ≡ before ++ s ∷ behind
  pub agree : All agrees before
  pub odd : s.wanted ≢ s.given

-- a user's load of the eight bytes from an address on
abbrev pub load_of_eight : ℕ → Access
load_of_eight at = record { mode = User; kind = Load; size = 8; address = at; sized = refl }

-- entry i of a list is the first that contains some of the eight bytes from an address on
pub record IsFirstOf (extents : List Extent) (i at : ℕ) (x : Extent) : Type 0 where
  pub number : slice_get extents i ≡ Some x
  pub missed : NoneMeets (take i extents) (load_of_eight at)
  pub met : Meets x (load_of_eight at)

-- eight aligned bytes that the view makes readable, of which entry i is the first that contains
-- some, but it does not contain all
pub record IsCut (view : View) (extents : List Extent) (i at : ℕ) : Type 0 where
  pub aligned : at % 8 ≡ 0
  pub inside : at < 2 ^ 56
  pub may : holds (view (at / 4096)) Load ≡ true
  pub extent : Extent
  pub first : IsFirstOf extents i at extent
  pub partly : ¬ ContainsAll extent (load_of_eight at)

-- entry i cuts no eight bytes
abbrev pub IsUncut : View → List Extent → ℕ → Type 0
IsUncut view extents i = (at : ℕ) → ¬ IsCut view extents i at

-- the lowest eight bytes that entry i cuts
pub record IsLowestCut (view : View) (extents : List Extent) (i at : ℕ) : Type 0 where
  pub cut : IsCut view extents i at
  pub lowest : (other : ℕ) → IsCut view extents i other → at ≤ other

-- the lowest eight bytes that are cut by the first entry that cuts any
pub record IsFirstCut (view : View) (extents : List Extent) (i at : ℕ) : Type 0 where
  pub cut : IsLowestCut view extents i at
  pub before : (j : ℕ) → j < i → IsUncut view extents j

-- the extents give each byte of the space the view's permission, but entry i is the first that cuts
-- eight bytes
pub record CutsAlone (view : View) (extents : List Extent) (i at : ℕ) : Type 0 where
  pub same : IsGiven extents view
  pub first : IsFirstCut view extents i at

-- the first stretch on which the extents give another permission than the view
pub record IsFirstDifference (view : View) (extents : List Extent) (s : Stretch) : Type 0 where
  pub stretch : IsStretch view extents s
  pub differs : s.wanted ≢ s.given
  pub same_below : (byte : ℕ) → byte < s.first → perm_at extents byte ≡ view (byte / 4096)

-- the meaning of each finding
abbrev pub IsFinding : View → List Extent → Finding → Type 0
IsFinding view extents findings.Means = ExtentsMean extents view
IsFinding view extents (findings.Differs s) = IsFirstDifference view extents s
IsFinding view extents (findings.Cuts entry at) = CutsAlone view extents entry at
