-- Words say at most one access.
use Rattle.std.proofs.Common.{◌≡◌, ◌∙◌, ℕ, true, refl, sym, arith}
use Rattle.std.proofs.Props.{props}
use mathlib.Core.HLevel.{is_prop→PathP}
use Rattle.pmp_match.specs.declared.access.Access.{Access}
use Rattle.pmp_match.specs.declared.access.Kind.{Kind}
use Rattle.pmp_match.specs.declared.access.Kind.TheVariants.{Fetch, Load, Store}
use Rattle.pmp_match.specs.declared.access.Mode.{Mode}
use Rattle.pmp_match.specs.declared.access.Mode.TheVariants.{Machine, Supervisor, User}
use Rattle.pmp_match.specs.Kinds.{has_size}
use Rattle.planner_for_c.specs.declared.access.AccessWords.{AccessWords}
use Rattle.planner_for_c.specs.Accesses.{Says, kind_number, mode_number}

pub same_mode : (m n : Mode) → mode_number m ≡ mode_number n → m ≡ n
same_mode User User h = refl
same_mode User Supervisor h = absurd (omega (arith, h))
same_mode User Machine h = absurd (omega (arith, h))
same_mode Supervisor User h = absurd (omega (arith, h))
same_mode Supervisor Supervisor h = refl
same_mode Supervisor Machine h = absurd (omega (arith, h))
same_mode Machine User h = absurd (omega (arith, h))
same_mode Machine Supervisor h = absurd (omega (arith, h))
same_mode Machine Machine h = refl

pub same_kind : (k l : Kind) → kind_number k ≡ kind_number l → k ≡ l
same_kind Load Load h = refl
same_kind Load Store h = absurd (omega (arith, h))
same_kind Load Fetch h = absurd (omega (arith, h))
same_kind Store Load h = absurd (omega (arith, h))
same_kind Store Store h = refl
same_kind Store Fetch h = absurd (omega (arith, h))
same_kind Fetch Load h = absurd (omega (arith, h))
same_kind Fetch Store h = absurd (omega (arith, h))
same_kind Fetch Fetch h = refl

sized-prop : (kind : Kind) (size : ℕ) → IsProp (has_size kind size ≡ true)
sized-prop kind size = hlevel props

same_access : (a b : Access) → a.mode ≡ b.mode → a.kind ≡ b.kind → a.size ≡ b.size → a.address ≡ b.address → a ≡ b
same_access a b m k s p = λ i. record {
  mode = m i;
  kind = k i;
  size = s i;
  address = p i;
  sized = is_prop→PathP (λ j. has_size (k j) (s j) ≡ true) (λ j. sized-prop (k j) (s j)) a.sized b.sized i;
}

pub one_access : (words : AccessWords) (a b : Access) → Says words a → Says words b → a ≡ b
one_access words a b x y =
    same_access a b (same_mode a.mode b.mode (x.mode ∙ sym y.mode)) (same_kind a.kind b.kind (x.kind ∙ sym y.kind)) (x.size ∙ sym y.size)
    (x.address ∙ sym y.address)
