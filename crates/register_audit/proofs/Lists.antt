-- Registers that hold a list of NA4 and NAPOT entries: what they match, and that none is locked.
use Rattle.std.proofs.Common.{◌≡◌, ℕ, zero, suc, ◌+◌, ◌/◌, ◌%◌, ◌^◌, ◌<◌, ◌≤◌, ◌⊎◌, inl, inr, ⊎_elim, List, [], ◌∷◌, length, cond, refl, ap, subst, ◌∙◌, arith}
use Rattle.std.proofs.lemmas.Bool.{cases_lt}
use Rattle.pmp_encoding.specs.declared.extent.Extent.{Extent}
use Rattle.pmp_encoding.specs.declared.region.Entry.{Entry}
use Rattle.pmp_encoding.specs.Extents.{extent_of}
use Rattle.pmp_encoding.specs.Lists.{MeansList, done, skip, keep}
use Rattle.pmp_encoding.proofs.Faulty.{entry_faultless, off_faultless}
use Rattle.pmp_match.specs.declared.access.Access.{Access}
use Rattle.pmp_match.specs.Decision.{allows}
use Rattle.pmp_match.specs.Matching.{touches, grants, lets_through}
use Rattle.pmp_match.specs.declared.registers.Registers.{Registers}
use Rattle.pmp_match.specs.RegisterMatching.{AreExtentsFrom, nowhere}
use Rattle.pmp_match.specs.Registers.{cfg_at, pairs_from}
use Rattle.pmp_encoding.specs.Widths.{AreReached}
use Rattle.pmp_match.proofs.Instance.{entry_extent, off_extent, off_untouched}
use Rattle.pmp_match.proofs.Spaces.{reached_end, reached_rest}
use Rattle.pmp_match.specs.Smepmp.{user_cfg}
use Rattle.pmp_match.proofs.UserBytes.{user_bits_below, whole_cfg}

-- ---- a pair without a fault

-- L is set
abbrev pub IsLocked : Registers → ℕ → Type 0
IsLocked registers place = cfg_at registers place / 2 ^ 7 % 2 ≡ 1

not_locked : (registers : Registers) (place : ℕ) → user_cfg registers.security (cfg_at registers place) ≡ cfg_at registers place → ¬ IsLocked registers place
not_locked registers place whole locked =
    let below = user_bits_below registers.security (cfg_at registers place) in omega (arith, whole, locked, below)

-- ---- a list

-- extents of so many entries from a place on, which say of each access what the entries of a list say
pub record SaysAs (registers : Registers) (place count : ℕ) (entries : List Entry) : Type 0 where
  pub extents : List Extent
  pub number : length extents ≡ count
  pub each : AreExtentsFrom registers place extents
  pub same : (a : Access) → lets_through extents a ≡ allows entries a

pub says_as : (registers : Registers) (place count : ℕ) (entries : List Entry) → MeansList (pairs_from registers place count) entries
    → AreReached registers.xlen entries → SaysAs registers place count entries
says_as registers place zero _ done near = record { extents = []; number = refl; each = tt; same = λ a. refl }
says_as registers place (suc count) entries (skip o list) near =
    let rest = says_as registers (place + 1) count entries list near in
    record {
      extents = nowhere ∷ rest.extents;
      number = ap suc rest.number;
      each = (off_extent registers place o, rest.each);
      same = λ a. ap (λ t. cond t (grants nowhere a) (lets_through rest.extents a)) (off_untouched a) ∙ rest.same a;
    }
says_as registers place (suc count) _ (keep {e = e} {entries = entries} m list) near =
    let rest = says_as registers (place + 1) count entries list (reached_rest registers.xlen e entries near) in
    record {
      extents = extent_of e ∷ rest.extents;
      number = ap suc rest.number;
      each = (entry_extent registers place e m (reached_end registers.xlen e entries near), rest.each);
      same = λ a. ap (λ t. cond (touches (extent_of e) a) (grants (extent_of e) a) t) (rest.same a);
    }

-- that place or one above it
at_or_above : (first place : ℕ) → first ≤ place → (first ≡ place) ⊎ (first + 1 ≤ place)
at_or_above first place low = ⊎_elim (λ less. inr (omega (arith, less))) (λ over. inl (omega (arith, low, over))) (cases_lt first place)

pub none_locked : (registers : Registers) (first count : ℕ) (entries : List Entry) → MeansList (pairs_from registers first count) entries → (place : ℕ)
    → first ≤ place → place < first + count → ¬ IsLocked registers place
none_locked registers first zero _ done place low high = absurd (omega (arith, low, high))
none_locked registers first (suc count) entries (skip o list) place low high =
    ⊎_elim (λ same. subst (λ p. ¬ IsLocked registers p) same (not_locked registers first (whole_cfg registers.security _ _ (off_faultless _ _ o))))
    (λ above. none_locked registers (first + 1) count entries list place above (omega (arith, high))) (at_or_above first place low)
none_locked registers first (suc count) _ (keep {e = e} {entries = entries} m list) place low high =
    ⊎_elim (λ same. subst (λ p. ¬ IsLocked registers p) same (not_locked registers first (whole_cfg registers.security _ _ (entry_faultless _ _ e m))))
    (λ above. none_locked registers (first + 1) count entries list place above (omega (arith, high))) (at_or_above first place low)
