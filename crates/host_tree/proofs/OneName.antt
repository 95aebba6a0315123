-- A name among others.
use Rattle.std.proofs.Common.{◌≡◌, ℕ, ◌+◌, ◌≤◌, true, false, List, [], drop, length, length-drop, length-take-le, sym, ap, subst, ◌∙◌, arith}
use Rattle.std.proofs.lemmas.List.{drop-drop, drop_all}
use Rattle.std.proofs.lemmas.Bool.{eqb-true, eq-eqb}
use Rattle.std.proofs.lemmas.Slice.Eq.{slice_eq-Decides}
use Rattle.std.proofs.Math.Dec.{eqb}
use Rattle.std.specs.Cmp.Lexicographic.{pointwise}
use Rattle.device_tree.specs.Words.{BeginsWithText, text_len}
use Rattle.host_tree.specs.Names.{HasName, first, later}

opposed : false ≡ true → ⊥
opposed e = absurd cc

-- texts that compare unequal
pub other_text : (text name : List ℕ) → false ≡ pointwise eqb text name → text ≡ name → ⊥
other_text text name e same = opposed ((slice_eq-Decides (λ a b. (eqb-true a b, eq-eqb a b)) text name false e).1 same)

-- no name where no text is
pub none_there : (names name : List ℕ) → ((text : List ℕ) → BeginsWithText names text → ⊥) → HasName names name → ⊥
none_there names name none (first h) = none name h
none_there names name none (later other h rest) = none other h

-- a name is behind another text
pub one_later : (names name text : List ℕ) → BeginsWithText names text → (text ≡ name → ⊥) → HasName names name
    → HasName (drop (length text + 1) names) name
one_later names name text begins differ (first h) = absurd (differ (begins.spelt ∙ sym h.spelt))
one_later names name text begins differ (later other h rest) =
    subst (λ (t : List ℕ). HasName (drop (length t + 1) names) name) (h.spelt ∙ sym begins.spelt) rest

pub next_name : (names name text : List ℕ) (at : ℕ) → BeginsWithText (drop at names) text → (text ≡ name → ⊥) → HasName (drop at names) name
    → HasName (drop (at + (length text + 1)) names) name
next_name names name text at begins differ h =
    subst (λ (x : List ℕ). HasName x name) (drop-drop (length text + 1) at names) (one_later (drop at names) name text begins differ h)

none_in_none : (text : List ℕ) → BeginsWithText [] text → ⊥
none_in_none text h = absurd (omega (arith, h.ended))

pub none_behind : (names name : List ℕ) (at : ℕ) → length names ≤ at → HasName (drop at names) name → ⊥
none_behind names name at behind h = none_there [] name none_in_none (subst (λ (x : List ℕ). HasName x name) (drop_all at names behind) h)

pub name_inside : (names text : List ℕ) (at : ℕ) → BeginsWithText (drop at names) text → at + (length text + 1) ≤ length names
name_inside names text at h =
    let ended = h.ended in
    let cut = length-take-le (text_len (drop at names)) (drop at names) (omega (arith, ended)) in
    omega (arith, ended, ap length h.spelt, cut, length-drop at names)
