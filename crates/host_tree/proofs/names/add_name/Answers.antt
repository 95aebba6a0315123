use Rattle.std.proofs.Common.{◌≡◌, ℕ, List, [], ◌∷◌, ◌++◌, append_assoc, drop, length, subst, sym, ap, ◌∙◌, arith}
use Rattle.device_tree.specs.Words.{BeginsWithText}
use Rattle.host_tree.proofs.Texts.{name_added}
use Rattle.host_tree.proofs.Sizes.{grown}
use Rattle.host_tree.proofs.names.add_name.Goals as goal

two : (a b n d : List ℕ) → b ≡ a ++ n → d ≡ b ++ 0 ∷ [] → d ≡ (a ++ n) ++ 0 ∷ []
two a b n d p q = q ∙ ap (λ (x : List ℕ). x ++ 0 ∷ []) p

at_end : (place : ℕ) (names name all : List ℕ) → place ≡ length names → all ≡ (names ++ name) ++ 0 ∷ [] → BeginsWithText (drop (length names) ((names ++
    name) ++ 0 ∷ [])) name
    → BeginsWithText (drop place all) name
at_end place names name all e w h = subst (λ (x : List ℕ). BeginsWithText (drop place x) name) (sym w)
    (subst (λ (n : ℕ). BeginsWithText (drop n ((names ++ name) ++ 0 ∷ [])) name) (sym e) h)

pub returns-clause-put : goal.returns-clause-put
returns-clause-put c =
    let names = c.args.names.now.items in
    let name = c.args.name.now in
    let first = c.in_ok-put_bytes.ensures.put in
    let last : c.put_bytes-2.new.out.items ≡ c.put_bytes.new.out.items ++ 0 ∷ [] = c.in_ok-put_bytes-2.ensures.put ∙ ap (λ (x : List ℕ).
    c.put_bytes.new.out.items ++ x) c.as_slice.ensures in
    let whole = two names _ name _ first last in (
      at_end _ names name c.put_bytes-2.new.out.items (ap length c.as_slice-place.ensures.value) whole (name_added names name c.requires),
      name ++ 0 ∷ [],
      whole ∙ append_assoc names name (0 ∷ []),
    )

pub returns-clause-size : goal.returns-clause-size
returns-clause-size c =
    let last : c.put_bytes-2.new.out.items ≡ c.put_bytes.new.out.items ++ 0 ∷ [] = c.in_ok-put_bytes-2.ensures.put ∙ ap (λ (x : List ℕ).
    c.put_bytes.new.out.items ++ x) c.as_slice.ensures in
    let first = grown c.args.names.now.items c.put_bytes.new.out.items c.args.name.now c.in_ok-put_bytes.ensures.put in
    let both = grown c.put_bytes.new.out.items c.put_bytes-2.new.out.items (0 ∷ []) last in
    omega (arith, first, both)

pub returns-clause-inside : goal.returns-clause-inside
returns-clause-inside c = omega (arith, ap length c.as_slice-place.ensures.value)
