-- Five lists one behind another.
use Rattle.std.proofs.Common.{◌≡◌, ℕ, List, [], ◌∷◌, ◌++◌, append_assoc, append-nil, sym, ap, ◌∙◌}
use Rattle.host_tree.proofs.Fronts.{four_joined, two_joined}
use Rattle.host_tree.specs.Written.{word_bytes, words_bytes}

pub five_joined : (a b d e f g : List ℕ) (v w x y z : ℕ) → b ≡ a ++ word_bytes v → d ≡ b ++ word_bytes w → e ≡ d ++ word_bytes x → f ≡ e ++ word_bytes y
    → g ≡ f ++ word_bytes z → g ≡ a ++ words_bytes (v ∷ w ∷ x ∷ y ∷ z ∷ [])
five_joined a b d e f g v w x y z o p q r s =
    let last : g ≡ f ++ words_bytes (z ∷ []) = s ∙ ap (λ (t : List ℕ). f ++ t) (sym (append-nil (word_bytes z))) in
    let four = four_joined a b d e f (word_bytes v) (word_bytes w) (word_bytes x) (word_bytes y) o p q r in
    two_joined a f g (word_bytes v ++ (word_bytes w ++ (word_bytes x ++ word_bytes y))) (words_bytes (z ∷ [])) four last
    ∙ ap (λ (t : List ℕ). a ++ t) (simp append_assoc)
