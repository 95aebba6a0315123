-- A text that is put together item by item.
use Rattle.std.proofs.Common.{◌≡◌, ◌∙◌, sym, ap, ℕ, ◌+◌, ◌<◌, List, ◌∷◌, ◌++◌, append_assoc, drop, get_or, length}
use Rattle.std.proofs.lemmas.List.{drop_more}

-- a text of all items is that of the first, and then that of the later ones
pub next_part :
    {X : Type 0} (all : List X → List ℕ) (one : X → List ℕ) → ((x : X) (xs : List X) → all (x ∷ xs) ≡ one x ++ all xs)
    → (text new whole : List ℕ) (xs : List X) (i : ℕ) (d : X) → i < length xs → text ++ all (drop i xs) ≡ whole
    → new ≡ text ++ one (get_or xs i d) → new ++ all (drop (i + 1) xs) ≡ whole
next_part all one joined text new whole xs i d inside so_far is =
    ap (λ (front : List ℕ). front ++ all (drop (i + 1) xs)) is
    ∙ (append_assoc text (one (get_or xs i d)) (all (drop (i + 1) xs))
    ∙ (ap (λ (rest : List ℕ). text ++ rest) (sym (joined (get_or xs i d) (drop (i + 1) xs)))
    ∙ (ap (λ (rest : List _). text ++ all rest) (sym (drop_more xs i d inside)) ∙ so_far)))

-- three texts after one another
pub three :
    (old a b c one two new : List ℕ) → one ≡ old ++ a → two ≡ one ++ b → new ≡ two ++ c → new ≡ old ++ (a ++ (b ++ c))
three old a b c one two new first second third = third ∙ (ap (λ (t : List ℕ). t ++ c) (second ∙ (ap (λ (t : List ℕ). t ++ b) first ∙ append_assoc old a b))
    ∙ (append_assoc old (a ++ b) c ∙ ap (λ (t : List ℕ). old ++ t) (append_assoc a b c)))
