-- Lists that are compared item by item.
use Rattle.std.proofs.Common.{◌≡◌, ◌∙◌, sym, ap₂, ℕ, ◌+◌, ◌<◌, List, ◌∷◌, length, drop, get_or}
use Rattle.std.proofs.lemmas.List.{drop_more}

-- where all is the same once the later items are, so it is once the later ones but one are
pub same_next :
    {X : Type 0} (xs ys : List X) (i : ℕ) (d e : X) → i < length xs → i < length ys → (drop i xs ≡ drop i ys → xs ≡ ys)
    → get_or xs i d ≡ get_or ys i e → drop (i + 1) xs ≡ drop (i + 1) ys → xs ≡ ys
same_next xs ys i d e inside within same item later = same (drop_more xs i d inside ∙ (ap₂ (λ x rest. x ∷ rest) item later ∙ sym (drop_more ys i e within)))
