-- The second of an argument's values, by what `clap` gives of them.
use Rattle.std.proofs.Common.{◌≡◌, ◌∙◌, List, [], ◌∷◌, Option, Some, None, ap, map, option_map, refl, sym}
use Rattle.std.specs.Prelude.{option_and_then, slice_get}
use Rattle.std.specs.Borrow.{Bor}
use Rattle.std.specs.Slice.{IsItemAt}
use Rattle.std.proofs.lemmas.Option.{slice_get_past, slice_get_read}
use Rattle.clap.specs.Words.{Text}

-- what is lent of the second of some texts
pub of_item : (texts : List (Bor Text)) (lent : Option (Bor (Bor Text))) → IsItemAt texts 1 lent → option_map (λ x. x.now) lent ≡ slice_get texts 1
of_item texts None is = sym (slice_get_past texts 1 is.3)
of_item texts (Some x) is = sym (slice_get_read texts _ 1 x.now refl is.3.0 is.1)

at_second : (texts : List (Bor Text)) → option_map (λ s. s.now) (slice_get texts 1) ≡ slice_get (map (λ s. s.now) texts) 1
at_second [] = refl
at_second (a ∷ []) = refl
at_second (a ∷ b ∷ texts) = refl

-- of all values that there are, by the texts that were given for them
pub of_texts :
    (texts : List (Bor Text)) (all : Option (List Text)) → Some (map (λ s. s.now) texts) ≡ all
    → option_map (λ s. s.now) (slice_get texts 1) ≡ option_and_then (λ values. slice_get values 1) all
of_texts texts all e = at_second texts ∙ ap (λ it. option_and_then (λ values. slice_get values 1) it) e

pub of_none : (all : Option (List Text)) → None ≡ all → None ≡ option_and_then (λ values. slice_get values 1) all
of_none all e = ap (λ it. option_and_then (λ values. slice_get values 1) it) e
