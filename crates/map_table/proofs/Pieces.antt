-- Pieces that are appended one after another.
use Rattle.std.proofs.Common.{ℕ, ◌≡◌, ◌∙◌, ◌+◌, ◌<◌, List, ◌∷◌, ◌++◌, ap, append_assoc, arith, codes, drop, length, min, slice_index_or, sym, take}
use Rattle.std.proofs.lemmas.Grind.{common_steps}
use Rattle.pmp_encoding.specs.declared.extent.Extent.{Extent}
use Rattle.map_table.specs.declared.stretch.Stretch.{Stretch}
use Rattle.map_table.specs.JsonTables.{json_more, json_row, json_rows}

pub two : (t0 t1 t2 a b : List ℕ) → t1 ≡ t0 ++ a → t2 ≡ t1 ++ b → t2 ≡ t0 ++ (a ++ b)
two t0 t1 t2 a b h k = k ∙ ap (λ x. x ++ b) h ∙ append_assoc t0 a b

pub three : (t0 t1 t2 t3 a b d : List ℕ) → t1 ≡ t0 ++ a → t2 ≡ t1 ++ b → t3 ≡ t2 ++ d → t3 ≡ t0 ++ (a ++ (b ++ d))
three t0 t1 t2 t3 a b d h k l = two t0 t1 t3 a (b ++ d) h (two t1 t2 t3 b d k l)

pub four : (t0 t1 t2 t3 t4 a b d e : List ℕ) → t1 ≡ t0 ++ a → t2 ≡ t1 ++ b → t3 ≡ t2 ++ d → t4 ≡ t3 ++ e → t4 ≡ t0 ++ (a ++ (b ++ (d ++ e)))
four t0 t1 t2 t3 t4 a b d e h k l m = two t0 t1 t4 a (b ++ (d ++ e)) h (three t1 t2 t3 t4 b d e k l m)

pub five :
    (t0 t1 t2 t3 t4 t5 a b d e f : List ℕ) → t1 ≡ t0 ++ a → t2 ≡ t1 ++ b → t3 ≡ t2 ++ d → t4 ≡ t3 ++ e → t5 ≡ t4 ++ f
    → t5 ≡ t0 ++ (a ++ (b ++ (d ++ (e ++ f))))
five t0 t1 t2 t3 t4 t5 a b d e f h k l m n = two t0 t1 t5 a (b ++ (d ++ (e ++ f))) h (four t1 t2 t3 t4 t5 b d e f k l m n)

next_one : {A : Type 0} (all : List A) (i : ℕ) (d : A) → i < length all → drop i all ≡ slice_index_or all i d ∷ drop (i + 1) all
next_one all i d h = grind (arith, common_steps)

-- a row more, behind a comma
pub next_more :
    (extents : List Extent) (all : List Stretch) (i : ℕ) (d : Stretch) (t0 t1 t2 whole : List ℕ) → i < length all → t1 ≡ t0 ++ codes ",\n"
    → t2 ≡ t1 ++ json_row extents (slice_index_or all i d) → t0 ++ json_more extents (drop i all) ≡ whole → t2 ++ json_more extents (drop (i + 1) all) ≡ whole
next_more extents all i d t0 t1 t2 whole inside h k before =
    let row = json_row extents (slice_index_or all i d) in
    let rest = json_more extents (drop (i + 1) all) in
    ap (λ x. x ++ rest) (two t0 t1 t2 (codes ",\n") row h k)
    ∙ append_assoc t0 (codes ",\n" ++ row) rest
    ∙ ap (λ x. t0 ++ x) (append_assoc (codes ",\n") row rest)
    ∙ ap (λ xs. t0 ++ json_more extents xs) (sym (next_one all i d inside))
    ∙ before

-- the first row, and those after it
pub first_rows :
    (extents : List Extent) (all rest : List Stretch) (s : Stretch) (t0 t1 t2 t3 : List ℕ) → t1 ≡ t0 ++ codes "\n" → t2 ≡ t1 ++ json_row extents s
    → t3 ≡ t2 ++ json_more extents rest
    → all ≡ s ∷ rest → t3 ≡ t0 ++ json_rows extents all
first_rows extents all rest s t0 t1 t2 t3 h k l e =
    three t0 t1 t2 t3 (codes "\n") (json_row extents s) (json_more extents rest) h k l ∙ ap (λ xs. t0 ++ json_rows extents xs) (sym e)

-- at most so many of a list
pub take_min : (xs : List Stretch) (n m : ℕ) → m ≡ min (length xs) n → take m xs ≡ take n xs
take_min xs n m e = grind (arith, common_steps, e)
