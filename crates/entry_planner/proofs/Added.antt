-- Entries that are added one after another, where the order of what is there is not kept.
use Rattle.std.proofs.Common.{List, ◌++◌, IsPermutation, subst, append_assoc}
use Rattle.std.proofs.lemmas.List.Sorted.{IsPermutation-append_left, IsPermutation-append_comm, IsPermutation-trans}
use Rattle.pmp_encoding.specs.declared.region.Entry.{Entry}

pub both_added : (a b c x y : List Entry) → IsPermutation (a ++ x) b → IsPermutation (b ++ y) c → IsPermutation (a ++ (x ++ y)) c
both_added a b c x y p q =
    let P : List Entry → Type 0 = λ l. IsPermutation l c in
    subst P (append_assoc a x y) (IsPermutation-trans ((a ++ x) ++ y) (b ++ y) c (IsPermutation-append_left y (a ++ x) b p) q)

-- what comes first comes behind the next
pub exchanged : (a b c : List Entry) → IsPermutation (a ++ (b ++ c)) (b ++ (a ++ c))
exchanged a b c =
    let P : List Entry → Type 0 = λ l. IsPermutation l (b ++ (a ++ c)) in
    let Q : List Entry → Type 0 = λ l. IsPermutation ((a ++ b) ++ c) l in
    subst P (append_assoc a b c) (subst Q (append_assoc b a c) (IsPermutation-append_left c (a ++ b) (b ++ a) (IsPermutation-append_comm a b)))
