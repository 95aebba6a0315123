-- Three texts one after another: all were written, or a beginning, where one of them breaks off.
use Rattle.std.proofs.Common.{ℕ, List, ◌++◌, Option}
use Rattle.text_lines.specs.Writings.{Breaks, TakesAll, writing}
use Rattle.text_lines.proofs.Writings.{breaks_after, breaks_before, takes_then}

pub all_three :
    {W : Type 0} (contents : W → Option (List ℕ)) (failures stalls : W → ℕ) (a b c : List ℕ) {s t u v : W}
    → TakesAll a (writing contents failures stalls s t) → TakesAll b (writing contents failures stalls t u)
    → TakesAll c (writing contents failures stalls u v)
    → TakesAll (a ++ (b ++ c)) (writing contents failures stalls s v)
all_three contents failures stalls a b c {s = s} {t = t} {u = u} {v = v} p q r =
    takes_then contents failures stalls {old = s} {mid = t} {new = v} p
    (takes_then contents failures stalls {old = t} {mid = u} {new = v} q r)

pub in_first_of_three :
    {W : Type 0} (contents : W → Option (List ℕ)) (failures stalls : W → ℕ) (a b c : List ℕ) {s t : W} → Breaks a (writing contents failures stalls s t)
    → Breaks (a ++ (b ++ c)) (writing contents failures stalls s t)
in_first_of_three contents failures stalls a b c {s = s} {t = t} p = breaks_before contents failures stalls {old = s} {new = t} (b ++ c) p

pub in_second_of_three :
    {W : Type 0} (contents : W → Option (List ℕ)) (failures stalls : W → ℕ) (a b c : List ℕ) {s t u : W} → TakesAll a (writing contents failures stalls s t)
    → Breaks b (writing contents failures stalls t u) → Breaks (a ++ (b ++ c)) (writing contents failures stalls s u)
in_second_of_three contents failures stalls a b c {s = s} {t = t} {u = u} p q =
    breaks_after contents failures stalls {old = s} {mid = t} {new = u} p (breaks_before contents failures stalls {old = t} {new = u} c q)

pub in_third_of_three :
    {W : Type 0} (contents : W → Option (List ℕ)) (failures stalls : W → ℕ) (a b c : List ℕ) {s t u v : W} → TakesAll a (writing contents failures stalls s t)
    → TakesAll b (writing contents failures stalls t u) → Breaks c (writing contents failures stalls u v)
    → Breaks (a ++ (b ++ c)) (writing contents failures stalls s v)
in_third_of_three contents failures stalls a b c {s = s} {t = t} {u = u} {v = v} p q r =
    breaks_after contents failures stalls {old = s} {mid = t} {new = v} p
    (breaks_after contents failures stalls {old = t} {mid = u} {new = v} q r)
