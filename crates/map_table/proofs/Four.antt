-- Four texts one after another: all were written, or a beginning, where one of them breaks off.
use Rattle.std.proofs.Common.{ℕ, List, ◌++◌, Option}
use Rattle.text_lines.specs.Writings.{Breaks, TakesAll, writing}
use Rattle.text_lines.proofs.Writings.{breaks_after, breaks_before, takes_then}

pub all_four :
    {W : Type 0} (contents : W → Option (List ℕ)) (failures stalls : W → ℕ) (a b c d : List ℕ) {s t u v w : W}
    → TakesAll a (writing contents failures stalls s t) → TakesAll b (writing contents failures stalls t u)
    → TakesAll c (writing contents failures stalls u v) → TakesAll d (writing contents failures stalls v w)
    → TakesAll (a ++ (b ++ (c ++ d))) (writing contents failures stalls s w)
all_four contents failures stalls a b c d {s = s} {t = t} {u = u} {v = v} {w = w} p q r z =
    takes_then contents failures stalls {old = s} {mid = t} {new = w} p
    (takes_then contents failures stalls {old = t} {mid = u} {new = w} q (takes_then contents failures stalls {old = u} {mid = v} {new = w} r z))

pub in_first :
    {W : Type 0} (contents : W → Option (List ℕ)) (failures stalls : W → ℕ) (a b c d : List ℕ) {s t : W} → Breaks a (writing contents failures stalls s t)
    → Breaks (a ++ (b ++ (c ++ d))) (writing contents failures stalls s t)
in_first contents failures stalls a b c d {s = s} {t = t} p = breaks_before contents failures stalls {old = s} {new = t} (b ++ (c ++ d)) p

pub in_second :
    {W : Type 0} (contents : W → Option (List ℕ)) (failures stalls : W → ℕ) (a b c d : List ℕ) {s t u : W} → TakesAll a (writing contents failures stalls s t)
    → Breaks b (writing contents failures stalls t u) → Breaks (a ++ (b ++ (c ++ d))) (writing contents failures stalls s u)
in_second contents failures stalls a b c d {s = s} {t = t} {u = u} p q =
    breaks_after contents failures stalls {old = s} {mid = t} {new = u} p (breaks_before contents failures stalls {old = t} {new = u} (c ++ d) q)

pub in_third :
    {W : Type 0} (contents : W → Option (List ℕ)) (failures stalls : W → ℕ) (a b c d : List ℕ) {s t u v : W} → TakesAll a (writing contents failures stalls s t)
    → TakesAll b (writing contents failures stalls t u) → Breaks c (writing contents failures stalls u v)
    → Breaks (a ++ (b ++ (c ++ d))) (writing contents failures stalls s v)
in_third contents failures stalls a b c d {s = s} {t = t} {u = u} {v = v} p q r =
    breaks_after contents failures stalls {old = s} {mid = t} {new = v} p
    (breaks_after contents failures stalls {old = t} {mid = u} {new = v} q (breaks_before contents failures stalls {old = u} {new = v} d r))

pub in_fourth :
    {W : Type 0} (contents : W → Option (List ℕ)) (failures stalls : W → ℕ) (a b c d : List ℕ) {s t u v w : W}
    → TakesAll a (writing contents failures stalls s t)
    → TakesAll b (writing contents failures stalls t u) → TakesAll c (writing contents failures stalls u v) → Breaks d (writing contents failures stalls v w)
    → Breaks (a ++ (b ++ (c ++ d))) (writing contents failures stalls s w)
in_fourth contents failures stalls a b c d {s = s} {t = t} {u = u} {v = v} {w = w} p q r z =
    breaks_after contents failures stalls {old = s} {mid = t} {new = w} p
    (breaks_after contents failures stalls {old = t} {mid = u} {new = w} q (breaks_after contents failures stalls {old = u} {mid = v} {new = w} r z))
