-- A machine after six events, one after the other.
use Rattle.std.proofs.Common.{◌≡◌, ℕ, List, [], ◌∷◌, ◌++◌, refl, ap, subst}
use Rattle.platforms.specs.Platform.{PlatformLayout}
use Rattle.hart_trace.specs.declared.event.Event.{Event}
use Rattle.hart_sim.specs.declared.machine.Machine.{Machine}
use Rattle.hart_trace.specs.declared.reply.Reply.{Reply}
use Rattle.hart_sim.specs.After.{After}

-- six more at the end of a list
abbrev In : {X : Type 0} → List X → X → X → X → X → X → X → List X
In xs a b c d e f = (((((xs ++ a ∷ []) ++ b ∷ []) ++ c ∷ []) ++ d ∷ []) ++ e ∷ []) ++ f ∷ []

six : {X : Type 0} (xs : List X) (a b c d e f : X) → In xs a b c d e f ≡ xs ++ a ∷ (b ∷ (c ∷ (d ∷ (e ∷ (f ∷ [])))))
six [] a b c d e f = refl
six (x ∷ xs) a b c d e f = ap (λ ys. x ∷ ys) (six xs a b c d e f)

pub after_six : (platform : PlatformLayout) (events : List (ℕ × Event)) (replies : List Reply) (m : Machine) (a b c d e f : ℕ × Event) (r s t u v w : Reply)
    → After platform ((((((events ++ a ∷ []) ++ b ∷ []) ++ c ∷ []) ++ d ∷ []) ++ e ∷ []) ++ f ∷ [])
    ((((((replies ++ r ∷ []) ++ s ∷ []) ++ t ∷ []) ++ u ∷ []) ++ v ∷ []) ++ w ∷ []) m
    → After platform (events ++ a ∷ (b ∷ (c ∷ (d ∷ (e ∷ (f ∷ [])))))) (replies ++ r ∷ (s ∷ (t ∷ (u ∷ (v ∷ (w ∷ [])))))) m
after_six platform events replies m a b c d e f r s t u v w after =
    subst (λ rs. After platform (events ++ a ∷ (b ∷ (c ∷ (d ∷ (e ∷ (f ∷ [])))))) rs m) (six replies r s t u v w)
    (subst (λ es. After platform es (In replies r s t u v w) m) (six events a b c d e f) after)
