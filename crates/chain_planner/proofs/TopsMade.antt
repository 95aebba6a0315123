-- The TOR entries of a chain, one change after another.
use Rattle.std.proofs.Common.{◌≡◌, ℕ, ◌+◌, ◌*◌, ◌<◌, List, [], ◌∷◌, ◌++◌, drop, drop-cons, add-one, get_or, length, sym, ap, subst, ◌∙◌, arith}
use Rattle.std.proofs.lemmas.List.{append_assoc}
use Rattle.pmp_encoding.specs.declared.perm.Perm.{Perm}
use Rattle.chain_planner.specs.declared.tops.Top.{Top}
use Rattle.chain_planner.specs.declared.turns.Turn.{Turn}
use Rattle.chain_planner.specs.Turns.{TurnsWithin, tops_from}
use Rattle.chain_planner.proofs.TurnLists.{wider}

pub next_turn : (turns : List Turn) (i : ℕ) (d : Turn) → i < length turns → drop i turns ≡ get_or turns i d ∷ drop (i + 1) turns
next_turn turns i d inside = rw add-one (drop-cons turns i d inside)

pub next_top :
    (turns : List Turn) (i : ℕ) (d : Turn) (p : Perm) (tops new whole : List Top) → i < length turns → tops ++ tops_from p (drop i turns) ≡ whole
    → new ≡ tops ++ record { address = (get_or turns i d).page * 1024; perm = p } ∷ []
    → new ++ tops_from (get_or turns i d).perm (drop (i + 1) turns) ≡ whole
next_top turns i d p tops new whole inside made is =
    ap (λ ts. ts ++ tops_from (get_or turns i d).perm (drop (i + 1) turns)) is
    ∙ append_assoc tops (record { address = (get_or turns i d).page * 1024; perm = p } ∷ []) (tops_from (get_or turns i d).perm (drop (i + 1) turns))
    ∙ ap (λ ts. tops ++ tops_from p ts) (sym (next_turn turns i d inside))
    ∙ made

pub next_within : (turns : List Turn) (i end : ℕ) (d : Turn) → i < length turns → TurnsWithin 0 end (drop i turns) → TurnsWithin 0 end (drop (i + 1) turns)
next_within turns i end d inside within =
    let here : TurnsWithin 0 end (get_or turns i d ∷ drop (i + 1) turns) = subst (λ ts. TurnsWithin 0 end ts) (next_turn turns i d inside) within in
    wider (get_or turns i d).page end 0 end (drop (i + 1) turns) here.2 (omega arith) (omega arith)
