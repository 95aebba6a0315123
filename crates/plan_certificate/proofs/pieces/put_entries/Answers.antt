use Rattle.std.proofs.Common.{◌≡◌, ◌∙◌, ◌+◌, ◌++◌, ◌<◌, List, [], ◌∷◌, ℕ, get_or, length, take, drop, ap, sym, subst, arith}
use Rattle.std.specs.List.{flat_map}
use Rattle.pmp_encoding.specs.declared.region.Entry.{Entry}
use Rattle.plan_certificate.specs.Pieces.{taken, IsPut, IsCut}
use Rattle.plan_certificate.specs.Written.{entry_bytes}
use Rattle.plan_certificate.proofs.Sent.{put_then, cut_then, cut_more, entries_more, entries_split}
use Rattle.plan_certificate.proofs.pieces.put_entries.Goals as goal

-- the bytes of the entries up to one and those of that one are those up to the next
step : (es : List Entry) (i : ℕ) (piece : List ℕ) → i < length es → ((d : Entry) → piece ≡ entry_bytes (get_or es i d))
    → flat_map entry_bytes (take i es) ++ piece ≡ flat_map entry_bytes (take (i + 1) es)
step [] i piece inside is = absurd (omega arith)
step (e ∷ es) i piece inside is = ap (λ (xs : List ℕ). flat_map entry_bytes (take i (e ∷ es)) ++ xs) (is e) ∙ sym (entries_more (e ∷ es) i e inside)

pub returns-in_default-clause-cut : goal.returns-in_default-clause-cut
returns-in_default-clause-cut g c =
    let es = (g.P.WrittenPlan.planned c.args.plan.now).entries in
    let i = c.loop-i.i in
    let now = taken g.W.Sink.contents g.W.Sink.failures g.W.Sink.stalls in
    let inside : i < length es = omega (arith, c.loop-i-test.true, c.count-i-end.ensures) in
    let more : flat_map entry_bytes (take i es) ++ c.as_slice.result.now ≡ flat_map entry_bytes (take (i + 1) es) =
    step es i c.as_slice.result.now inside (λ d. c.as_slice.ensures ∙ c.pair.ensures d)
    in
    let whole = ap (λ (xs : List ℕ). xs ++ flat_map entry_bytes (drop (i + 1) es)) more ∙ entries_split es (i + 1) in
    subst (λ (b : List ℕ). IsCut c.args.piece.now.items (now c.args.sink.now) (now c.put.new.sink) b) whole
    (cut_more _ _ _ _ (flat_map entry_bytes (drop (i + 1) es)) (cut_then _ _ _ _ _ _ _ c.loop-i.invariant c.in_default.ensures.cut))

pub loop-i-preserved : goal.loop-i-preserved
loop-i-preserved g c =
    let es = (g.P.WrittenPlan.planned c.args.plan.now).entries in
    let i = c.loop-i.i in
    let now = taken g.W.Sink.contents g.W.Sink.failures g.W.Sink.stalls in
    let inside : i < length es = omega (arith, c.loop-i-test.true, c.count-i-end.ensures) in
    let more : flat_map entry_bytes (take i es) ++ c.as_slice.result.now ≡ flat_map entry_bytes (take (i + 1) es) =
    step es i c.as_slice.result.now inside (λ d. c.as_slice.ensures ∙ c.pair.ensures d)
    in
    subst (λ (b : List ℕ). IsPut c.args.piece.now.items c.put.new.piece.items (now c.args.sink.now) (now c.put.new.sink) b) more
    (put_then _ _ _ _ _ _ _ _ c.loop-i.invariant c.in-Ok.ensures.put)
