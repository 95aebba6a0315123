-- A span that begins before the last one ended begins a chain.
use Rattle.std.proofs.Common.{◌≡◌, ℕ, ◌≤◌, List, [], ◌∷◌, ◌++◌, arith, sym, subst, ap, ◌∙◌}
use Rattle.certificate_check.specs.Spans.{RiseTo, AreChains, IsChain, count_in}
use Rattle.certificate_check.proofs.Chained.{rise_append, chains_append, chain_grown, ends_grown, chain_begun, ends_begun}
use Rattle.certificate_check.proofs.chains.chains_of.Goals as goal
use Rattle.certificate_check.proofs.chains.chains_of.Goals.{then-bounds-last+in-Ok, else-bounds-last}

pub loop-i-preserved : goal.loop-i-preserved
loop-i-preserved c =
    let from : ℕ = c.loop-i.invariant.0 in
    let low : from ≤ c.loop-i.i = c.loop-i.invariant.1 in
    let rise = c.loop-i.invariant.2 in
    let chains = c.loop-i.invariant.3 in
    elim c.if-bounds-last.branch [
      | then-bounds-last+in-Ok w ↦
          let items : c.if-bounds-last.ends.items ≡ c.loop-i.ends.items ++ c.loop-i.i ∷ [] = ap (λ v. v.items) w.ends-is ∙ w.in-Ok.ensures.ok in (
            c.loop-i.i,
            omega arith,
            subst (λ (xs : List ℕ). RiseTo 0 xs c.loop-i.i) (sym items) (rise_append 0 c.loop-i.ends.items from c.loop-i.i rise low),
            λ spans reads.
                let known = chains spans reads in (
                  subst (λ (xs : List ℕ). AreChains spans 0 xs c.loop-i.i) (sym items)
                      (chains_append spans 0 c.loop-i.ends.items from c.loop-i.i known.0 known.1),
                  chain_begun spans c.loop-i.i,
                  ends_begun spans c.loop-i.i c.bounds-bounds.result.end (c.bounds-bounds.ensures.end (spans c.loop-i.i) (reads c.loop-i.i (omega arith))),
                ),
          )
      | else-bounds-last w ↦
          let items : c.if-bounds-last.ends.items ≡ c.loop-i.ends.items = ap (λ v. v.items) w.ends-is in (
            from,
            omega arith,
            subst (λ (xs : List ℕ). RiseTo 0 xs from) (sym items) rise,
            λ spans reads.
                let known = chains spans reads in
                let after : c.loop-i.last ≤ c.bounds-bounds.result.first = omega arith in (
                  subst (λ (xs : List ℕ). AreChains spans 0 xs from) (sym items) known.0,
                  chain_grown spans from c.loop-i.i c.loop-i.last c.bounds-bounds.result.first
                      (c.bounds-bounds.ensures.first (spans c.loop-i.i) (reads c.loop-i.i (omega arith))) after known.1 known.2,
                  ends_grown spans from c.loop-i.i c.loop-i.last c.bounds-bounds.result.first c.bounds-bounds.result.end
                      (c.bounds-bounds.ensures.end (spans c.loop-i.i) (reads c.loop-i.i (omega arith))) c.bounds-bounds.ensures.some after known.2,
                ),
          )
    ]

pub returns-clause-rise : goal.returns-clause-rise
returns-clause-rise c =
    let from : ℕ = c.loop-i.invariant.0 in
    let low : from ≤ c.loop-i.i = c.loop-i.invariant.1 in
    let more : from ≤ count_in c.args.entries.now = omega arith in
    let items : c.try_push-2.new.self.items ≡ c.loop-i.ends.items ++ count_in c.args.entries.now ∷ [] =
    c.in-Ok-try_push.ensures.ok ∙ ap (λ n. c.loop-i.ends.items ++ n ∷ []) c.len.ensures in
    subst (λ (xs : List ℕ). RiseTo 0 xs (count_in c.args.entries.now)) (sym items) (rise_append 0 c.loop-i.ends.items from _ c.loop-i.invariant.2 more)

pub returns-clause-chains : goal.returns-clause-chains
returns-clause-chains c =
    λ spans reads.
    let from : ℕ = c.loop-i.invariant.0 in
    let known = c.loop-i.invariant.3 spans reads in
    let all : c.loop-i.i ≡ count_in c.args.entries.now = omega arith in
    let items : c.try_push-2.new.self.items ≡ c.loop-i.ends.items ++ count_in c.args.entries.now ∷ [] =
    c.in-Ok-try_push.ensures.ok ∙ ap (λ n. c.loop-i.ends.items ++ n ∷ []) c.len.ensures in
    subst (λ (xs : List ℕ). AreChains spans 0 xs (count_in c.args.entries.now)) (sym items)
    (chains_append spans 0 c.loop-i.ends.items from _ known.0 (subst (λ (n : ℕ). IsChain spans from n) all known.1))
