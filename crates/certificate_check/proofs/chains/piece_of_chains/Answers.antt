-- Up to the least first page of what the chains have next, the first chain that stands on the page decides.
use Rattle.std.proofs.Common.{◌≡◌, ℕ, List, get_or, arith, sym, subst, refl, ◌∙◌}
use Rattle.std.specs.Prelude.{slice_index}
use Rattle.certificate_check.specs.declared.chains.ChainCursor.{ChainCursor}
use Rattle.certificate_check.specs.Spans.{AreClear, AreChains, RiseTo, count_in}
use Rattle.certificate_check.specs.Places.{IsPlace, start_of}
use Rattle.certificate_check.proofs.Swept.{decided_none}
use Rattle.certificate_check.proofs.Chained.{drop_at, drop_all, clear_past, chain_decided, chain_clear_later}
use Rattle.certificate_check.proofs.Placed.{ahead, ended_before, place_open, start_next}
use Rattle.certificate_check.proofs.chains.piece_of_chains.Goals as goal
use Rattle.certificate_check.proofs.chains.piece_of_chains.Goals.{then-page-places, else-page-places+else-page-places-2}
use Rattle.certificate_check.proofs.chains.piece_of_chains.Goals.{else-page-places+then-page-places-2+else-places-i}

pub returns-then-places-i-clause-value : goal.returns-then-places-i-clause-value
returns-then-places-i-clause-value c =
    λ spans reads.
    let split = drop_at c.args.ends.now c.loop-i.i c.loop-i-test.true in
    let rise = subst (λ (xs : List ℕ). RiseTo (start_of c.args.ends.now c.loop-i.i) xs (count_in c.args.entries.now)) split c.loop-i.invariant.rise in
    let are = c.go_on.ensures.value spans reads c.args.ends.now (sym c.start_of.ensures) refl c.loop-i-test.true (c.loop-i.invariant.places spans reads) in
    let place : (d : ChainCursor)
    → IsPlace spans (start_of c.args.ends.now c.loop-i.i) (slice_index c.args.ends.now c.loop-i.i) c.args.page (get_or c.go_on.new.places c.loop-i.i d) =
    λ d. (are c.loop-i.i d c.loop-i-test.true) in
    let next = place_open spans _ _ _ _ (place _) c.if-page-places-2.true in
    chain_decided spans _ c.args.page c.loop-i.end c.min.result (start_of c.args.ends.now c.loop-i.i)
    (slice_index c.args.ends.now c.loop-i.i) _ next.0 rise.1 c.if-places-i.true
    c.if-page-places-2.true c.min.ensures (c.loop-i.invariant.clear spans reads)

pub returns-then-places-i-clause-places : goal.returns-then-places-i-clause-places
returns-then-places-i-clause-places c =
    λ spans reads. c.go_on.ensures.value spans reads c.args.ends.now (sym c.start_of.ensures) refl c.loop-i-test.true (c.loop-i.invariant.places spans reads)

pub loop-i-preserved : goal.loop-i-preserved
loop-i-preserved c =
    let split = drop_at c.args.ends.now c.loop-i.i c.loop-i-test.true in
    let rise = subst (λ (xs : List ℕ). RiseTo (start_of c.args.ends.now c.loop-i.i) xs (count_in c.args.entries.now)) split c.loop-i.invariant.rise in
    elim c.if-page-places.branch [
      | then-page-places w ↦
          rw (start_next c.args.ends.now c.loop-i.i)
          (record {
            some = omega arith;
            inside = omega arith;
            long = rw (w.places-is) c.loop-i.invariant.long;
            rise = rise.2;
            chains = λ spans reads. (subst (λ (xs : List ℕ). AreChains spans (start_of c.args.ends.now c.loop-i.i) xs (count_in c.args.entries.now)) split
                (c.loop-i.invariant.chains spans reads)).1;
            clear = λ spans reads.
                let chains = subst (λ (xs : List ℕ). AreChains spans (start_of c.args.ends.now c.loop-i.i) xs (count_in c.args.entries.now)) split
                (c.loop-i.invariant.chains spans reads) in
                let place : (d : ChainCursor)
                → IsPlace spans (start_of c.args.ends.now c.loop-i.i) (slice_index c.args.ends.now c.loop-i.i) c.args.page
                (get_or c.loop-i.places c.loop-i.i d) =
                λ d. (c.loop-i.invariant.places spans reads c.loop-i.i d c.loop-i-test.true) in
                let next = place_open spans _ _ _ _ (place _) (ahead spans _ _ _ _ (place _) w.if-page-places.true) in
                (chain_clear_later spans c.args.page c.loop-i.end _ (start_of c.args.ends.now c.loop-i.i) _ _ next.0 chains.0 next.1
                (w.end-is ∙ w.min-end.ensures)
                (c.loop-i.invariant.clear spans reads));
            places = λ spans reads. rw (w.places-is) (c.loop-i.invariant.places spans reads);
          })
      | else-page-places+else-page-places-2 w ↦
          rw (start_next c.args.ends.now c.loop-i.i)
          (record {
            some = omega arith;
            inside = omega arith;
            long = rw (w.places-is) w.go_on.array_long;
            rise = rise.2;
            chains = λ spans reads. (subst (λ (xs : List ℕ). AreChains spans (start_of c.args.ends.now c.loop-i.i) xs (count_in c.args.entries.now)) split
                (c.loop-i.invariant.chains spans reads)).1;
            clear = λ spans reads.
                let are = w.go_on.ensures.value spans reads c.args.ends.now (sym w.start_of.ensures) refl c.loop-i-test.true
                (c.loop-i.invariant.places spans reads) in
                let place : (d : ChainCursor)
                → IsPlace spans (start_of c.args.ends.now c.loop-i.i) (slice_index c.args.ends.now c.loop-i.i) c.args.page
                (get_or w.go_on.new.places c.loop-i.i d) =
                λ d. (are c.loop-i.i d c.loop-i-test.true) in
                let past = ended_before spans _ _ _ _ (place _) w.if-page-places-2.false in
                let order = w.go_on.ensures.all _ w.if-page-places-2.false in
                rw (w.end-is)
                (clear_past spans (start_of c.args.ends.now c.loop-i.i) _ c.args.page c.loop-i.end (c.loop-i.invariant.clear spans reads)
                (λ j low less. past j low (omega (arith, order, less))));
            places = λ spans reads.
                rw (w.places-is) (w.go_on.ensures.value spans reads c.args.ends.now (sym w.start_of.ensures) refl c.loop-i-test.true
                (c.loop-i.invariant.places spans reads));
          })
      | else-page-places+then-page-places-2+else-places-i w ↦
          rw (start_next c.args.ends.now c.loop-i.i)
          (record {
            some = omega arith;
            inside = omega arith;
            long = rw (w.places-is) w.go_on.array_long;
            rise = rise.2;
            chains = λ spans reads. (subst (λ (xs : List ℕ). AreChains spans (start_of c.args.ends.now c.loop-i.i) xs (count_in c.args.entries.now)) split
                (c.loop-i.invariant.chains spans reads)).1;
            clear = λ spans reads.
                let chains = subst (λ (xs : List ℕ). AreChains spans (start_of c.args.ends.now c.loop-i.i) xs (count_in c.args.entries.now)) split
                (c.loop-i.invariant.chains spans reads) in
                let are = w.go_on.ensures.value spans reads c.args.ends.now (sym w.start_of.ensures) refl c.loop-i-test.true
                (c.loop-i.invariant.places spans reads) in
                let place : (d : ChainCursor)
                → IsPlace spans (start_of c.args.ends.now c.loop-i.i) (slice_index c.args.ends.now c.loop-i.i) c.args.page
                (get_or w.go_on.new.places c.loop-i.i d) =
                λ d. (are c.loop-i.i d c.loop-i-test.true) in
                let next = place_open spans _ _ _ _ (place _) w.if-page-places-2.true in
                (chain_clear_later spans c.args.page c.loop-i.end _ (start_of c.args.ends.now c.loop-i.i) _ _ next.0 chains.0 next.1
                (w.end-is ∙ w.min-end-then-page-places-2.ensures)
                (c.loop-i.invariant.clear spans reads));
            places = λ spans reads.
                rw (w.places-is) (w.go_on.ensures.value spans reads c.args.ends.now (sym w.start_of.ensures) refl c.loop-i-test.true
                (c.loop-i.invariant.places spans reads));
          })
    ]

pub returns-clause-value : goal.returns-clause-value
returns-clause-value c =
    λ spans reads.
    let done = drop_all c.args.ends.now c.loop-i.i c.loop-i-test.false in
    let all : (start_of c.args.ends.now c.loop-i.i) ≡ count_in c.args.entries.now =
    subst (λ (xs : List ℕ). RiseTo (start_of c.args.ends.now c.loop-i.i) xs (count_in c.args.entries.now)) done c.loop-i.invariant.rise in
    decided_none spans _ c.args.page c.loop-i.end (subst (λ (n : ℕ). AreClear spans n c.args.page c.loop-i.end) all (c.loop-i.invariant.clear spans reads))
