use Rattle.std.proofs.Common.{◌≡◌, ◌-◌, refl, ◌≤◌, ◌∙◌, ap, sym, subst, ℕ, List, [], ◌++◌, append-nil, drop, length, length-drop, arith}
use Rattle.device_tree.specs.declared.reservations.Reservation.{Reservation}
use Rattle.device_tree.specs.Words.{double_word_at}
use Rattle.device_tree.specs.Trees.{BeginsWithReservations}
use Rattle.device_tree.proofs.Reserved.{IsPair, and_pair, left_pair, too_short}
use Rattle.device_tree.proofs.reservations.reservations_in.Goals as goal

long_there : (bytes : List ℕ) (at : ℕ) → 16 ≤ length bytes - at → 16 ≤ length (drop at bytes)
long_there bytes at h = omega (arith, h, length-drop at bytes)

pub returns-then-bytes-at-lt16-clause-refused : goal.returns-then-bytes-at-lt16-clause-refused
returns-then-bytes-at-lt16-clause-refused c = λ _ all spelt.
    let was = c.pairs.invariant.left all spelt in
    too_short (drop c.pairs.at c.args.bytes.now) was.0 (omega (arith, c.if-bytes-at-lt16.true, length-drop c.pairs.at c.args.bytes.now)) was.2

pub returns-then-bytes-at-lt16-clause-reason : goal.returns-then-bytes-at-lt16-clause-reason
returns-then-bytes-at-lt16-clause-reason c = λ _.
    let bytes = c.args.bytes.now in
    let at = c.pairs.at in
    let few = c.if-bytes-at-lt16.true in (
      refl,
      at,
      record {
        none = λ all spelt. let was = c.pairs.invariant.left all spelt in
            too_short (drop at bytes) was.0 (omega (arith, few, length-drop at bytes)) was.2;
        whole = c.pairs.invariant.whole_pairs;
        inside = c.pairs.invariant.within;
        few = omega (arith, few, c.pairs.invariant.within);
      },
      refl,
    )

pub pairs-preserved : goal.pairs-preserved
pairs-preserved c =
    let bytes = c.args.bytes.now in
    let at = c.pairs.at in
    let pair = c.pair_in-pair.result in
    let is : IsPair (drop at bytes) pair = record {
      long = omega (arith, c.if-bytes-at-lt16.false, length-drop at bytes);
      address = ap (λ (x : List ℕ). double_word_at x 0) (sym c.after.ensures) ∙ sym c.pair_in-pair.ensures.address;
      size = ap (λ (x : List ℕ). double_word_at x 8) (sym c.after.ensures) ∙ sym c.pair_in-pair.ensures.size;
      no_end = λ a s. let yes = c.is_end.ensures.1 (a, s) in cc (yes, c.if-is_end.false);
    } in
    let now = c.in-Ok.ensures.items in
    record {
      within = omega (arith, is.long, length-drop at bytes);
      whole_pairs = omega (arith, c.pairs.invariant.whole_pairs);
      whole = λ later spelt. subst (λ (x : List Reservation). BeginsWithReservations bytes (x ++ later)) (sym now)
          (and_pair bytes at c.pairs.list.items pair is c.pairs.invariant.whole later spelt);
      left = λ all spelt. let w = left_pair bytes at c.pairs.list.items pair is c.pairs.invariant.left all spelt in
          (w.0, w.1 ∙ ap (λ (x : List Reservation). x ++ w.0) (sym now), w.2);
    }

pub returns-clause-ok : goal.returns-clause-ok
returns-clause-ok c =
    let bytes = c.args.bytes.now in
    let at = c.pairs.at in
    let zeros = c.is_end.ensures.0 c.if-is_end.true in
    let long : 16 ≤ length (drop at bytes) = omega (arith, c.if-bytes-at-lt16.false, length-drop at bytes) in
    let address : double_word_at (drop at bytes) 0 ≡ 0 =
    ap (λ (x : List ℕ). double_word_at x 0) (sym c.after.ensures) ∙ sym c.pair_in-pair.ensures.address ∙ zeros.0 in
    let size : double_word_at (drop at bytes) 8 ≡ 0 =
    ap (λ (x : List ℕ). double_word_at x 8) (sym c.after.ensures) ∙ sym c.pair_in-pair.ensures.size ∙ zeros.1 in
    subst (λ (x : List Reservation). BeginsWithReservations bytes x) (append-nil c.pairs.list.items) (c.pairs.invariant.whole [] (long, address, size))
