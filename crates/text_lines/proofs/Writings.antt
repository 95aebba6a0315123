-- Texts that are written one after another: all of them, or a beginning where one of them breaks off.
use Rattle.std.proofs.Common.{ℕ, List, [], ◌++◌, ◌≡◌, ◌∙◌, ◌+◌, Option, Result, Ok, Err, arith, length, length-append, refl, subst, take}
use Rattle.std.proofs.Math.Seq.{take-append-add, take-append-le}
use Rattle.std.proofs.KnownBytes.{Appends-trans, Appends-nil}
use Rattle.text_lines.specs.Streams.{WriteFails}
use Rattle.text_lines.specs.Writings.{Breaks, Prints, TakesAll, writing}

-- no text
pub takes_none : {W : Type 0} (contents : W → Option (List ℕ)) (failures stalls : W → ℕ) (sink : W) → TakesAll [] (writing contents failures stalls sink sink)
takes_none contents failures stalls sink = record { whole = Appends-nil (contents sink); well = (refl, refl) }

-- a text, and another after it
pub takes_then :
    {W : Type 0} (contents : W → Option (List ℕ)) (failures stalls : W → ℕ) {old mid new : W} {first second : List ℕ}
    → TakesAll first (writing contents failures stalls old mid) → TakesAll second (writing contents failures stalls mid new)
    → TakesAll (first ++ second) (writing contents failures stalls old new)
takes_then contents failures stalls p q = record {
  whole = Appends-trans _ _ _ _ _ p.whole q.whole;
  well = (q.well.0 ∙ p.well.0, q.well.1 ∙ p.well.1);
}

taken_in : (n : ℕ) (done text : List ℕ) → take (length done + n) (done ++ text) ≡ done ++ take n text
taken_in n done text = take-append-add done text n

fails_from :
    (failures failures' failed stalls stalls' stalled : ℕ) → failures' ≡ failures → stalls' ≡ stalls → WriteFails failures' failed stalls' stalled
    → WriteFails failures failed stalls stalled
fails_from failures failures' failed stalls stalls' stalled e f fails =
    subst (λ (s : ℕ). WriteFails failures failed s stalled) f (subst (λ (n : ℕ). WriteFails n failed stalls' stalled) e fails)

-- a text breaks off after others
pub breaks_after :
    {W : Type 0} (contents : W → Option (List ℕ)) (failures stalls : W → ℕ) {old mid new : W} {first second : List ℕ}
    → TakesAll first (writing contents failures stalls old mid) → Breaks second (writing contents failures stalls mid new)
    → Breaks (first ++ second) (writing contents failures stalls old new)
breaks_after contents failures stalls {old} {mid} {new} {first} {second} p q = record {
  part = (
    length first + q.part.0,
    rw (length-append first second) (omega (arith, q.part.1)),
    rw (taken_in q.part.0 first second) (Appends-trans _ _ _ _ _ p.whole q.part.2),
  );
  fails = fails_from (failures old) (failures mid) (failures new) (stalls old) (stalls mid) (stalls new) p.well.0 p.well.1 q.fails;
}

-- a text breaks off before others
pub breaks_before :
    {W : Type 0} (contents : W → Option (List ℕ)) (failures stalls : W → ℕ) {old new : W} {text : List ℕ} (rest : List ℕ)
    → Breaks text (writing contents failures stalls old new) → Breaks (text ++ rest) (writing contents failures stalls old new)
breaks_before contents failures stalls {old} {new} {text} rest q = record {
  part = (
    q.part.0,
    rw (length-append text rest) (omega (arith, q.part.1)),
    rw (take-append-le q.part.0 text rest (omega (arith, q.part.1))) q.part.2,
  );
  fails = q.fails;
}

-- a text breaks off after others and before others
pub breaks_within :
    {W : Type 0} (contents : W → Option (List ℕ)) (failures stalls : W → ℕ) {old mid new : W} {done text all : List ℕ} (rest : List ℕ)
    → done ++ (text ++ rest) ≡ all → TakesAll done (writing contents failures stalls old mid) → Breaks text (writing contents failures stalls mid new)
    → Breaks all (writing contents failures stalls old new)
breaks_within contents failures stalls {old} {mid} {new} {done} {text} {all} rest is p q =
    subst (λ (t : List ℕ). Breaks t (writing contents failures stalls old new)) is
    (breaks_after contents failures stalls {old = old} {mid = mid} {new = new} p (breaks_before contents failures stalls {old = mid} {new = new} rest q))

-- a text is written in two parts, the first of them whole
pub prints_on :
    {W X Y : Type 0} (contents : W → Option (List ℕ)) (failures stalls : W → ℕ) (old mid new : W) (first second : List ℕ) (result : Result X Y)
    → TakesAll first (writing contents failures stalls old mid) → Prints second (writing contents failures stalls mid new) result
    → Prints (first ++ second) (writing contents failures stalls old new) result
prints_on contents failures stalls old mid new first second (Ok x) p q = takes_then contents failures stalls {old = old} {mid = mid} {new = new} p q
prints_on contents failures stalls old mid new first second (Err y) p q = breaks_after contents failures stalls {old = old} {mid = mid} {new = new} p q
