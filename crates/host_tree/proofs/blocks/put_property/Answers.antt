use Rattle.std.proofs.Common.{◌≡◌, ◌++◌, ◌∙◌, ℕ, List, length, ap, refl, inl, inr, arith}
use Rattle.host_tree.specs.Written.{value_bytes, word_bytes}
use Rattle.std.proofs.lemmas.Result.{err_from_is_err_and}
use Rattle.host_tree.proofs.Fronts.{four_joined, length-value, property_bytes, property_front}
use Rattle.host_tree.proofs.Numbers.{length-word}
use Rattle.host_tree.proofs.Sizes.{grown}
use Rattle.host_tree.proofs.blocks.put_property.Goals as goal

bytes_are : (len place l p : ℕ) (value : List ℕ) → len ≡ l → place ≡ p → l ≡ length value
    → word_bytes 3 ++ (word_bytes len ++ (word_bytes place ++ value_bytes value)) ≡ property_bytes p value
unfolding property_bytes
bytes_are len place l p value e w v = ap (λ (n : ℕ). word_bytes 3 ++ (word_bytes n ++ (word_bytes place ++ value_bytes value))) (e ∙ v)
    ∙ ap (λ (n : ℕ). word_bytes 3 ++ (word_bytes (length value) ++ (word_bytes n ++ value_bytes value))) w

pub returns-clause-put : goal.returns-clause-put
returns-clause-put c =
    let value = c.args.value.now in
    let l = c.in_ok-len.ensures in
    let p = c.in_ok-place.ensures in
    let joined = four_joined c.args.block.now.items _ _ _ _ (word_bytes 3) (word_bytes c.in_ok-len.len) (word_bytes c.in_ok-place.place) (value_bytes value)
    c.in_ok-put_word.ensures.put c.in_ok-put_word-2.ensures.put c.in_ok-put_word-3.ensures.put c.in_ok-put_value.ensures.put in
    let same = bytes_are c.in_ok-len.len c.in_ok-place.place (length value) c.args.place value l.same p.same refl in (
      property_bytes c.args.place value,
      joined ∙ ap (λ (x : List ℕ). c.args.block.now.items ++ x) same,
      λ names rest name named. property_front names value rest name c.args.place l.fits p.fits named,
    )

pub returns-clause-size : goal.returns-clause-size
returns-clause-size c =
    let value = c.args.value.now in
    let l = word_bytes c.in_ok-len.len in
    let p = word_bytes c.in_ok-place.place in
    let first = grown c.args.block.now.items c.put_word.new.out.items (word_bytes 3) c.in_ok-put_word.ensures.put in
    let more = grown c.put_word.new.out.items c.put_word-2.new.out.items l c.in_ok-put_word-2.ensures.put in
    let place = grown c.put_word-2.new.out.items c.put_word-3.new.out.items p c.in_ok-put_word-3.ensures.put in
    let last = grown c.put_word-3.new.out.items c.put_value.new.out.items (value_bytes value) c.in_ok-put_value.ensures.put in
    let words = length-word c.in_ok-len.len in
    omega (arith, first, more, place, last, length-word 3, words, length-word c.in_ok-place.place, length-value value)

pub returns-in_err-len-clause-refused : goal.returns-in_err-len-clause-refused
returns-in_err-len-clause-refused c =
    let p = err_from_is_err_and c.from_residual.result c.from_residual.ensures.1 in
    rw (p.1, p.2) (inr (c.in_err-len.ensures.refused.0, inl c.in_err-len.ensures.refused.1))

pub returns-in_err-place-clause-refused : goal.returns-in_err-place-clause-refused
returns-in_err-place-clause-refused c =
    let p = err_from_is_err_and c.from_residual-in_err-place.result c.from_residual-in_err-place.ensures.1 in
    rw (p.1, p.2) (inr (c.in_err-place.ensures.refused.0, inr c.in_err-place.ensures.refused.1))

pub returns-in_err-put_word-clause-refused : goal.returns-in_err-put_word-clause-refused
returns-in_err-put_word-clause-refused c =
    let p = err_from_is_err_and c.from_residual-in_err-put_word.result c.from_residual-in_err-put_word.ensures.1 in
    rw (p.1, p.2) (inl c.in_err-put_word.ensures.refused)

pub returns-in_err-put_word-2-clause-refused : goal.returns-in_err-put_word-2-clause-refused
returns-in_err-put_word-2-clause-refused c =
    let p = err_from_is_err_and c.from_residual-in_err-put_word-2.result c.from_residual-in_err-put_word-2.ensures.1 in
    rw (p.1, p.2) (inl c.in_err-put_word-2.ensures.refused)

pub returns-in_err-put_word-3-clause-refused : goal.returns-in_err-put_word-3-clause-refused
returns-in_err-put_word-3-clause-refused c =
    let p = err_from_is_err_and c.from_residual-in_err-put_word-3.result c.from_residual-in_err-put_word-3.ensures.1 in
    rw (p.1, p.2) (inl c.in_err-put_word-3.ensures.refused)

pub returns-in_err-put_value-clause-refused : goal.returns-in_err-put_value-clause-refused
returns-in_err-put_value-clause-refused c =
    let p = err_from_is_err_and c.from_residual-in_err-put_value.result c.from_residual-in_err-put_value.ensures.1 in
    rw (p.1, p.2) (inl c.in_err-put_value.ensures.refused)
