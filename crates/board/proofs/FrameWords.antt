-- Words as bytes, the lowest first, and back.
use Rattle.std.proofs.Common.{◌≡◌, ◌∙◌, ℕ, zero, suc, ◌+◌, ◌*◌, ◌/◌, ◌%◌, ◌<◌, List, [], ◌∷◌, ◌++◌, length, drop, slice_index, ap, arith}
use Rattle.std.proofs.Math.Seq.{drop-append-add}
use Rattle.byteorder.specs.Endian.{little_from, little_number}
use Rattle.byteorder.specs.Numbers.{little_from-cons}
use Rattle.trap_server.specs.Words.{word_at}

-- n + 1 bytes of a number, of which the highest has all that is left
abbrev pub bytes_for : ℕ → ℕ → List ℕ
bytes_for zero x = x ∷ []
bytes_for (suc n) x = x % 256 ∷ bytes_for n (x / 256)

pub read_back : (n x : ℕ) (rest : List ℕ) → little_from 0 (suc n) (bytes_for n x ++ rest) ≡ x
read_back zero x rest = omega arith
read_back (suc n) x rest =
    let moved = little_from-cons 0 (suc n) (x % 256) (bytes_for n (x / 256) ++ rest) in
    let ih = read_back n (x / 256) rest in
    rw (moved, ih) (omega arith)

-- the bytes of words of 64 bits, one after another
abbrev pub frame_words : List ℕ → List ℕ
frame_words [] = []
frame_words (word ∷ words) = bytes_for 7 word ++ frame_words words

pub length_words : (words : List ℕ) → length (frame_words words) ≡ 8 * length words
length_words [] = omega arith
length_words (word ∷ words) = let rest = length_words words in omega (arith, rest)

pub word_back : (words : List ℕ) (k : ℕ) → k < length words → word_at (frame_words words) k ≡ slice_index words k
word_back [] k low = absurd (omega (arith, low))
word_back (word ∷ words) zero low = read_back 7 word (frame_words words)
word_back (word ∷ words) (suc k) low =
    let place : 8 * suc k ≡ 8 + 8 * k = omega arith in
    ap (λ n. little_number 8 (drop n (frame_words (word ∷ words)))) place
    ∙ ap (little_number 8) (drop-append-add (bytes_for 7 word) (frame_words words) (8 * k)) ∙ word_back words k (omega (arith, low))
