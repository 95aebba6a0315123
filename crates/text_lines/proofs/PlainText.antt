-- A text of plain bytes is a line without a comment.
use Rattle.std.proofs.Common.{◌≡◌, ℕ, ◌+◌, ◌<◌, ◌∙◌, Bool, true, false, not, ◌&&◌, List, [], ◌∷◌, length, drop, get_or, Some, suc, refl, ap, sym, arith}
use Rattle.std.specs.Prelude.{◌==◌}
use Rattle.std.specs.List.{list_all, position_or_len}
use Rattle.std.proofs.lemmas.Bool.{and_parts, and_from}
use Rattle.std.proofs.lemmas.Bool.Decides.{nat_tests}
use Rattle.std.proofs.lemmas.Grind.{common_steps}
use Rattle.std.proofs.lemmas.List.{at_drop_more}
use Rattle.text_lines.specs.Words.{is_allowed, is_plain, content_of, split_words, words_of}

one_more : (n : ℕ) → 1 + n ≡ suc n
one_more n = omega arith

-- plain bytes have no comment and may stand there
pub plain_content : (line : List ℕ) → list_all is_plain line ≡ true → content_of line ≡ line
plain_content [] h = refl
plain_content (b ∷ line) h =
    let both = and_parts (is_plain b) (list_all is_plain line) h in
    let no : (b == 35) ≡ false = grind (arith, nat_tests, common_steps, (and_parts (is_allowed b) (not (b == 35)) both.0).1) in
    rw (no, one_more (position_or_len (λ c. c == 35) line)) (ap (λ xs. b ∷ xs) (plain_content line both.1))

pub plain_allowed : (line : List ℕ) → list_all is_plain line ≡ true → list_all is_allowed line ≡ true
plain_allowed [] h = refl
plain_allowed (b ∷ line) h =
    let both = and_parts (is_plain b) (list_all is_plain line) h in
    and_from _ _ (and_parts (is_allowed b) (not (b == 35)) both.0).0 (plain_allowed line both.1)

pub plain_words : (line : List ℕ) → list_all is_plain line ≡ true → Some (split_words line) ≡ words_of line
plain_words line h = rw (plain_content line h, plain_allowed line h) refl

and_again : (a b c : Bool) → ((a && b) && c) ≡ (a && (b && c))
and_again true b c = refl
and_again false b c = refl

-- one more element of a list passes a test, or it does not
pub one_tested : (p : ℕ → Bool) (xs : List ℕ) (i d : ℕ) (all t whole : Bool) → i < length xs → t ≡ p (get_or xs i d) → (all && list_all p (drop i xs)) ≡ whole
    → ((all && t) && list_all p (drop (i + 1) xs)) ≡ whole
one_tested p xs i d all t whole inside is before =
    and_again all t (list_all p (drop (i + 1) xs))
    ∙ ap (λ u. all && (u && list_all p (drop (i + 1) xs))) is
    ∙ ap (λ u. all && u) (sym (at_drop_more (list_all p) xs i d inside)) ∙ before
