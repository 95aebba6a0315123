-- A setting in its plainest spelling is what the words of its line say.
use Rattle.std.proofs.Common.{◌≡◌, ◌∙◌, ℕ, true, List, [], ◌∷◌, ◌++◌, Option, Some, None, IfSome, refl, ap, sym, arith}
use Rattle.std.specs.List.{list_all}
use Rattle.pmp_encoding.specs.declared.perm.Perm.{Perm}
use Rattle.pmp_encoding.specs.declared.perm.Perm.TheVariants.{NoAccess, Read, ReadWrite, Execute, ReadExecute, ReadWriteExecute}
use Rattle.pmp_encoding.specs.Perms.{perm_word, permission_of}
use Rattle.permission_map.specs.declared.runs.Run.{Run}
use Rattle.text_lines.specs.Words.{is_letter, is_plain, split_words, words_of}
use Rattle.text_lines.specs.Numbers.{numeral_of}
use Rattle.text_lines.proofs.Letters.{numeral_letters, letters_plain, letters_split}
use Rattle.text_lines.proofs.PlainText.{plain_words}
use Rattle.map_text.specs.MapFile.{line_says, pages_in, pages_of, setting_on}

-- `0x` and digits
abbrev pub marked : List ℕ → List ℕ
marked digits = 48 ∷ 120 ∷ digits

marked_letters : (digits : List ℕ) (value : ℕ) → numeral_of 16 digits ≡ Some value → list_all is_letter (marked digits) ≡ true
marked_letters digits value is = numeral_letters 16 digits value (omega arith) is

marked_pages : (digits : List ℕ) (bytes pages : ℕ) → numeral_of 16 digits ≡ Some bytes → Some pages ≡ pages_of bytes → pages_in (marked digits) ≡ Some pages
marked_pages digits bytes pages is whole = rw is (sym whole)

perm_plain : (p : Perm) → list_all is_plain (perm_word p) ≡ true
perm_plain NoAccess = refl
perm_plain Read = refl
perm_plain ReadWrite = refl
perm_plain Execute = refl
perm_plain ReadExecute = refl
perm_plain ReadWriteExecute = refl

perm_split : (p : Perm) → split_words (perm_word p) ≡ perm_word p ∷ []
perm_split NoAccess = refl
perm_split Read = refl
perm_split ReadWrite = refl
perm_split Execute = refl
perm_split ReadExecute = refl
perm_split ReadWriteExecute = refl

line_words : (base size : List ℕ) (p : Perm) → list_all is_letter (marked base) ≡ true → list_all is_letter (marked size) ≡ true
    → words_of (marked base ++ 32 ∷ (marked size ++ 32 ∷ perm_word p)) ≡ Some (marked base ∷ marked size ∷ perm_word p ∷ [])
line_words base size p low high =
    let line = marked base ++ 32 ∷ (marked size ++ 32 ∷ perm_word p) in
    let plain : list_all is_plain line ≡ true = letters_plain (marked base) (32 ∷ (marked size ++ 32 ∷ perm_word p)) low
    (letters_plain (marked size) (32 ∷ perm_word p) high (perm_plain p)) in
    sym (plain_words line plain)
    ∙ ap (λ ws. Some ws)
    (letters_split 48 (120 ∷ base) (marked size ++ 32 ∷ perm_word p) low
    ∙ ap (λ ws. marked base ∷ ws) (letters_split 48 (120 ∷ size) (perm_word p) high ∙ ap (λ ws. marked size ∷ ws) (perm_split p)))

-- what such a line sets
plain_says :
    (base size word : List ℕ) (from bytes first count : ℕ) (p : Perm) (setting : Run) → numeral_of 16 base ≡ Some from → numeral_of 16 size ≡ Some bytes
    → Some first ≡ pages_of from → Some count ≡ pages_of bytes → perm_word p ≡ word → Some p ≡ permission_of word → Some setting ≡ setting_on first count p
    → line_says (marked base ++ 32 ∷ (marked size ++ 32 ∷ word)) ≡ Some (Some setting)
plain_says base size word from bytes first count p setting eb es fb fs ew ep is =
    let words : words_of (marked base ++ 32 ∷ (marked size ++ 32 ∷ word)) ≡ Some (marked base ∷ marked size ∷ word ∷ []) =
    rw (← ew) (line_words base size p (marked_letters base from eb) (marked_letters size bytes es)) in
    rw (words, marked_pages base from first eb fb, marked_pages size bytes count es fs, ← ep, ← is) refl

pub plain_says-if :
    (base size word : List ℕ) (from bytes first count : ℕ) (p : Perm) (result : Option Run) → numeral_of 16 base ≡ Some from → numeral_of 16 size ≡ Some bytes
    → Some first ≡ pages_of from → Some count ≡ pages_of bytes → perm_word p ≡ word → Some p ≡ permission_of word → result ≡ setting_on first count p
    → IfSome result (λ setting. line_says (marked base ++ 32 ∷ (marked size ++ 32 ∷ word)) ≡ Some (Some setting))
plain_says-if base size word from bytes first count p None eb es fb fs ew ep is = tt
plain_says-if base size word from bytes first count p (Some setting) eb es fb fs ew ep is = plain_says base size word from bytes first count p setting eb es fb
    fs ew ep is
