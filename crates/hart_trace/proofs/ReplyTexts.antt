-- A reply is its number and what stands behind that.
use Rattle.std.proofs.Common.{◌≡◌, ◌∙◌, ℕ, ℤ, pos, List, ◌++◌, codes, decimal, append_assoc, ap, refl, sym, arith}
use Rattle.std.proofs.lemmas.Fmt.{decimal_digit}
use Rattle.std.specs.Fmt.{signed_decimal}
use Rattle.text_lines.specs.Written.{hex}
use Rattle.hart_trace.specs.declared.reply.Reply.TheVariants.{Loaded, Call}
use Rattle.hart_trace.specs.Texts.{reply_text}

-- one piece more behind a number
more : (d l r piece : List ℕ) → d ++ l ≡ r → d ++ (l ++ piece) ≡ r ++ piece
more d l r piece is = sym (append_assoc d l piece) ∙ ap (λ xs. xs ++ piece) is

pub loaded : (n value : ℕ) → decimal n ++ (codes " ok 0x" ++ hex 16 value ++ codes "\n") ≡ reply_text n (Loaded value)
loaded n value = more (decimal n) _ _ (codes "\n") (more (decimal n) (codes " ok 0x") _ (hex 16 value) refl)

pub called :
    (n : ℕ) (status : ℤ) (value world used : ℕ)
    → decimal n ++ (codes " call " ++ signed_decimal status ++ codes " 0x" ++ hex 16 value ++ codes " " ++ decimal world ++ codes " " ++ decimal used
    ++ codes "\n")
    ≡ reply_text n (Call status value world used)
called n status value world used =
    let d = decimal n in
    let word = more d _ _ (hex 16 value) (more d _ _ (codes " 0x") (more d (codes " call ") _ (signed_decimal status) refl)) in
    more d _ _ (codes "\n") (more d _ _ (decimal used) (more d _ _ (codes " ") (more d _ _ (decimal world) (more d _ _ (codes " ") word))))

-- a call that is answered with 0
pub called_zero : (status : ℤ) → status ≡ pos 0 → codes " call 0 0x" ≡ codes " call " ++ signed_decimal status ++ codes " 0x"
called_zero status is = rw (is, decimal_digit 0 (omega arith)) refl
