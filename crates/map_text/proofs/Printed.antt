-- The lines of a plan, one after another.
use Rattle.std.proofs.Common.{ℕ, List, ◌∷◌, ◌++◌, ◌≡◌, ◌∙◌, ◌+◌, ◌-◌, ◌<◌, suc, length, map, drop, get_or, ap, sym, arith, add-one, drop-cons, append_assoc}
use Rattle.pmp_encoding.specs.declared.xlen.Xlen.{Xlen}
use Rattle.pmp_encoding.specs.Widths.{word_number}
use Rattle.map_text.specs.declared.listed_entry.ChainedEntry.{ChainedEntry}
use Rattle.map_text.specs.ListedEntries.{address_in, cfg_in}
use Rattle.map_text.specs.Placed.{word_from}
use Rattle.map_text.specs.Texts.{entry_text, word_text}
use Rattle.map_text.specs.Plans.{entries_text, words_text}

entry_at :
    {A : Type 0} (entries : List A) (i : ℕ) (entry : A) → i < length entries → entry ≡ get_or entries i entry
    → drop i entries ≡ entry ∷ drop (i + 1) entries
entry_at entries i entry h is = rw add-one (drop-cons entries i entry h ∙ ap (λ x. x ∷ drop (suc i) entries) (sym is))

-- the line of entry i, which stands at k, and the lines after it
pub entries_text-first :
    {A : Type 0} (listed : A → ChainedEntry) (xlen : Xlen) (k : ℕ) (entries : List A) (i : ℕ) (entry : A) → i < length entries
    → entry ≡ get_or entries i entry
    → entries_text xlen k (map listed (drop i entries)) ≡ entry_text xlen k (cfg_in (listed entry)) (address_in (listed entry))
    ++ entries_text xlen (k + 1) (map listed (drop (i + 1) entries))
entries_text-first listed xlen k entries i entry h is = ap (λ es. entries_text xlen k (map listed es)) (entry_at entries i entry h is)

-- the line of word i, and the lines after it
pub words_text-first : (xlen : Xlen) (first : ℕ) (entries : List ChainedEntry) (i count : ℕ) → i < count
    → words_text xlen first entries i (count - i) ≡ word_text xlen (word_number xlen i) (word_from xlen first entries i) ++ words_text xlen first entries
    (i + 1) (count - (i + 1))
words_text-first xlen first entries i count h = let e : count - i ≡ suc (count - (i + 1)) = omega arith in ap (words_text xlen first entries i) e

-- the pieces of a line, after what stood before them
pub line_behind : (old a b c d e f : List ℕ) → (((((old ++ a) ++ b) ++ c) ++ d) ++ e) ++ f ≡ old ++ (((((a ++ b) ++ c) ++ d) ++ e) ++ f)
line_behind old a b c d e f =
    ap (λ l. (((l ++ c) ++ d) ++ e) ++ f) (append_assoc old a b)
    ∙ ap (λ l. ((l ++ d) ++ e) ++ f) (append_assoc old (a ++ b) c)
    ∙ ap (λ l. (l ++ e) ++ f) (append_assoc old ((a ++ b) ++ c) d)
    ∙ ap (λ l. l ++ f) (append_assoc old (((a ++ b) ++ c) ++ d) e)
    ∙ append_assoc old ((((a ++ b) ++ c) ++ d) ++ e) f
