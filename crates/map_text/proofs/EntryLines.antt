-- The lines of entries, one after another.
use Rattle.std.proofs.Common.{◌≡◌, ◌∙◌, ℕ, suc, ◌+◌, List, [], ◌∷◌, ◌++◌, length, map, append_assoc, ap, sym, arith}
use Rattle.pmp_encoding.specs.declared.xlen.Xlen.{Xlen}
use Rattle.map_text.specs.declared.listed_entry.ChainedEntry.{ChainedEntry}
use Rattle.map_text.specs.ListedEntries.{address_in, cfg_in}
use Rattle.map_text.specs.Texts.{entry_text}
use Rattle.map_text.specs.Plans.{entries_text}

-- the lines of entries, and of others after them
pub entries_text-append :
    {A : Type 0} (listed : A → ChainedEntry) (xlen : Xlen) (k : ℕ) (xs ys : List A)
    → entries_text xlen k (map listed (xs ++ ys)) ≡ entries_text xlen k (map listed xs) ++ entries_text xlen (k + length xs) (map listed ys)
entries_text-append listed xlen k [] ys = let e : k + 0 ≡ k = omega arith in ap (λ i. entries_text xlen i (map listed ys)) (sym e)
entries_text-append listed xlen k (x ∷ xs) ys =
    let line = entry_text xlen k (cfg_in (listed x)) (address_in (listed x)) in
    let e : k + 1 + length xs ≡ k + suc (length xs) = omega arith in
    ap (λ l. line ++ l) (entries_text-append listed xlen (k + 1) xs ys
    ∙ ap (λ i. entries_text xlen (k + 1) (map listed xs) ++ entries_text xlen i (map listed ys)) e)
    ∙ sym (append_assoc line (entries_text xlen (k + 1) (map listed xs)) (entries_text xlen (k + suc (length xs)) (map listed ys)))
