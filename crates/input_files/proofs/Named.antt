-- Settings that are named or left, one after another.
use Rattle.std.proofs.Common.{Bool, ℕ, List, [], ◌∷◌, ◌≡◌, ◌∙◌, ◌+◌, ◌-◌, ◌++◌, ◌<◌, ap, append_assoc, arith, drop, get_or, length, subst, sym, take}
use Rattle.std.proofs.lemmas.Grind.{common_steps}
use Rattle.std.proofs.lemmas.List.{drop_more}
use Rattle.permission_map.specs.declared.runs.Run.{Run}
use Rattle.input_files.specs.declared.idle_lines.Numbered.{Numbered}
use Rattle.input_files.specs.declared.idle_lines.IdleLine.{IdleLine}
use Rattle.input_files.specs.Settings.{AreNamed, IsRedundantDenial, LeadElsewhere, SetTo, idle, needed}

-- `&settings[i..]` is read as its whole length from there
pub rest_from : (i : ℕ) (settings : List Numbered) → take (length settings - i) (drop i settings) ≡ drop i settings
rest_from i settings = grind (arith, common_steps)

pub name_it :
    (whole : List Run) (kept settings : List Numbered) (i : ℕ) (d : Numbered) (named : List IdleLine) (left : List Numbered) (redundant : Bool)
    → i < length settings
    → IsRedundantDenial kept (get_or settings i d).setting redundant → SetTo [] (kept ++ drop (i + 1) settings) whole
    → AreNamed whole kept (drop (i + 1) settings) named left
    → AreNamed whole kept (drop i settings) (record { line = (get_or settings i d).line; redundant = redundant } ∷ named) left
name_it whole kept settings i d named left redundant less said set are = rw (drop_more settings i d less) (idle (get_or settings i d) redundant said set are)

pub keep_it :
    (whole : List Run) (kept settings : List Numbered) (i : ℕ) (d : Numbered) (named : List IdleLine) (left : List Numbered) → i < length settings
    → LeadElsewhere (kept ++ drop (i + 1) settings) whole
    → AreNamed whole (kept ++ get_or settings i d ∷ []) (drop (i + 1) settings) named left → AreNamed whole kept (drop i settings) named left
keep_it whole kept settings i d named left less elsewhere are = rw (drop_more settings i d less) (needed (get_or settings i d) elsewhere are)

pub move_it :
    (whole : List Run) (kept settings : List Numbered) (i : ℕ) (d : Numbered) → i < length settings → SetTo [] (kept ++ drop i settings) whole
    → SetTo [] ((kept ++ get_or settings i d ∷ []) ++ drop (i + 1) settings) whole
move_it whole kept settings i d less set =
    subst (λ xs. SetTo [] xs whole) (ap (λ xs. kept ++ xs) (drop_more settings i d less)
    ∙ sym (append_assoc kept (get_or settings i d ∷ []) (drop (i + 1) settings))) set
