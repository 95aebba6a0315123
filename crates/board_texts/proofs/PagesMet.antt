-- Ranges whose pages do not meet a run have no comment on it.
use Rattle.std.proofs.Common.{◌≡◌, ◌∙◌, ℕ, ◌<◌, ◌++◌, [], Bool, true, false, cond, List, ap, sym, refl, get_or, length}
use Rattle.std.specs.Prelude.{◌&&◌}
use Rattle.std.proofs.lemmas.List.{append-nil, get_or-map, length-map}
use Rattle.pmp_encoding.specs.declared.pages.PageRange.{PageRange}
use Rattle.permission_map.specs.declared.runs.Run.{Run}
use Rattle.device_tree.specs.declared.registers.Found.{Found}
use Rattle.board_texts.specs.Comments.{comment_text, gives, meets, named_text}
use Rattle.board_texts.specs.Pages.{all_pages, pages_of, range_of}

-- each range has its pages at its place
pub inside : (found : List Found) (pages : List PageRange) (i : ℕ) → pages ≡ all_pages found → i < length pages → i < length found
inside found pages i paged less = rw (ap length paged ∙ length-map found (λ one. pages_of (range_of one))) at less

pub own :
    (found : List Found) (pages : List PageRange) (i : ℕ) (d : Found) (e : PageRange) → pages ≡ all_pages found → i < length pages
    → get_or pages i e ≡ pages_of (range_of (get_or found i d))
own found pages i d e paged less = ap (λ ps. get_or ps i e) paged ∙ get_or-map (λ one. pages_of (range_of one)) found i d e (inside found pages i paged less)

nothing : (text : List ℕ) (a b : Bool) → b ≡ false → cond (a && b) text [] ≡ []
nothing text false b e = refl
nothing text true b e = rw e refl

pub kept :
    (text : List ℕ) (run : Run) (one : Found) (pages : PageRange) → pages ≡ pages_of (range_of one) → meets pages run ≡ false
    → text ≡ text ++ comment_text run (range_of one)
kept text run one pages is e =
    let none : comment_text run (range_of one) ≡ [] = nothing (named_text (range_of one)) (gives (range_of one).kind run.perm)
    (meets (pages_of (range_of one)) run) (ap (λ p. meets p run) (sym is) ∙ e) in
    sym (ap (λ (xs : List ℕ). text ++ xs) none ∙ append-nil text)
