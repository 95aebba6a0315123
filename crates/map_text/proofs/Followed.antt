-- The first line at fault, by the lines before it.
use Rattle.std.proofs.Common.{◌≡◌, ◌∙◌, ℕ, ◌+◌, ◌≤◌, List, [], ◌∷◌, ◌++◌, length, Option, None, ap, sym, arith}
use Rattle.std.proofs.lemmas.Bool.{le-leb}
use Rattle.std.proofs.lemmas.Bool.Decides.{nat_tests}
use Rattle.std.proofs.lemmas.Grind.{common_steps}
use Rattle.permission_map.specs.declared.runs.Run.{Run}
use Rattle.text_lines.specs.Lines.{IsShortLine, without_return}
use Rattle.text_lines.specs.Lines.{raw_lines}
use Rattle.map_text.specs.MapFile.{FaultAt, LeadTo, line_says, raw_says}
use Rattle.text_lines.proofs.InputLines.{raw_lines-are}

pub short_says : (raw text : List ℕ) → IsShortLine raw → text ≡ without_return raw → raw_says raw ≡ line_says text
short_says raw text short is = rw (le-leb (length raw) 1023 short.1) (ap line_says (sym is))

pub long_says : (raw : List ℕ) → 1024 ≤ length raw → raw_says raw ≡ None
long_says raw long = grind (arith, nat_tests, common_steps, long)

pub fault_at : (bytes : List ℕ) (n : ℕ) (fault : List Run → Option (Option Run) → Type 0) (before : List (List ℕ)) (raw : List ℕ) (rest left : List (List ℕ))
    (map : List Run) → raw_lines bytes ≡ before ++ left → left ≡ raw ∷ rest → length before + 1 ≡ n → LeadTo [] before map → fault map (raw_says raw)
    → FaultAt bytes n fault
fault_at bytes n fault before raw rest left map lines first number made here = record {
  before = before;
  raw = raw;
  rest = rest;
  are_lines = rw (lines ∙ ap (λ xs. before ++ xs) first) at (raw_lines-are bytes);
  number = number;
  map = map;
  made = made;
  here = here;
}
