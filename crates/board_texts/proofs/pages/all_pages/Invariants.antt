use Rattle.std.proofs.Common.{◌≡◌, map, take}
use Rattle.board_texts.specs.Pages.{pages_of, range_of}
use Rattle.board_texts.proofs.pages.all_pages.Given as goal

abbrev pub invariant-loop-one : goal.invariant-loop-one
invariant-loop-one l = l.pages.items ≡ map (λ one. pages_of (range_of one)) (take l.one-index l.found)
