use Rattle.std.proofs.Common.{◌≡◌, ℕ, List, ◌++◌, drop, map}
use Rattle.std.specs.List.{concat}
use Rattle.text_lines.specs.Writings.{TakesAll, writing}
use Rattle.map_table.proofs.register_rows.print_texts.Given as goal

abbrev pub invariant-loop-text : goal.invariant-loop-text
invariant-loop-text g l =
    (done : List ℕ) × (done ++ concat (map (λ s. s.now) (drop l.text-index l.texts)) ≡ concat (map (λ s. s.now) l.texts))
    × TakesAll done (writing g.W.Sink.contents g.W.Sink.failures g.W.Sink.stalls l.initial.out l.out)
