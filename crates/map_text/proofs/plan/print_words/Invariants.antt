use Rattle.std.proofs.Common.{◌≡◌, List, ℕ, ◌++◌, ◌-◌, map}
use Rattle.text_lines.specs.Writings.{TakesAll, writing}
use Rattle.map_text.specs.Plans.{words_text}
use Rattle.map_text.proofs.plan.print_words.Given as goal

abbrev pub invariant-loop-i : goal.invariant-loop-i
invariant-loop-i g l =
    let entries = map g.E.ListedEntry.listed l.entries in
    (done : List ℕ) × (done ++ words_text l.xlen l.first entries l.i (l.end - l.i) ≡ words_text l.xlen l.first entries l.begin (l.end - l.begin))
    × TakesAll done (writing g.W.Sink.contents g.W.Sink.failures g.W.Sink.stalls l.initial.out l.out)
