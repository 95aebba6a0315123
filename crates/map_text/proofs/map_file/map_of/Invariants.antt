use Rattle.std.proofs.Common.{◌≡◌, ◌+◌, ◌-◌, ◌^◌, ◌<◌, ℕ, List, [], ◌++◌, length}
use Rattle.text_lines.specs.LineReaders.{came_of, most_of, number_of}
use Rattle.text_lines.specs.WholeTexts.{left_of}
use Rattle.text_lines.specs.Lines.{raw_lines}
use Rattle.map_text.specs.MapFile.{FaultAt, LeadTo, MakesFirst}
use Rattle.map_text.proofs.map_file.map_of.Given as goal

abbrev pub invariant-lines : goal.invariant-lines
invariant-lines l = record {
  followed : (before : List (List ℕ)) × (raw_lines l.bytes ≡ before ++ raw_lines (left_of l.lines l.rest)) × (length before ≡ number_of l.lines)
      × LeadTo [] before l.map;
  grown : 0 < length l.map → (n : ℕ) × FaultAt l.bytes n MakesFirst;
  came : came_of l.lines + length l.rest ≡ length l.bytes;
  limit : most_of l.lines ≡ 2 ^ 64 - 1;
}

abbrev pub decreases-lines : goal.decreases-lines
decreases-lines l = length (left_of l.lines l.rest)
