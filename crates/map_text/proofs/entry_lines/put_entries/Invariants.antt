-- The lines of the entries before the next stand at the front.
use Rattle.std.proofs.Common.{◌≡◌, ◌≤◌, ◌+◌, ◌*◌, ◌++◌, decimal, drop, length, map, take}
use Rattle.text_lines.specs.Counters.{digits_of}
use Rattle.map_text.specs.Plans.{entries_text}
use Rattle.map_text.proofs.entry_lines.put_entries.Given as goal

abbrev pub invariant-loop-i : goal.invariant-loop-i
invariant-loop-i g l = record {
  room : length l.buffer ≡ length l.initial.buffer;
  inside : l.at ≤ 46 * l.i;
  len : l.number.len ≤ 20;
  digits : digits_of l.number ≡ decimal (l.first + l.i);
  text : take l.at l.buffer ++ entries_text l.xlen (l.first + l.i) (map g.E.ListedEntry.listed (drop l.i l.entries))
      ≡ entries_text l.xlen l.first (map g.E.ListedEntry.listed l.entries);
}
