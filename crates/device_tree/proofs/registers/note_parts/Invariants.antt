use Rattle.std.proofs.Common.{◌≡◌, ◌++◌, drop}
use Rattle.device_tree.specs.Meaning.{part_ranges, said_of}
use Rattle.device_tree.proofs.registers.note_parts.Given as goal

abbrev pub invariant-loop-part : goal.invariant-loop-part
invariant-loop-part l = said_of l.found.items ++ part_ranges l.node.0 l.node.1.now (drop l.part-index l.parts)
    ≡ said_of l.initial.found.items ++ part_ranges l.node.0 l.node.1.now l.parts
