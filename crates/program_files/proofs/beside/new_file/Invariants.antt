use Rattle.std.proofs.Common.{◌≡◌, length, string_bytes}
use Rattle.program_files.proofs.beside.new_file.Given as goal

abbrev pub invariant-loop-digit : goal.invariant-loop-digit
invariant-loop-digit g l = record {
  len : l.len ≡ length (string_bytes l.initial.name);
  stays : string_bytes l.name ≡ string_bytes l.initial.name;
}
