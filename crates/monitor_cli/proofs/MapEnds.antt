-- How `map` of a device tree ends.
use Rattle.std.proofs.Common.{◌≡◌, ◌^◌, ℕ, List, true, Result, Ok, Err, inl, inr}
use Rattle.std.specs.Borrow.{Bor}
use Rattle.board_texts.specs.Boards.{is_tree}
use Rattle.text_lines.specs.Writings.{Writing}
use Rattle.command_line.specs.declared.options.Options.{Options}
use Rattle.program_files.specs.declared.trouble.Trouble.{Trouble}
use Rattle.program_files.specs.Reading.{HasBytes, Reading}
use Rattle.monitor_cli.specs.Commands.{Ends, IsMapped, IsTreeMapped, IsTreeUnmapped, IsUnmapped}

pub of_tree :
    {R W : Type 0} (options : Options) (file : Bor (List ℕ)) (first : Reading R) (out : Writing W) (bytes : List ℕ) (done : Result ℕ Trouble)
    → HasBytes (2 ^ 20) first bytes → is_tree bytes ≡ true
    → Ends (IsTreeMapped options.mode bytes) (IsTreeUnmapped file options.mode bytes) out done
    → Ends (IsMapped options first) (IsUnmapped file options first) out done
of_tree options file first out bytes (Ok status) read is told = (told.0, (bytes, read, inl (is, told.1)), told.2)
of_tree options file first out bytes (Err trouble) read is (inl cut) = inl (cut.0, (cut.1.0, cut.1.1, (bytes, read, inl (is, cut.1.2)), cut.1.3))
of_tree options file first out bytes (Err trouble) read is (inr stopped) = elim stopped.0 [
  | inl memory ↦ inr (inl memory, stopped.1)
  | inr none ↦ inr (inr (inr (bytes, read, inl none)), stopped.1)
]
