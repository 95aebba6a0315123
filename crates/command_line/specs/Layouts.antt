-- The layout of an enclave, from the command line.
use Rattle.std.specs.Prelude.{ℕ, ◌≡◌, Option, Some, None, codes}
use Rattle.text_lines.specs.Numbers.{number_of}
use Rattle.measurement.specs.declared.measured.Layout.{Layout}
use Rattle.measurement.specs.declared.request.Create.{Create}
use Rattle.measurement.specs.Requests.{HasCounts, HasEntry}
use Rattle.command_line.specs.Subcommands.{Text}

-- the number that a word spells
abbrev pub IsNumber : Option Text → ℕ → Type 0
IsNumber None n = ⊥
IsNumber (Some word) n = number_of word ≡ Some n

-- the layout from the values of `--text`, `--data`, `--shared` and `--entry`
pub record IsLaidOut (value : Text → Option Text) (layout : Layout) : Type 0 where
  pub text : IsNumber (value (codes "text")) layout.text_pages
  pub data_is : IsNumber (value (codes "data")) layout.data_pages
  pub shared : IsNumber (value (codes "shared")) layout.shared_count
  pub entry : IsNumber (value (codes "entry")) layout.entry_offset

-- an enclave with this layout whose pages begin at address 0
abbrev pub at_zero : Layout → Create
at_zero layout = record {
  base = 0;
  text_pages = layout.text_pages;
  data_pages = layout.data_pages;
  shared_base = 0;
  shared_count = layout.shared_count;
  entry_offset = layout.entry_offset;
}

-- an enclave can have this layout: the monitor accepts its numbers, wherever its pages are
pub record IsEnclave (layout : Layout) : Type 0 where
  pub counts : HasCounts (at_zero layout)
  pub entry : HasEntry (at_zero layout)
