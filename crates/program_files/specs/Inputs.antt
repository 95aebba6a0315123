-- The file or the stream that an input reads.
use Rattle.std.specs.Prelude.{◌≡◌, ◌≢◌, List, ℕ, Option, None, ⊤, option_and_then}
use Rattle.std.specs.Borrow.{Bor}
use Rattle.program_files.specs.declared.devices.InputToRead.{InputToRead}
use Rattle.program_files.specs.declared.devices.InputToRead.TheVariants.{File, Standard}

-- the input reads the file with this name
abbrev pub IsOfFile : {R S F D : Type 0} → Bor (List ℕ) → InputToRead R S F D → Type 0
IsOfFile name (File file) = file.name ≡ name
IsOfFile name (Standard input) = ⊥

-- the input reads this stream
abbrev pub IsOfStream : {R S F D : Type 0} → S → InputToRead R S F D → Type 0
IsOfStream stream (File file) = ⊥
IsOfStream stream (Standard input) = input.inner ≡ stream

-- a file is open, unless the input is a stream
abbrev pub IsOpen : {R S F D : Type 0} → InputToRead R S F D → Type 0
IsOpen (File file) = file.file ≢ None
IsOpen (Standard input) = ⊤

-- the remaining bytes of the open file or the stream
abbrev pub remaining_of : {R S F D : Type 0} → (F → Option (List ℕ)) → (S → Option (List ℕ))
    → InputToRead R S F D → Option (List ℕ)
remaining_of file_remaining stream_remaining (File file) = option_and_then file_remaining file.file
remaining_of file_remaining stream_remaining (Standard input) = stream_remaining input.inner
