-- The files that a command reads: their bytes, and their maps.
use Rattle.std.specs.Prelude.{◌≡◌, ℕ, ◌^◌, ◌<◌, ◌≤◌, List, Option, length}
use Rattle.std.specs.Borrow.{Bor}
use Rattle.std.specs.Io.KnownBytes.{Consumes, IsAtEnd}
use Rattle.text_lines.specs.Streams.{GrowsByOne}
use Rattle.permission_map.specs.declared.runs.Run.{Run}
use Rattle.map_text.specs.declared.map_file.MapFileFault.{MapFileFault}
use Rattle.map_text.specs.declared.map_file.MapFileFault.TheVariants as maps
use Rattle.map_text.specs.MapFile.{FaultAt, IsUnknown, Makes, MakesFirst, MakesTooMany}
use Rattle.program_files.specs.declared.trouble.Trouble.{Trouble}
use Rattle.program_files.specs.declared.trouble.Trouble.TheVariants.{TooLarge, CannotRead, Memory}
use Rattle.program_files.specs.Troubles.{map_trouble}

-- a source before and after a call: itself, its remaining bytes, and its number of failures
pub record Reading (R : Type 0) : Type 0 where
  pub old : R
  pub new : R
  pub before : Option (List ℕ)
  pub after : Option (List ℕ)
  pub failures : ℕ
  pub failed : ℕ

-- a file before and after it was read
abbrev pub reading : {R : Type 0} → (R → Option (List ℕ)) → (R → ℕ) → R → R → Reading R
reading remaining failures old new = record {
  old = old;
  new = new;
  before = remaining old;
  after = remaining new;
  failures = failures old;
  failed = failures new;
}

-- the source was not read
abbrev pub IsUnread : {R : Type 0} → Reading R → Type 0
IsUnread source = source.new ≡ source.old

-- all the bytes of a source, at most `most`
pub record IsWhole (most : ℕ) (before after : Option (List ℕ)) (bytes : List ℕ) : Type 0 where
  pub consumed : Consumes before after bytes
  pub at_end : IsAtEnd after
  pub few : length bytes ≤ most

-- a file was read to its end without a failure: at most `most` bytes
pub record HasBytes {R : Type 0} (most : ℕ) (source : Reading R) (bytes : List ℕ) : Type 0 where
  pub whole : IsWhole most source.before source.after bytes
  pub well : source.failed ≡ source.failures

-- the reason why the bytes of a file were not returned
pub data HasNoBytes {R : Type 0} (most : ℕ) (file : Bor (List ℕ)) (source : Reading R) : Trouble
    → Type 0 where
  too_large : (bytes : List ℕ) → Consumes source.before source.after bytes → most < length bytes
      → HasNoBytes most file source (TooLarge file)
  cannot_read : GrowsByOne source.failures source.failed
      → HasNoBytes most file source (CannotRead file)
  memory : source.failed ≡ source.failures → HasNoBytes most file source Memory

-- the bytes of a file are this map
pub record HasMap {R : Type 0} (source : Reading R) (map : List Run) : Type 0 where
  pub bytes : List ℕ
  pub read : HasBytes (2 ^ 20) source bytes
  pub makes : Makes bytes map

-- the reason why bytes are not a map: the first invalid line
abbrev pub IsMapFault : List ℕ → MapFileFault → Type 0
IsMapFault bytes (maps.Line n) = FaultAt bytes n IsUnknown
IsMapFault bytes maps.TooManyRanges = (n : ℕ) × FaultAt bytes n MakesTooMany
IsMapFault bytes maps.Memory = (n : ℕ) × FaultAt bytes n MakesFirst

-- the reason why the map of a file was not returned
pub data HasNoMap {R : Type 0} (file : Bor (List ℕ)) (source : Reading R) : Trouble → Type 0 where
  no_bytes : (trouble : Trouble) → HasNoBytes (2 ^ 20) file source trouble
      → HasNoMap file source trouble
  no_map : (bytes : List ℕ) → HasBytes (2 ^ 20) source bytes → (fault : MapFileFault)
      → IsMapFault bytes fault → HasNoMap file source (map_trouble file fault)
