-- Why a file could not be had, by the fault of what is read.
use Rattle.std.proofs.Common.{ℕ, ◌≡◌, ◌≢◌, ◌<◌, ◌^◌, List, Result, Ok, Err, IfOk, IfErr, length, refl}
use Rattle.std.specs.Borrow.{Bor}
use Rattle.std.specs.Io.KnownBytes.{Consumes}
use Rattle.text_lines.specs.Streams.{GrowsByOne}
use Rattle.map_text.specs.declared.map_file.MapFileFault.{MapFileFault}
use Rattle.map_text.specs.declared.map_file.MapFileFault.TheVariants as maps
use Rattle.map_text.specs.MapFile.{FaultAt, IsUnknown, Makes, MakesFirst, MakesTooMany}
use Rattle.permission_map.specs.declared.runs.Run.{Run}
use Rattle.program_files.specs.declared.trouble.Trouble.{Trouble}
use Rattle.text_lines.specs.declared.stream_fault.SourceFault.{SourceFault}
use Rattle.text_lines.specs.declared.stream_fault.SourceFault.TheVariants as whole
use Rattle.program_files.specs.Reading.{HasBytes, HasMap, HasNoBytes, HasNoMap, IsMapFault, Reading, too_large, cannot_read}
use Rattle.program_files.specs.Reading as inputs
use Rattle.program_files.specs.Troubles.{map_trouble, source_trouble}

pub no_bytes :
    {R : Type 0} (most : ℕ) (file : Bor (List ℕ)) (source : Reading R) (fault : SourceFault)
    → (fault ≡ whole.TooLarge → (bytes : List ℕ) × Consumes source.before source.after bytes × (most < length bytes))
    → (fault ≡ whole.Read → GrowsByOne source.failures source.failed)
    → (fault ≢ whole.Read → source.failed ≡ source.failures)
    → HasNoBytes most file source (source_trouble file fault)
no_bytes most file source whole.TooLarge large failed well = let b = large refl in too_large b.0 b.1 b.2
no_bytes most file source whole.Read large failed well = cannot_read (failed refl)
no_bytes most file source whole.Memory large failed well = inputs.HasNoBytes.memory (well (λ e. cc))

pub map_fault :
    (bytes : List ℕ) (fault : MapFileFault)
    → ((n : ℕ) → fault ≡ maps.Line n → FaultAt bytes n IsUnknown)
    → (fault ≡ maps.TooManyRanges → (n : ℕ) × FaultAt bytes n MakesTooMany)
    → (fault ≡ maps.Memory → (n : ℕ) × FaultAt bytes n MakesFirst)
    → IsMapFault bytes fault
map_fault bytes (maps.Line n) unknown many more = unknown n refl
map_fault bytes maps.TooManyRanges unknown many more = many refl
map_fault bytes maps.Memory unknown many more = more refl

-- the map of a file's bytes is that of the file
pub has_map : {R E : Type 0} (source : Reading R) (bytes : List ℕ) (result : Result (List Run) E) → HasBytes (2 ^ 20) source bytes → IfOk result (Makes bytes)
    → IfOk result (HasMap source)
has_map source bytes (Ok map) read makes = record { bytes = bytes; read = read; makes = makes }
has_map source bytes (Err e) read makes = tt

-- and where they make none, the file has none
pub no_map_of :
    {R : Type 0} (file : Bor (List ℕ)) (source : Reading R) (bytes : List ℕ) (trouble : Trouble) → HasBytes (2 ^ 20) source bytes
    → (fault : MapFileFault) × IsMapFault bytes fault × (trouble ≡ map_trouble file fault) → HasNoMap file source trouble
no_map_of file source bytes trouble read refused = rw refused.2 (inputs.HasNoMap.no_map bytes read refused.0 refused.1)

pub has_no_map :
    {R X : Type 0} (file : Bor (List ℕ)) (source : Reading R) (bytes : List ℕ) (result : Result X Trouble) → HasBytes (2 ^ 20) source bytes
    → IfErr result (λ trouble. (fault : MapFileFault) × IsMapFault bytes fault × (trouble ≡ map_trouble file fault)) → IfErr result (HasNoMap file source)
has_no_map file source bytes (Ok x) read refused = tt
has_no_map file source bytes (Err trouble) read refused = no_map_of file source bytes trouble read refused

-- bytes that were read and make a map are the map of the file
pub map_read : {R : Type 0} (source : Reading R) (bytes : List ℕ) (map : List Run) → HasBytes (2 ^ 20) source bytes → Makes bytes map → HasMap source map
map_read source bytes map read makes = record { bytes = bytes; read = read; makes = makes }
