-- Location of the key or the table of a breach in the text of a platform file.
use Rattle.std.specs.Prelude.{◌≡◌, ◌≢◌, ◌⊎◌, ◌+◌, ◌≤◌, ◌==◌, ◌||◌, ℕ, Bool, true}
use Rattle.std.specs.Prelude.{false, List, [], ◌∷◌, Option, Some, None, codes, drop, length, take}
use Rattle.std.specs.Prelude.{option_map}
use Rattle.std.specs.Char.{is_ascii_alphanumeric}
use Rattle.std.specs.List.{list_any, prefix_len}
use Rattle.text_lines.specs.Lines.{raw_lines}
use Rattle.text_lines.specs.Words.{is_blank}
use Rattle.platforms.specs.declared.platform.PlatformFault.{PlatformFault}
use Rattle.platforms.specs.declared.platform.PlatformFault.TheVariants.{MonitorNotRam, BadHarts}
use Rattle.platforms.specs.declared.platform.PlatformFault.TheVariants.{BadEntries}
use Rattle.input_files.specs.Breaches.{key_name}
use Rattle.input_files.specs.declared.breach.TomlPath.{TomlPath}
use Rattle.input_files.specs.declared.breach.TomlPath.TheVariants.{File, Monitor, Ram, Device}
use Rattle.input_files.specs.declared.breach.Breach.{Breach}
use Rattle.input_files.specs.declared.breach.Breach.TheVariants as breaches
use Rattle.input_files.specs.declared.key_places.Sought.{Sought}
use Rattle.input_files.specs.declared.key_places.Sought.TheVariants.{Header, KeyOf}
use Rattle.input_files.specs.declared.key_places.Tables.{Tables}

-- the name of a table, if it has one
abbrev pub table_word : TomlPath → Option (List ℕ)
table_word File = None
table_word Monitor = Some (codes "monitor")
table_word (Ram n) = Some (codes "ram")
table_word (Device n) = Some (codes "device")

-- the key that a broken rule concerns, if there is one
abbrev pub rule_word : PlatformFault → Option (List ℕ)
rule_word MonitorNotRam = Some (codes "monitor")
rule_word BadHarts = Some (codes "harts")
rule_word BadEntries = Some (codes "entries")
rule_word _ = None

-- the key or the name of the table that a breach concerns
abbrev pub word_about : Breach → Option (List ℕ)
word_about (breaches.Unknown table key) = Some key.now
word_about (breaches.Missing table key) = table_word table
word_about (breaches.NoNumber table key) = Some (key_name key)
word_about (breaches.NoPages table) = table_word table
word_about (breaches.NoPerm table) = Some (codes "perm")
word_about (breaches.NoTable table) = table_word table
word_about (breaches.NoTables key) = Some (key_name key)
word_about (breaches.Overlap one other) = table_word one.place
word_about (breaches.Rule fault) = rule_word fault

-- a text has a word after this many bytes
abbrev pub HasWordAt : List ℕ → ℕ → List ℕ → Type 0
HasWordAt text at word = (at + length word ≤ length text)
    × (take (length word) (drop at text) ≡ word)

-- the object that a breach concerns: a key of its table, or the header of that table
abbrev pub sought_by : Breach → Sought
sought_by (breaches.Unknown table key) = KeyOf table
sought_by (breaches.Missing table key) = Header table
sought_by (breaches.NoNumber table key) = KeyOf table
sought_by (breaches.NoPages table) = Header table
sought_by (breaches.NoPerm table) = KeyOf table
sought_by (breaches.NoTable table) = Header table
sought_by (breaches.NoTables key) = KeyOf File
sought_by (breaches.Overlap one other) = Header one.place
sought_by (breaches.Rule fault) = KeyOf File

-- a byte that can be part of a bare key of TOML: a letter, a digit, `_` or `-`
abbrev pub is_bare : ℕ → Bool
is_bare byte = is_ascii_alphanumeric byte || (byte == 95 || byte == 45)

-- the number of blanks and brackets at the front of a line
abbrev pub front_len : List ℕ → ℕ
front_len line = prefix_len (λ byte. is_blank byte || byte == 91) line

-- a bracket is among these: the line is the header of a table
abbrev pub is_header : List ℕ → Bool
is_header line = list_any (λ byte. byte == 91) (take (front_len line) line)

-- the name that follows these
abbrev pub name_of : List ℕ → List ℕ
name_of line = let rest = drop (front_len line) line in take (prefix_len is_bare rest) rest

-- the tables before the first line of a text
abbrev pub opening_tables : Tables
opening_tables = record { current = Some File; ram = 0; devices = 0 }

-- the state of the tables after the header with this name
abbrev pub Begins : List ℕ → Tables → Tables → Type 0
Begins name old new =
    ((name ≡ codes "monitor") × (new ≡ record old { current = Some Monitor }))
    ⊎ (((name ≡ codes "ram") × (new ≡ record old {
      current = Some (Ram (old.ram + 1));
      ram = old.ram + 1;
    }))
    ⊎ (((name ≡ codes "device") × (new ≡ record old {
      current = Some (Device (old.devices + 1));
      devices = old.devices + 1;
    }))
    ⊎ ((name ≢ codes "monitor") × (name ≢ codes "ram") × (name ≢ codes "device")
    × (new ≡ record old { current = None }))))

-- the state of the tables after a line, given whether it is a header
abbrev pub FollowsBy : Bool → List ℕ → Tables → Tables → Type 0
FollowsBy true line old new = Begins (name_of line) old new
FollowsBy false line old new = new ≡ old

-- the state of the tables after a line
abbrev pub Follows : List ℕ → Tables → Tables → Type 0
Follows line old new = FollowsBy (is_header line) line old new

-- a line with the right name matches, given whether it is a header: it is the header of the table,
-- or a key of it. A table may be a key of the file, and a key of the file may be a table
abbrev pub IsThere : Sought → Tables → Bool → Type 0
IsThere (Header table) tables true = tables.current ≡ Some table
IsThere (Header table) tables false = tables.current ≡ Some File
IsThere (KeyOf table) tables true = table ≡ File
IsThere (KeyOf table) tables false = tables.current ≡ Some table

-- a line matches
abbrev pub IsSought : Sought → List ℕ → Tables → List ℕ → Type 0
IsSought sought word tables line = (name_of line ≡ word) × IsThere sought tables (is_header line)

-- the first of some lines that matches has its name at this index
abbrev pub Finds : Sought → List ℕ → Tables → List (List ℕ) → Option ℕ → Type 0
Finds sought word old [] found = found ≡ None
Finds sought word old (line ∷ lines) found =
    (new : Tables) × Follows line old new
    × ((IsSought sought word new line × (found ≡ Some (front_len line)))
    ⊎ ((IsSought sought word new line → ⊥) × (later : Option ℕ)
    × Finds sought word new lines later
    × (found ≡ option_map (λ at. length line + 1 + at) later)))

-- a place is kept if the text contains the word there
abbrev pub IsKept : List ℕ → List ℕ → Option ℕ → Option ℕ → Type 0
IsKept text word None place = place ≡ None
IsKept text word (Some at) place = ((place ≡ Some at) × HasWordAt text at word)
    ⊎ ((place ≡ None) × (HasWordAt text at word → ⊥))

-- the index in a text of the object with this name, if there is one
abbrev pub IsPlaceOf : List ℕ → Sought → Option (List ℕ) → Option ℕ → Type 0
IsPlaceOf text sought None place = place ≡ None
IsPlaceOf text sought (Some word) place = (found : Option ℕ)
    × Finds sought word opening_tables (raw_lines text) found × IsKept text word found place
