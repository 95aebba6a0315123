-- The plan of the map that a source contains, printed.
use Rattle.std.specs.Prelude.{ℕ, ◌<◌, ◌≤◌, ◌^◌, List, Option, length}
use Rattle.std.specs.Io.KnownBytes.{Consumes, IsAtEnd}
use Rattle.text_lines.specs.Writings.{Breaks, TakesAll, Writing}
use Rattle.pmp_encoding.specs.declared.limit.Limit.TheVariants.{Sixteen}
use Rattle.pmp_encoding.specs.declared.region.Entry.{Entry}
use Rattle.pmp_match.specs.Meaning.{IsFewest, Needs}
use Rattle.permission_map.specs.declared.runs.Run.{Run}
use Rattle.permission_map.specs.Runs.{view_of_runs}
use Rattle.prefix_tree.specs.TreeOf.{tree_of}
use Rattle.entry_planner.specs.Choice.{AreChosen}
use Rattle.entry_planner.specs.Order.{AreInOrder}
use Rattle.map_text.specs.MapFile.{FaultAt, Makes}
use Rattle.map_text.specs.Plans.{IsPlanText}
use Rattle.pmp_encoding.specs.declared.xlen.Xlen.TheVariants.{Rv64}

-- the plan of the map in the bytes of a map file: among the lists of fewest entries the one that is
-- chosen, in its order; a hart with sixteen entries has room for it
pub record IsPlanOf (bytes : List ℕ) (entries : List Entry) : Type 0 where
  pub map : List Run
  pub makes : Makes bytes map
  pub fewest : IsFewest (view_of_runs map) entries
  pub chosen : AreChosen (tree_of (view_of_runs map)) entries
  pub order : AreInOrder entries
  pub fits : length entries ≤ 16

-- a source was read to its end, and has at most 1 MiB
pub record IsRead (before after : Option (List ℕ)) (bytes : List ℕ) : Type 0 where
  pub consumed : Consumes before after bytes
  pub at_end : IsAtEnd after
  pub few : length bytes ≤ 2 ^ 20

-- a source has more than 1 MiB
abbrev pub IsTooLarge : Option (List ℕ) → Option (List ℕ) → Type 0
IsTooLarge before after = (bytes : List ℕ) × Consumes before after bytes × (2 ^ 20 < length bytes)

-- the first invalid line of a map file that was read to its end
abbrev pub HasFault : Option (List ℕ) → Option (List ℕ) → ℕ
    → (List Run → Option (Option Run) → Type 0) → Type 0
HasFault before after n fault = (bytes : List ℕ) × IsRead before after bytes × FaultAt bytes n fault

-- the map in the bytes of a map file needs more than sixteen entries
abbrev pub NeedsMore : List ℕ → Type 0
NeedsMore bytes = (map : List Run) × Makes bytes map × (n : ℕ) × Needs (view_of_runs map) n
    × (16 < n)

-- a source was read to its end, and the text is the plan of its map for an RV64 hart with sixteen
-- entries
pub record IsPlanTextOf (before after : Option (List ℕ)) (text : List ℕ) : Type 0 where
  pub bytes : List ℕ
  pub read : IsRead before after bytes
  pub entries : List Entry
  pub plan : IsPlanOf bytes entries
  pub printed : IsPlanText Rv64 Sixteen 0 entries text

-- the plan of a source's map was written whole
abbrev pub PrintsPlan : {W : Type 0} → Option (List ℕ) → Option (List ℕ) → Writing W → Type 0
PrintsPlan before after out = (text : List ℕ) × IsPlanTextOf before after text × TakesAll text out

-- a proper prefix of the plan was written
abbrev pub BreaksOff : {W : Type 0} → Option (List ℕ) → Option (List ℕ) → Writing W → Type 0
BreaksOff before after out = (text : List ℕ) × IsPlanTextOf before after text × Breaks text out
