-- The table of a map in each format.
use Rattle.std.specs.Prelude.{◌≡◌, ℕ, ◌^◌, List, length}
use Rattle.pmp_encoding.specs.declared.limit.Limit.{Limit}
use Rattle.pmp_encoding.specs.declared.region.Entry.{Entry}
use Rattle.pmp_encoding.specs.Views.{View}
use Rattle.pmp_match.specs.Lists.{matched_by}
use Rattle.map_table.specs.declared.stretch.Stretch.{Stretch}
use Rattle.map_table.specs.Stretches.{AreStretches}
use Rattle.map_table.specs.JsonTables.{json_text}

-- the object of all stretches of a view by entries
pub record IsJsonTable (view : View) (entries : List Entry) (limit : Limit) (text : List ℕ) :
    Type 0 where
  pub stretches : List Stretch
  pub are_stretches : AreStretches view (matched_by entries) 0 stretches (2 ^ 56)
  pub lines : text ≡ json_text (matched_by entries) stretches (length entries) limit
