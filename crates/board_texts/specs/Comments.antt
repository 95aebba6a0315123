-- The comments on the ranges of a board.
use Rattle.std.specs.Prelude.{ℕ, ◌+◌, ◌%◌, ◌==◌, Bool, true, false, cond, not, ◌&&◌, ltb}
use Rattle.std.specs.Prelude.{List, [], ◌∷◌, ◌++◌, length, map, take, codes}
use Rattle.std.specs.List.{list_any}
use Rattle.pmp_encoding.specs.declared.pages.PageRange.{PageRange}
use Rattle.pmp_encoding.specs.declared.perm.Perm.{Perm}
use Rattle.pmp_encoding.specs.declared.perm.Perm.TheVariants.{ReadWrite, ReadWriteExecute}
use Rattle.permission_map.specs.declared.runs.Run.{Run}
use Rattle.device_tree.specs.declared.reservations.Reservation.{Reservation}
use Rattle.device_tree.specs.declared.rows.Extent.{Extent}
use Rattle.device_tree.specs.declared.kinds.Kind.{Kind}
use Rattle.device_tree.specs.declared.kinds.Kind.TheVariants.{Memory, Device, Machine}
use Rattle.device_tree.specs.declared.kinds.Kind.TheVariants.{Reserved, Hart, Untranslated}
use Rattle.device_tree.specs.Meaning.{Range}
use Rattle.text_lines.specs.Pieces.{address_text}
use Rattle.board_texts.specs.Pages.{pages_of}

-- a byte of a name in printable form: `?` if it is not visible ASCII
abbrev pub plain : ℕ → ℕ
plain byte = cond (ltb 32 byte && ltb byte 127) byte 63

-- a name in printable form, truncated if it is long
abbrev pub name_text : List ℕ → List ℕ
name_text name = cond (ltb 32 (length name)) (map plain (take 32 name) ++ codes "..")
    (map plain name)

-- the word for a kind of range
abbrev pub kind_text : Kind → List ℕ
kind_text Memory = codes "memory"
kind_text Device = codes "device"
kind_text Machine = codes "machine mode's"
kind_text Reserved = codes "no-map"
kind_text Hart = codes "hart"
kind_text Untranslated = codes "on its bus"

-- an extent begins and ends at page boundaries
abbrev pub is_paged : Extent → Bool
is_paged extent = extent.base % 4096 == 0 && extent.size % 4096 == 0

-- the note on a range that does not consist of whole pages
abbrev pub rest_text : Kind → List ℕ
rest_text Memory = codes ", of it the whole pages"
rest_text Device = codes ", with the rest of its pages"
rest_text Machine = codes ", with the rest of its pages"
rest_text Reserved = codes ", with the rest of its pages"
rest_text Hart = []
rest_text Untranslated = []

-- the note on the pages of a range, which is empty if it consists of whole pages
abbrev pub pages_text : Range → List ℕ
pages_text range = cond (is_paged range.extent) [] (rest_text range.kind)

-- a base and a size
abbrev pub extent_text : Extent → List ℕ
extent_text extent = address_text extent.base ++ (codes " " ++ address_text extent.size)

-- the description of a range: its node, kind and extent
unfoldable pub range_text : Range → List ℕ
range_text range = name_text range.name ++ (codes ": " ++ (kind_text range.kind ++ (codes " "
    ++ (extent_text range.extent ++ pages_text range))))

-- memory gives runs with all permissions, and devices give runs that are read and written
abbrev pub gives : Kind → Perm → Bool
gives Memory ReadWriteExecute = true
gives Device ReadWrite = true
gives _ _ = false

-- a run contains one of the pages
abbrev pub meets : PageRange → Run → Bool
meets pages run = ltb 0 pages.count && (ltb pages.first (run.first + run.count)
    && ltb run.first (pages.first + pages.count))

-- the run contains pages of the range
abbrev pub is_from : Run → Range → Bool
is_from run range = gives range.kind run.perm && meets (pages_of range) run

-- the comment on a range
abbrev pub named_text : Range → List ℕ
named_text range = codes "# " ++ (range_text range ++ codes "\n")

-- the comment on a range if the run contains pages of it, otherwise empty
abbrev pub comment_text : Run → Range → List ℕ
comment_text run range = cond (is_from run range) (named_text range) []

-- the comments on all ranges that have pages in a run
abbrev pub comments_on : Run → List Range → List ℕ
comments_on run [] = []
comments_on run (range ∷ ranges) = comment_text run range ++ comments_on run ranges

-- the reason why a range is left out
unfoldable pub left_reason : Kind → List ℕ
left_reason Memory = codes "; no whole page of it is left\n"
left_reason Device = codes "; it has no page that is neither memory nor denied\n"
left_reason Machine = codes "; it is the timer of harts or interrupts them\n"
left_reason Reserved = codes "; nothing else is to map it\n"
left_reason Hart = codes "\n"
left_reason Untranslated = codes "; no bus translates it to an address of the root\n"

-- a range is left out: no run contains a page of it, and it is not a hart
abbrev pub is_left : List Run → Kind → Range → Bool
is_left runs Hart range = false
is_left runs Memory range = not (list_any (λ run. is_from run range) runs)
is_left runs Device range = not (list_any (λ run. is_from run range) runs)
is_left runs Machine range = true
is_left runs Reserved range = true
is_left runs Untranslated range = true

-- the comment on a range that is left out, with the reason
abbrev pub left_out_text : Range → List ℕ
left_out_text range = codes "# left out: " ++ (range_text range ++ left_reason range.kind)

-- this comment if the range is left out, otherwise empty
abbrev pub left_text : List Run → Range → List ℕ
left_text runs range = cond (is_left runs range.kind range) (left_out_text range) []

-- the comments on all ranges that are left out
abbrev pub lefts_text : List Run → List Range → List ℕ
lefts_text runs [] = []
lefts_text runs (range ∷ ranges) = left_text runs range ++ lefts_text runs ranges

-- the comment on a memory reservation, which a kernel respects without PMP
abbrev pub reservation_text : Reservation → List ℕ
reservation_text one = codes "# not left out: /memreserve/ " ++ (address_text one.address
    ++ (codes " " ++ (address_text one.size ++ codes "; a kernel keeps off it by itself\n")))

-- all memory reservations
abbrev pub reservations_text : List Reservation → List ℕ
reservations_text [] = []
reservations_text (first ∷ later) = reservation_text first ++ reservations_text later
