-- The view of a board.
use Rattle.std.specs.Prelude.{ℕ, Bool, true, false, cond, not, ◌&&◌, List}
use Rattle.std.specs.List.{list_any}
use Rattle.pmp_encoding.specs.declared.pages.PageRange.{PageRange}
use Rattle.pmp_encoding.specs.declared.perm.Perm.{Perm}
use Rattle.pmp_encoding.specs.declared.perm.Perm.TheVariants.{NoAccess, ReadWrite}
use Rattle.pmp_encoding.specs.declared.perm.Perm.TheVariants.{ReadWriteExecute}
use Rattle.pmp_encoding.specs.Views.{in_range}
use Rattle.device_tree.specs.declared.kinds.Kind.{Kind}
use Rattle.device_tree.specs.declared.kinds.Kind.TheVariants.{Memory, Device, Machine}
use Rattle.device_tree.specs.declared.kinds.Kind.TheVariants.{Reserved}
use Rattle.device_tree.specs.Meaning.{Range}
use Rattle.board_texts.specs.declared.view.Layer.{Layer}
use Rattle.board_texts.specs.declared.view.Layer.TheVariants.{Devices, Ram, Denied}
use Rattle.board_texts.specs.Pages.{pages_of}

-- the layer of each kind: devices; memory; and denied ranges, which are reserved memory and machine
-- mode's devices
abbrev pub is_in : Layer → Kind → Bool
is_in Devices Device = true
is_in Ram Memory = true
is_in Denied Machine = true
is_in Denied Reserved = true
is_in _ _ = false

-- the permission of a layer
abbrev pub perm_of : Layer → Perm
perm_of Devices = ReadWrite
perm_of Ram = ReadWriteExecute
perm_of Denied = NoAccess

-- a range of the layer contains the page
abbrev pub covers : Layer → ℕ → Range → Bool
covers layer page range = is_in layer range.kind
    && in_range (pages_of range).first (pages_of range).count page

-- one of the ranges of the layer contains the page
abbrev pub is_covered : Layer → List Range → ℕ → Bool
is_covered layer ranges page = list_any (covers layer page) ranges

-- a view overwritten by a layer, except on the pages in `kept`
abbrev pub laid : Layer → PageRange → List Range → (ℕ → Perm) → ℕ → Perm
laid layer kept ranges view page = cond
    (is_covered layer ranges page && not (in_range kept.first kept.count page)) (perm_of layer)
    (view page)

-- no pages
abbrev pub nowhere : PageRange
nowhere = record { first = 0; count = 0 }

-- the view of a board: denied pages, unless they are in `kept`, allow nothing; otherwise memory
-- allows everything, and devices allow reads and writes
abbrev pub board_view : PageRange → List Range → ℕ → Perm
board_view kept ranges = laid Denied kept ranges (laid Ram nowhere ranges
    (laid Devices nowhere ranges (λ page. NoAccess)))
