-- Pages in groups of 64 adjacent ones, and groups in spans of 64.
use Rattle.std.specs.Prelude.{ℕ, ◌/◌, ◌%◌, Bool, List, Option, None, Some, is_some, slice_index}
use Rattle.std.specs.Prelude.{slice_index_or}
use Rattle.std.specs.Ordering.{nat_cmp}
use Rattle.std.specs.BTreeMap.{get}
use Rattle.std.specs.declared.boxed.Box.{Box}
use Rattle.hart_sim.specs.declared.page_group.PageGroup.{PageGroup}
use Rattle.hart_sim.specs.declared.page_span.PageSpan.{PageSpan}
use Rattle.hart_sim.specs.declared.memory.Memory.{Memory}

-- the bytes of a page, if it has been written
abbrev pub bytes_of : {A : Type 0} → Option (Box (List ℕ) A) → Option (List ℕ)
bytes_of None = None
bytes_of (Some page) = Some page.value

-- the bytes of the page at a place in a group, if it has been written
abbrev pub page_at : PageGroup → ℕ → Option (List ℕ)
page_at group place = bytes_of (slice_index_or group.pages place None)

-- the same, if the group exists
abbrev pub page_of : {A : Type 0} → Option (Box PageGroup A) → ℕ → Option (List ℕ)
page_of None place = None
page_of (Some group) place = page_at group.value place

-- the group exists
abbrev pub has_group : PageSpan → ℕ → Bool
has_group span group = is_some (slice_index_or span.groups group None)

-- the bytes of the page at a place in a span, if it has been written
abbrev pub page_on : PageSpan → ℕ → Option (List ℕ)
page_on span place = page_of (slice_index_or span.groups (place / 64) None) (place % 64)

-- the same, if the span exists
abbrev pub page_within : {A : Type 0} → Option (Box PageSpan A) → ℕ → Option (List ℕ)
page_within None place = None
page_within (Some span) place = page_on span.value place

-- the bytes of a page of the memory, if it has been written
abbrev pub page_in : Memory → ℕ → Option (List ℕ)
page_in memory page = page_within (get nat_cmp memory.spans (page / 4096)) (page % 4096)

-- the span exists
abbrev pub has_span : Memory → ℕ → Bool
has_span memory span = is_some (get nat_cmp memory.spans span)

-- a byte of a page, or 0 if the page has not been written
abbrev pub byte_in : Option (List ℕ) → ℕ → ℕ
byte_in None at = 0
byte_in (Some page) at = slice_index page at
