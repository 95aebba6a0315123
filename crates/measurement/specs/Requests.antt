-- The parameters of an enclave's creation: its pages, and the conditions on its numbers.
use Rattle.std.specs.Prelude.{◌≡◌, ℕ, ◌+◌, ◌/◌, ◌≤◌, Bool, true, ◌||◌, ◌==◌, cond, ◌*◌, ◌%◌, ◌^◌}
use Rattle.std.specs.Prelude.{◌<◌}
use Rattle.pmp_encoding.specs.Views.{in_range}
use Rattle.measurement.specs.declared.request.Create.{Create}

-- the request in stored form: without shared pages the shared base is 0, whatever was given
abbrev pub parts_of : Create → Create
parts_of asked = record asked { shared_base = cond (asked.shared_count == 0) 0 asked.shared_base }

-- the page is private: one of text, or of the data right after it
abbrev pub is_private : Create → ℕ → Bool
is_private parts page = in_range (parts.base / 4096) (parts.text_pages + parts.data_pages) page

-- the page is shared with the host
abbrev pub is_shared : Create → ℕ → Bool
is_shared parts page = in_range (parts.shared_base / 4096) parts.shared_count page

-- the page is private or shared
abbrev pub is_part : Create → ℕ → Bool
is_part parts page = is_private parts page || is_shared parts page

-- two enclaves have no page in common
abbrev pub ArePartsApart : Create → Create → Type 0
ArePartsApart parts other = (page : ℕ) → is_part parts page ≡ true → is_part other page ≡ true → ⊥

-- the enclave has some text, at most 1024 private pages, and at most 256 shared pages
pub record HasCounts (parts : Create) : Type 0 where
  pub text : 0 < parts.text_pages
  pub few_private : parts.text_pages + parts.data_pages ≤ 1024
  pub few_shared : parts.shared_count ≤ 256

-- both ranges of pages begin at a multiple of 4096 and end at 2 ^ 56 at most
pub record HasPlaces (parts : Create) : Type 0 where
  pub private : (parts.base % 4096 ≡ 0)
      × (parts.base + (parts.text_pages + parts.data_pages) * 4096 ≤ 2 ^ 56)
  pub shared : (parts.shared_base % 4096 ≡ 0)
      × (parts.shared_base + parts.shared_count * 4096 ≤ 2 ^ 56)

-- the entry point is even and in the text
pub record HasEntry (parts : Create) : Type 0 where
  pub even : parts.entry_offset % 2 ≡ 0
  pub in_text : parts.entry_offset < parts.text_pages * 4096
