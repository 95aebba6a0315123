-- The measurement of an enclave.
use Rattle.std.specs.Prelude.{ℕ, ◌+◌, ◌/◌, List, [], ◌∷◌, zero, suc, ◌++◌, replicate}
use Rattle.measurement.specs.Measured.{digest_of}
use Rattle.measurement.specs.declared.measured.Layout.{Layout}
use Rattle.measurement.specs.declared.request.Create.{Create}

-- the bytes of `count` pages from `first` on, by ascending address
abbrev pub pages_from : (ℕ → List ℕ) → ℕ → ℕ → List (List ℕ)
pages_from pages first zero = []
pages_from pages first (suc count) = pages_from pages first count ++ (pages (first + count) ∷ [])

-- the bytes of a page that was never written
abbrev pub blank_page : List ℕ
blank_page = replicate 4096 0

-- the measured layout
abbrev pub layout_of : Create → Layout
layout_of parts =
    record {
      text_pages = parts.text_pages;
      data_pages = parts.data_pages;
      shared_count = parts.shared_count;
      entry_offset = parts.entry_offset;
    }

-- the digest of an enclave with these parts, over the current contents of its private pages. The
-- base is not measured
abbrev pub measured : (ℕ → List ℕ) → Create → List ℕ
measured pages parts =
    digest_of (record {
      text_pages = parts.text_pages;
      data_pages = parts.data_pages;
      shared_count = parts.shared_count;
      entry_offset = parts.entry_offset;
    })
    (pages_from pages (parts.base / 4096) (parts.text_pages + parts.data_pages))
