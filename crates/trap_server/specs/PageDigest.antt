-- The pages of a new enclave, measured as they are read.
use Rattle.std.specs.Prelude.{◌≡◌, ◌⊎◌, ℕ, ◌+◌, ◌/◌, ◌<◌, ◌≤◌, ◌^◌, List, [], ◌∷◌, ◌++◌, length}
use Rattle.std.specs.Prelude.{drop, Option, Result, Ok, Err}
use Rattle.std.specs.Io.KnownBytes.{Appends, Consumes, IsAtEnd}
use Rattle.text_lines.specs.Writings.{TakesPart}
use Rattle.measurement.specs.Measured.{digest_of}
use Rattle.measurement.specs.declared.request.Create.{Create}
use Rattle.measurement.specs.Digests.{layout_of}
use Rattle.trap_server.specs.Words.{bytes_of, word_at, measure_tag, page_tag}
use Rattle.trap_server.specs.FrameBytes.{Breaks}
use Rattle.trap_server.specs.declared.frame_fault.FrameFault.{FrameFault}
use Rattle.trap_server.specs.declared.frame_fault.FrameFault.TheVariants as faults

-- at most 1024 pages, within the address space
pub record HasParts (parts : Create) : Type 0 where
  pub few : parts.text_pages + parts.data_pages ≤ 1024
  pub inside : parts.base ≤ 2 ^ 56

-- the request for pages
abbrev pub question_bytes : ℕ → ℕ → List ℕ
question_bytes first count = bytes_of (measure_tag ∷ (first ∷ (count ∷ [])))

-- the request for the private pages of a creation
abbrev pub question_of : Create → List ℕ
question_of parts = question_bytes (parts.base / 4096) (parts.text_pages + parts.data_pages)

-- the frame is that of a page with these bytes
pub record IsPageFrame (frame : List ℕ) (page : ℕ) (bytes : List ℕ) : Type 0 where
  pub size : length frame ≡ 4112
  pub tag : word_at frame 0 ≡ page_tag
  pub number : word_at frame 1 ≡ page
  pub bytes_are : bytes ≡ drop 16 frame

-- the frames of consecutive pages, by rising number, and the bytes of each page
pub data ArePages (first : ℕ) : ℕ → List ℕ → List (List ℕ) → Type 0 where
  no_page : ArePages first 0 [] []
  next_page : {count : ℕ} {read : List ℕ} {pages : List (List ℕ)} → ArePages first count read pages
      → (frame bytes : List ℕ) → IsPageFrame frame (first + count) bytes
      → ArePages first (count + 1) (read ++ frame) (pages ++ (bytes ∷ []))

-- the bytes are not a page frame: they have its size but are invalid, or the input ends within it
abbrev pub IsNoPage : List ℕ → ℕ → Option (List ℕ) → Type 0
IsNoPage frame page after =
    ((length frame ≡ 4112) × ((bytes : List ℕ) → IsPageFrame frame page bytes → ⊥))
    ⊎ ((length frame < 4112) × IsAtEnd after)

-- the result of reading a page, by the bytes consumed
abbrev pub ReadsPage : Result (Unit {0}) FrameFault → ℕ → List ℕ → Option (List ℕ) → Option (List ℕ)
    → Type 0
ReadsPage (Ok done) page bytes before after = (frame : List ℕ) × IsPageFrame frame page bytes
    × Consumes before after frame
ReadsPage (Err faults.NotUnderstood) page bytes before after = (frame : List ℕ)
    × IsNoPage frame page after × Consumes before after frame
ReadsPage (Err faults.Read) page bytes before after = Breaks 4112 before after
ReadsPage (Err faults.Write) page bytes before after = ⊥

-- the frames of the first pages were read, and then bytes that are not a frame of the next
abbrev pub StopsAtPage : Create → List ℕ → Option (List ℕ) → Type 0
StopsAtPage parts came after =
    (k : ℕ) × (k < parts.text_pages + parts.data_pages) × (read bad : List ℕ)
    × (pages : List (List ℕ)) × ArePages (parts.base / 4096) k read pages
    × IsNoPage bad (parts.base / 4096 + k) after × (came ≡ read ++ bad)

-- the frames of the first pages were read, and then less than a frame of the next
abbrev pub BreaksAtPage : Create → List ℕ → Type 0
BreaksAtPage parts came =
    (k : ℕ) × (k < parts.text_pages + parts.data_pages) × (read part : List ℕ)
    × (pages : List (List ℕ)) × ArePages (parts.base / 4096) k read pages
    × (length part < 4112) × (came ≡ read ++ part)

-- the digest is that of the pages that were read, each once, by rising number. An invalid frame is
-- not one of the next page; if a read failed, less than that frame was read, and if a write failed,
-- nothing was read
abbrev pub Measures : Result (List ℕ) FrameFault → Create → Option (List ℕ) → Option (List ℕ)
    → Type 0
Measures (Ok digest) parts before after =
    (read : List ℕ) × (pages : List (List ℕ))
    × ArePages (parts.base / 4096) (parts.text_pages + parts.data_pages) read pages
    × Consumes before after read
    × (digest ≡ digest_of (layout_of parts) pages)
Measures (Err faults.NotUnderstood) parts before after = (read : List ℕ)
    × StopsAtPage parts read after × Consumes before after read
Measures (Err faults.Read) parts before after = (read : List ℕ) × BreaksAtPage parts read
    × Consumes before after read
Measures (Err faults.Write) parts before after = Consumes before after []

-- the request was written, or a part of it if a write failed
abbrev pub Asks : Result (List ℕ) FrameFault → Create → Option (List ℕ) → Option (List ℕ) → Type 0
Asks (Err faults.Write) parts held holds = TakesPart (question_of parts) held holds
Asks _ parts held holds = Appends held holds (question_of parts)
