-- The frames of pages as they are in memory, and what is read of them.
use Rattle.std.proofs.Common.{◌≡◌, ◌∙◌, ℕ, zero, suc, ◌+◌, List, [], ◌∷◌, ◌++◌, length, take, drop, refl, ap, ap₂, sym, subst, arith}
use Rattle.std.proofs.lemmas.List.{length-append}
use Rattle.std.proofs.Math.Seq.{drop-append_seam, take-append_seam}
use Rattle.measurement.specs.Digests.{pages_from}
use Rattle.trap_server.specs.PageDigest.{ArePages, IsPageFrame, no_page, next_page}
use Rattle.trap_server.specs.Words.{page_tag, word_at}
use Rattle.board.proofs.FrameWords.{bytes_for, read_back}

-- the frame of a page
abbrev page_frame : ℕ → List ℕ → List ℕ
page_frame page bytes = bytes_for 7 page_tag ++ (bytes_for 7 page ++ bytes)

-- the frames of pages, by rising number
abbrev pub page_frames : (ℕ → List ℕ) → ℕ → ℕ → List ℕ
page_frames pages first zero = []
page_frames pages first (suc count) = page_frames pages first count ++ page_frame (first + count) (pages (first + count))

frame_of : (page : ℕ) (bytes : List ℕ) → length bytes ≡ 4096 → IsPageFrame (page_frame page bytes) page bytes
frame_of page bytes size = record {
  size = omega (arith, size);
  tag = read_back 7 page_tag (bytes_for 7 page ++ bytes);
  number = read_back 7 page bytes;
  bytes_are = refl;
}

pub next : (count : ℕ) → suc count ≡ count + 1
next count = omega arith

pub frames_are : (pages : ℕ → List ℕ) (first count : ℕ) → ((page : ℕ) → length (pages page) ≡ 4096)
    → ArePages first count (page_frames pages first count) (pages_from pages first count)
frames_are pages first zero whole = no_page
frames_are pages first (suc count) whole =
    subst (λ n. ArePages first n (page_frames pages first (suc count)) (pages_from pages first (suc count))) (sym (next count))
    (next_page (frames_are pages first count whole) (page_frame (first + count) (pages (first + count))) (pages (first + count))
    (frame_of (first + count) (pages (first + count)) (whole (first + count))))

-- two lists with ends of one length are the same in both parts
pub ends : (xs ys a b : List ℕ) → length a ≡ length b → xs ++ a ≡ ys ++ b → (xs ≡ ys) × (a ≡ b)
ends xs ys a b size same =
    let all : length (xs ++ a) ≡ length (ys ++ b) = ap length same in
    let left = length-append xs a in
    let right = length-append ys b in
    let front : length xs ≡ length ys = omega (arith, size, all, left, right) in (
      sym (take-append_seam xs a) ∙ ap (take (length xs)) same ∙ ap (λ n. take n (ys ++ b)) front ∙ take-append_seam ys b,
      sym (drop-append_seam xs a) ∙ ap (drop (length xs)) same ∙ ap (λ n. drop n (ys ++ b)) front ∙ drop-append_seam ys b,
    )

pub no_frame : {P : Type 0} (read frame : List ℕ) → length frame ≡ 4112 → read ++ frame ≡ [] → P
no_frame read frame size none =
    let all : length (read ++ frame) ≡ 0 = ap length none in
    let parts = length-append read frame in
    absurd (omega (arith, size, all, parts))

-- whichever pages are read in these frames, their bytes are those
pub frames_read : (pages : ℕ → List ℕ) (first : ℕ) → ((page : ℕ) → length (pages page) ≡ 4096) → (from count many : ℕ) (read : List ℕ) (got : List (List ℕ))
    → read ≡ page_frames pages first count → ArePages from many read got → got ≡ pages_from pages from many
frames_read pages first whole from count _ _ _ is no_page = refl
frames_read pages first whole from zero _ _ _ is (next_page {count = many} {read = read} {pages = got} are frame bytes frame_is) =
    no_frame read frame frame_is.size is
frames_read pages first whole from (suc count) _ _ _ is (next_page {count = many} {read = read} {pages = got} are frame bytes frame_is) =
    let page = first + count in
    let own = frame_of page (pages page) (whole page) in
    let parts = ends read (page_frames pages first count) frame (page_frame page (pages page)) (frame_is.size ∙ sym own.size) is in
    let same : page ≡ from + many = sym own.number ∙ ap (λ f. word_at f 1) (sym parts.1) ∙ frame_is.number in
    let held : bytes ≡ pages (from + many) = frame_is.bytes_are ∙ ap (drop 16) parts.1 ∙ sym own.bytes_are ∙ ap pages same in
    subst (λ n. got ++ bytes ∷ [] ≡ pages_from pages from n) (next many)
    (ap₂ (λ ps b. ps ++ b ∷ []) (frames_read pages first whole from count many read got parts.0 are) held)
