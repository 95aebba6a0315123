-- Whether a call made an enclave, and the pages that are read for it.
use Rattle.std.proofs.Common.{◌≡◌, ◌⊎◌, ◌∙◌, inl, inr, ℕ, zero, suc, ℤ, pos, negsuc, ◌+◌, ◌*◌, ◌/◌, List, [], length, Option, Some, None, refl, ap, sym}
use Rattle.measurement.specs.Digests.{pages_from}
use Rattle.measurement.specs.Requests.{parts_of}
use Rattle.measurement.specs.declared.request.Create.{Create}
use Rattle.monitor_core.specs.Measured.{IsMade}
use Rattle.monitor_core.specs.declared.answer.Answer.{Answer}
use Rattle.hart_sim.specs.Memory.{bytes_at, measured_in}
use Rattle.trap_server.specs.PageDigest.{question_of}
use Rattle.trap_server.specs.Service.{AsksFor}
use Rattle.board.specs.Board.{ReadsMemory}
use Rattle.board.proofs.Follows.{digest_by}
use Rattle.board.proofs.PageFrames.{frames_are, frames_read, page_frames}

-- whether an enclave was made is known
abbrev Known : Option Create → Answer → Type 0
Known asked answer = ((parts : Create) × IsMade asked answer parts) ⊎ ((parts : Create) → IsMade asked answer parts → ⊥)

made_known : (asked : Option Create) (answer : Answer) → Known asked answer
made_known None answer = inr (λ parts m. m)
made_known (Some asked) answer = by_status answer.status refl
  where
    by_status : (status : ℤ) → answer.status ≡ status → Known (Some asked) answer
    by_status (pos zero) is = inl (parts_of asked, (refl, is))
    by_status (pos (suc n)) is = inr (λ parts m. let z : pos (suc n) ≡ pos 0 = sym is ∙ m.1 in cc)
    by_status (negsuc n) is = inr (λ parts m. let z : negsuc n ≡ pos 0 = sym is ∙ m.1 in cc)

-- the bytes of a page in memory
abbrev page_in : (ℕ → ℕ) → ℕ → List ℕ
page_in memory page = bytes_at memory (page * 4096) 4096

many_bytes : (memory : ℕ → ℕ) (address count : ℕ) → length (bytes_at memory address count) ≡ count
unfolding bytes_at
many_bytes memory address zero = refl
many_bytes memory address (suc count) = ap suc (many_bytes memory (address + 1) count)

whole : (memory : ℕ → ℕ) (page : ℕ) → length (page_in memory page) ≡ 4096
whole memory page = many_bytes memory (page * 4096) 4096

pub frames_of_memory : (memory : ℕ → ℕ) (first count : ℕ) → ReadsMemory memory (page_frames (page_in memory) first count)
frames_of_memory memory first count = λ from many pages are. frames_read (page_in memory) first (whole memory) from count many _ pages refl are

-- the question for pages and their frames, as memory has them
abbrev pub Asks : Option Create → Answer → (ℕ → ℕ) → Type 0
Asks asked answer memory =
    (question read : List ℕ) × AsksFor asked answer question read (digest_by (measured_in memory) asked) × ReadsMemory memory read

by_known : (asked : Option Create) (answer : Answer) (memory : ℕ → ℕ) → Known asked answer → Asks asked answer memory
by_known asked answer memory (inr not) = ([], [], inl (refl, refl, not), frames_of_memory memory 0 0)
by_known None answer memory (inl some) = absurd some.1
by_known (Some asked) answer memory (inl some) =
    let parts = some.0 in
    let first = parts.base / 4096 in
    let count = parts.text_pages + parts.data_pages in
    let read = page_frames (page_in memory) first count in (
      question_of parts,
      read,
      inr (
        parts,
        some.1,
        refl,
        pages_from (page_in memory) first count,
        frames_are (page_in memory) first count (whole memory),
        ap (measured_in memory) (sym some.1.0),
      ),
      frames_of_memory memory first count,
    )

pub asks : (asked : Option Create) (answer : Answer) (memory : ℕ → ℕ) → Asks asked answer memory
asks asked answer memory = by_known asked answer memory (made_known asked answer)
