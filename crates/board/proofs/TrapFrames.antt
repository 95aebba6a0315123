-- The frame of a trap.
use Rattle.std.proofs.Common.{◌≡◌, ◌∙◌, ℕ, zero, suc, ◌+◌, ◌-◌, ◌<◌, ◌≤◌, List, [], ◌∷◌, ◌++◌, length, slice_index, refl, ap, sym, arith}
use Rattle.sbi_decode.specs.Registers.{RegisterFile, x_of}
use Rattle.trap_server.specs.Traps.{IsTagOf, IsTrapFrame}
use Rattle.trap_server.specs.Words.{call_tag, stop_tag, word_at}
use Rattle.trap_server.specs.declared.trap.Trap.{Trap}
use Rattle.trap_server.specs.declared.trap.TrapEvent.{TrapEvent}
use Rattle.trap_server.specs.declared.trap.TrapEvent.TheVariants.{Call, Stop}
use Rattle.trap_server.specs.declared.host_words.HostWords.{HostWords}
use Rattle.board.proofs.FrameWords.{frame_words, length_words, word_back}

abbrev tag_of : TrapEvent → ℕ
tag_of Call = call_tag
tag_of Stop = stop_tag

tag_is : (event : TrapEvent) (tag : ℕ) → tag ≡ tag_of event → IsTagOf event tag
tag_is Call tag is = is
tag_is Stop tag is = is

-- registers from number i on
abbrev xs_from : RegisterFile → ℕ → ℕ → List ℕ
xs_from file i zero = []
xs_from file i (suc n) = x_of file i ∷ xs_from file (suc i) n

x_at : (file : RegisterFile) (i n j : ℕ) (rest : List ℕ) → j < n → slice_index (xs_from file i n ++ rest) j ≡ x_of file (i + j)
x_at file i zero j rest low = absurd (omega (arith, low))
x_at file i (suc n) zero rest low = let e : i ≡ i + 0 = omega arith in ap (x_of file) e
x_at file i (suc n) (suc j) rest low =
    let e : suc i + j ≡ i + suc j = omega arith in
    x_at file (suc i) n j rest (omega (arith, low)) ∙ ap (x_of file) e

abbrev pub trap_on : TrapEvent → ℕ → RegisterFile → HostWords → Trap
trap_on event hart file host = record { event = event; hart = hart; registers = file; host = host }

abbrev last_words : HostWords → List ℕ
last_words host = host.mie ∷ (host.scounteren ∷ [])

abbrev trap_words : TrapEvent → ℕ → RegisterFile → HostWords → List ℕ
trap_words event hart file host = tag_of event ∷ (hart ∷ (xs_from file 10 8 ++ last_words host))

abbrev pub trap_frame : TrapEvent → ℕ → RegisterFile → HostWords → List ℕ
trap_frame event hart file host = frame_words (trap_words event hart file host)

module _ (event : TrapEvent) (hart : ℕ) (file : RegisterFile) (host : HostWords) where
  abbrev words : List ℕ
  words = trap_words event hart file host

  abbrev frame : List ℕ
  frame = trap_frame event hart file host

  size_of : length words ≡ 12
  size_of = refl

  pub frame_size : length frame ≡ 96
  frame_size =
      let all = length_words words in
      let many = size_of in
      omega (arith, all, many)

  word_in : (k : ℕ) → k < 12 → word_at frame k ≡ slice_index words k
  word_in k low = let many = size_of in word_back words k (omega (arith, low, many))

  x_in : (n : ℕ) → 10 ≤ n → n < 18 → x_of file n ≡ word_at frame (n - 8)
  x_in n low high =
      let m = n - 10 in
      let place : n - 8 ≡ suc (suc m) = omega (arith, low) in
      let number : 10 + m ≡ n = omega (arith, low) in
      sym (ap (word_at frame) place ∙ word_in (suc (suc m)) (omega (arith, low, high))
      ∙ x_at file 10 8 m (last_words host) (omega (arith, low, high)) ∙ ap (x_of file) number)

  pub frame_is : (harts : ℕ) → hart < harts → IsTrapFrame frame harts (trap_on event hart file host)
  frame_is harts known = record {
    tag = tag_is event (word_at frame 0) (word_in 0 (omega arith));
    hart = word_in 1 (omega arith);
    known = known;
    call = x_in;
    mie = sym (word_in 10 (omega arith));
    scounteren = sym (word_in 11 (omega arith));
  }
