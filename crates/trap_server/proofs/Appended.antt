-- Words that were appended one after another.
use Rattle.std.proofs.Common.{◌≡◌, ◌∙◌, ℕ, ◌+◌, ◌*◌, List, [], take, ◌∷◌, ◌++◌, ap, sym, append_assoc, append-nil}
use Rattle.byteorder.specs.Endian.{little_bytes}
use Rattle.pmp_encoding.specs.declared.pages.PageRange.{PageRange}
use Rattle.trap_server.specs.Words.{answer_tag, bytes_of}
use Rattle.trap_server.specs.Answers.{control_count, head_bytes, list_count, pages_of, wake_word}
use Rattle.monitor_core.specs.Answers.{world_number}
use Rattle.trap_server.specs.declared.answer.Head.{Head}

-- nothing more was
pub no_more : (frame : List ℕ) → frame ≡ frame ++ bytes_of []
no_more frame = sym (append-nil frame)

-- a word was, and then some others
pub one_word : (old now new : List ℕ) (word : ℕ) (words : List ℕ) → now ≡ old ++ little_bytes 8 word → new ≡ now ++ bytes_of words
    → new ≡ old ++ bytes_of (word ∷ words)
one_word old now new word words first rest = rest ∙ ap (λ xs. xs ++ bytes_of words) first ∙ append_assoc old (little_bytes 8 word) (bytes_of words)

-- a part was, and then another
pub two_parts : (old now new first second : List ℕ) → now ≡ old ++ first → new ≡ now ++ second → new ≡ old ++ (first ++ second)
two_parts old now new first second a b = b ∙ ap (λ xs. xs ++ second) a ∙ append_assoc old first second

-- the words of a head, each as it was made
pub head_is :
    (old new : List ℕ) (head : Head) (hart world wake : ℕ) (pages : PageRange) (count control : ℕ) → hart ≡ head.hart → world ≡ world_number head.world
    → pages ≡ pages_of head.zero → wake ≡ wake_word head.woken → count ≡ list_count head.lists → control ≡ control_count head.given → new ≡ old ++ bytes_of
    (answer_tag ∷ (hart ∷ (world ∷ (head.status ∷ (head.value ∷ (head.used ∷ (pages.first ∷ (pages.count ∷ (wake ∷ (count ∷ (control ∷ [])))))))))))
    → new ≡ old ++ head_bytes head
head_is old new head hart world wake pages count control h w p k n c is = rw (h, w, p, k, n, c) at is

-- a word more after a front
pub word_more :
    (old new start part word : List ℕ) (n k m : ℕ) → 8 * k ≡ n → m ≡ 8 * k + 8 → take n old ≡ start ++ part → take (8 * k + 8) new ≡ take (8 * k) old ++ word
    → take m new ≡ start ++ (part ++ word)
word_more old new start part word n k m from to front more =
    ap (λ i. take i new) to ∙ more ∙ ap (λ i. take i old ++ word) from ∙ ap (λ xs. xs ++ word) front ∙ append_assoc start part word
