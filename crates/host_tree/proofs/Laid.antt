-- The blocks of a whole tree.
use Rattle.std.proofs.Common.{◌≡◌, ℕ, ◌+◌, ◌*◌, ◌%◌, ◌^◌, ◌<◌, List, [], ◌∷◌, ◌++◌, length, drop, take, get_or, append_assoc, append-nil, length-append, sym, ap, subst, refl, ◌∙◌, arith}
use Rattle.device_tree.specs.declared.reservations.Reservation.{Reservation}
use Rattle.device_tree.specs.Nodes.{Tree, parts_of_tree}
use Rattle.device_tree.specs.Pieces.{Part, SpellsParts, the_end}
use Rattle.device_tree.specs.Trees.{BeginsWithReservations, SpellsTree, reservations_of, strings_of, structure_of}
use Rattle.device_tree.specs.Words.{double_word_at, word_at}
use Rattle.host_tree.specs.declared.header.Header.{Header}
use Rattle.host_tree.specs.Header.{header_words}
use Rattle.host_tree.specs.Written.{HasFree, SpellsFront, double_word_bytes, word_bytes, words_bytes}
use Rattle.host_tree.proofs.Numbers.{drop_front, length-double, length-word, length-words, read-double, take_front, words_at}
use Rattle.host_tree.proofs.Fronts.{word_front}

-- a reservation in front
pub pair_front : (address size : ℕ) (rest : List ℕ) (one : Reservation) (later : List Reservation) → address < 2 ^ 64 → size < 2 ^ 64
    → one.address ≡ address → one.size ≡ size → (address ≡ 0 → size ≡ 0 → ⊥) → BeginsWithReservations rest later
    → BeginsWithReservations ((double_word_bytes address ++ double_word_bytes size) ++ rest) (one ∷ later)
pair_front address size rest one later fa fs ea es no_end h =
    let a = double_word_bytes address in
    let s = double_word_bytes size in
    let assoc = append_assoc a s rest in
    let l1 = length-append (a ++ s) rest in
    let l2 = length-append a s in
    let both : length (a ++ s) ≡ 16 = omega (arith, l2, length-double address, length-double size) in (
      omega (arith, l1, both),
      ap (λ (x : List ℕ). double_word_at x 0) assoc ∙ read-double address (s ++ rest) fa ∙ sym ea,
      ap (λ (x : List ℕ). double_word_at x 8) assoc ∙ ap (λ (x : List ℕ). double_word_at x 0) (drop_front 8 a (s ++ rest) (length-double address))
          ∙ read-double size rest fs ∙ sym es,
      λ p q. no_end (sym ea ∙ p) (sym es ∙ q),
      subst (λ (x : List ℕ). BeginsWithReservations x later) (sym (drop_front 16 (a ++ s) rest both)) h,
    )

pub ends_front : (rest : List ℕ) → BeginsWithReservations ((double_word_bytes 0 ++ double_word_bytes 0) ++ rest) []
ends_front rest =
    let z = double_word_bytes 0 in
    let assoc = append_assoc z z rest in
    let l1 = length-append (z ++ z) rest in
    let l2 = length-append z z in (
      omega (arith, l1, l2, length-double 0),
      ap (λ (x : List ℕ). double_word_at x 0) assoc ∙ read-double 0 (z ++ rest) (omega arith),
      ap (λ (x : List ℕ). double_word_at x 8) assoc ∙ ap (λ (x : List ℕ). double_word_at x 0) (drop_front 8 z (z ++ rest) (length-double 0))
          ∙ read-double 0 rest (omega arith),
    )

-- a block in the middle
pub middle : (out a b d : List ℕ) (m n : ℕ) → out ≡ a ++ (b ++ d) → length a ≡ m → length b ≡ n → take n (drop m out) ≡ b
middle out a b d m n e la lb = ap (λ (x : List ℕ). take n (drop m x)) e ∙ ap (λ (x : List ℕ). take n x) (drop_front m a (b ++ d) la) ∙ take_front n b d lb

-- the numbers and blocks of a tree
pub record AreSizes (header : Header) (r b n z : List ℕ) : Type 0 where
  pub block : header.block ≡ 40 + length r
  pub aligned : header.block % 4 ≡ 0
  pub block_size : header.block_size ≡ length b + 4
  pub names : header.names ≡ header.block + header.block_size
  pub names_size : header.names_size ≡ length n
  pub size : header.size ≡ header.names + header.names_size + length z
  pub fits : header.size < 2 ^ 32

pub laid : Header → List ℕ → List ℕ → List ℕ → List ℕ → List ℕ
laid header reserved block names zeros = words_bytes (header_words header) ++ (reserved ++ ((block ++ word_bytes 9) ++ (names ++ zeros)))

pub laid_is : (h : Header) (r b n z : List ℕ) → laid h r b n z ≡ words_bytes (header_words h) ++ (r ++ ((b ++ word_bytes 9) ++ (n ++ z)))
unfolding laid
laid_is h r b n z = refl

pub length-laid : (h : Header) (r b n z : List ℕ) → AreSizes h r b n z → length (laid h r b n z) ≡ h.size
unfolding laid
length-laid h r b n z are =
    let l0 = length-append (words_bytes (header_words h)) (r ++ ((b ++ word_bytes 9) ++ (n ++ z))) in
    let l1 = length-append r ((b ++ word_bytes 9) ++ (n ++ z)) in
    let l2 = length-append (b ++ word_bytes 9) (n ++ z) in
    let l3 = length-append b (word_bytes 9) in
    let l4 = length-append n z in
    let l5 : length (words_bytes (header_words h)) ≡ 40 = length-words (header_words h) in
    omega (arith, l0, l1, l2, l3, l4, l5, length-word 9, are.block, are.block_size, are.names, are.names_size, are.size)

-- each number of the header
pub header_at : (h : Header) (r b n z : List ℕ) (k x : ℕ) → k < 10 → x < 2 ^ 32 → get_or (header_words h) k 0 ≡ x → word_at (laid h r b n z) (4 * k) ≡ x
unfolding laid
header_at h r b n z k x less fits is =
    words_at (header_words h) k (r ++ ((b ++ word_bytes 9) ++ (n ++ z))) less (subst (λ (y : ℕ). y < 2 ^ 32) (sym is) fits) ∙ is

-- what is free behind the names
pub free_left : (h : Header) (r b n z out : List ℕ) (free : ℕ) → out ≡ laid h r b n z → AreSizes h r b n z → length z ≡ free → HasFree out free
free_left h r b n z out free e are long =
    let len : length out ≡ h.size = ap length e ∙ length-laid h r b n z are in
    let names : word_at out 12 ≡ h.names = ap (λ (y : List ℕ). word_at y 12) e
    ∙ header_at h r b n z 3 h.names (omega arith) (omega (arith, are.fits, are.size)) refl in
    let names_size : word_at out 32 ≡ h.names_size = ap (λ (y : List ℕ). word_at y 32) e
    ∙ header_at h r b n z 8 h.names_size (omega arith) (omega (arith, are.fits, are.size)) refl in
    omega (arith, len, names, names_size, are.size, long)

behind_reserved : (h : Header) (r b n z : List ℕ) → laid h r b n z ≡ (words_bytes (header_words h) ++ r) ++ ((b ++ word_bytes 9) ++ (n ++ z))
unfolding laid
behind_reserved h r b n z = sym (append_assoc (words_bytes (header_words h)) r ((b ++ word_bytes 9) ++ (n ++ z)))

behind_block : (h : Header) (r b n z : List ℕ) → laid h r b n z ≡ ((words_bytes (header_words h) ++ r) ++ (b ++ word_bytes 9)) ++ (n ++ z)
behind_block h r b n z = behind_reserved h r b n z ∙ sym (append_assoc (words_bytes (header_words h) ++ r) (b ++ word_bytes 9) (n ++ z))

pub whole : (h : Header) (r b n z out : List ℕ) (tree : Tree) (list : List Reservation) → out ≡ laid h r b n z → AreSizes h r b n z
    → ((rest : List ℕ) → BeginsWithReservations (r ++ rest) list) → SpellsFront n b (parts_of_tree tree) → SpellsTree out tree list
unfolding laid
whole h r b n z out tree list e are reserved front =
    let head = words_bytes (header_words h) in
    let len : length out ≡ h.size = ap length e ∙ length-laid h r b n z are in
    let l5 : length head ≡ 40 = length-words (header_words h) in
    let l6 = length-append head r in
    let l7 = length-append b (word_bytes 9) in
    let l8 = length-append (head ++ r) (b ++ word_bytes 9) in
    let lw = length-word 9 in
    let at : (k x : ℕ) → k < 10 → x < 2 ^ 32 → get_or (header_words h) k 0 ≡ x → word_at out (4 * k) ≡ x =
    λ k x less fits is. ap (λ (y : List ℕ). word_at y (4 * k)) e ∙ header_at h r b n z k x less fits is in
    let magic : word_at out 0 ≡ 0xd00d_feed = at 0 0xd00d_feed (omega arith) (omega arith) refl in
    let size : word_at out 4 ≡ h.size = at 1 h.size (omega arith) are.fits refl in
    let block : word_at out 8 ≡ h.block = at 2 h.block (omega arith) (omega (arith, are.fits, are.size, are.names)) refl in
    let names : word_at out 12 ≡ h.names = at 3 h.names (omega arith) (omega (arith, are.fits, are.size)) refl in
    let reservations : word_at out 16 ≡ 40 = at 4 40 (omega arith) (omega arith) refl in
    let version : word_at out 20 ≡ 17 = at 5 17 (omega arith) (omega arith) refl in
    let oldest : word_at out 24 ≡ 16 = at 6 16 (omega arith) (omega arith) refl in
    let names_size : word_at out 32 ≡ h.names_size = at 8 h.names_size (omega arith) (omega (arith, are.fits, are.size)) refl in
    let block_size : word_at out 36 ≡ h.block_size = at 9 h.block_size (omega arith) (omega (arith, are.fits, are.size, are.names)) refl in
    let structure : structure_of out ≡ b ++ word_bytes 9 =
    ap (λ (x : ℕ). take x (drop (word_at out 8) out)) block_size ∙ ap (λ (x : ℕ). take h.block_size (drop x out)) block
    ∙ middle out (head ++ r) (b ++ word_bytes 9) (n ++ z) h.block h.block_size (e ∙ behind_reserved h r b n z)
    (omega (arith, l5, l6, are.block)) (omega (arith, l7, lw, are.block_size)) in
    let strings : strings_of out ≡ n =
    ap (λ (x : ℕ). take x (drop (word_at out 12) out)) names_size ∙ ap (λ (x : ℕ). take h.names_size (drop x out)) names
    ∙ middle out ((head ++ r) ++ (b ++ word_bytes 9)) n z h.names h.names_size (e ∙ behind_block h r b n z)
    (omega (arith, l5, l6, l7, l8, lw, are.block, are.block_size, are.names)) (sym are.names_size) in
    let held : reservations_of out ≡ r ++ ((b ++ word_bytes 9) ++ (n ++ z)) =
    ap (λ (x : ℕ). drop x out) reservations ∙ ap (λ (x : List ℕ). drop 40 x) e ∙ drop_front 40 head (r ++ ((b ++ word_bytes 9) ++ (n ++ z))) l5 in
    let last : SpellsParts n (word_bytes 9) [] =
    subst (λ (x : List ℕ). SpellsParts n x []) (append-nil (word_bytes 9))
    (the_end (word_front 9 [] (omega arith)) (ap length (append-nil (word_bytes 9)) ∙ lw)) in
    let spelt : SpellsParts n (b ++ word_bytes 9) (parts_of_tree tree) =
    subst (λ (x : List Part). SpellsParts n (b ++ word_bytes 9) x) (append-nil (parts_of_tree tree)) (front.before (word_bytes 9) [] last) in
    let s0 : SpellsParts (strings_of out) (b ++ word_bytes 9) (parts_of_tree tree) =
    subst (λ (x : List ℕ). SpellsParts x (b ++ word_bytes 9) (parts_of_tree tree)) (sym strings) spelt in
    record {
      header = record {
        long = omega (arith, len, are.size, are.names, are.block);
        magic = magic;
        size = size ∙ sym len;
        version = omega (arith, version);
        oldest = omega (arith, oldest);
        blocks = record {
          structure = record {
            behind = omega (arith, block, are.block);
            inside = omega (arith, block, block_size, len, are.size, are.names);
          };
          structure_aligned = ap (λ (x : ℕ). x % 4) block ∙ are.aligned;
          strings = record {
            behind = omega (arith, names, are.names, are.block);
            inside = omega (arith, names, names_size, len, are.size);
          };
          reservations = record {
            behind = omega (arith, reservations);
            inside = omega (arith, reservations, len, are.size, are.names, are.block);
          };
          reservations_aligned = ap (λ (x : ℕ). x % 8) reservations;
        };
      };
      reserved = subst (λ (x : List ℕ). BeginsWithReservations x list) (sym held) (reserved ((b ++ word_bytes 9) ++ (n ++ z)));
      structure = subst (λ (x : List ℕ). SpellsParts (strings_of out) x (parts_of_tree tree)) (sym structure) s0;
    }
