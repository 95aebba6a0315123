-- The plainest spelling of an access.
use Rattle.std.specs.Prelude.{◌≡◌, ◌≤◌, ◌<◌, ℕ, length, drop, slice_index, bit_and, ◌++◌, Bool}
use Rattle.std.specs.Prelude.{true, ◌||◌, ◌==◌, List, [], ◌∷◌, Some, codes}
use Rattle.std.specs.List.{list_all}
use Rattle.std.specs.Int.{from_le_bytes, w64}
use Rattle.pmp_match.specs.declared.access.Access.{Access}
use Rattle.pmp_match.specs.declared.access.Mode.{Mode}
use Rattle.pmp_match.specs.declared.access.Kind.{Kind}
use Rattle.pmp_match.specs.declared.access.Kind.TheVariants.{Fetch, Load, Store}
use Rattle.text_lines.specs.Words.{is_plain, split_words}
pub use Rattle.text_lines.specs.Words.{is_letter}
use Rattle.text_lines.specs.Numbers.{number_of}
use Rattle.hart_trace.specs.declared.plain.Keyword.{Keyword}
use Rattle.hart_trace.specs.declared.event.Event.{Event}
use Rattle.hart_trace.specs.Events.{access_of, call_in, meaning_of, mode_of}

-- the mark after a 0 that makes a number hexadecimal: `x` or `X`
abbrev pub is_mark : ℕ → Bool
is_mark b = b == 120 || b == 88

-- a letter for the mode, a digit for the size, and `0x` or `0X`, followed by the rest
abbrev pub Starts : List ℕ → Mode → ℕ → List ℕ → Type 0
Starts text mode size behind = (m s x : ℕ) × (text ≡ m ∷ 32 ∷ s ∷ 32 ∷ 48 ∷ x ∷ behind)
    × (mode_of (m ∷ []) ≡ Some mode) × (number_of (s ∷ []) ≡ Some size) × (is_letter m ≡ true)
    × (is_letter s ≡ true) × (is_mark x ≡ true)

-- the text begins with letters that spell a number, followed by the rest
abbrev pub BeginsNumber : List ℕ → ℕ → List ℕ → Type 0
BeginsNumber text value rest = (b : ℕ) × (word : List ℕ) × (text ≡ (b ∷ word) ++ rest)
    × (list_all is_letter (b ∷ word) ≡ true) × (number_of (b ∷ word) ≡ Some value)

-- the keyword of each kind of access
abbrev pub keyword : Kind → List ℕ
keyword Fetch = codes "fetch"
keyword Load = codes "load"
keyword Store = codes "store"

-- the first eight bytes of a text are this little-endian number
abbrev pub BeginsWith : List ℕ → ℕ → Type 0
BeginsWith text number = (8 ≤ length text) × (number ≡ from_le_bytes w64 text)
    × ((i : ℕ) → slice_index text i < 256)

-- a line whose first bytes under the mask equal the number begins with the keyword and a space
pub record Tells (k : Keyword) : Type 0 where
  pub short : k.len < 8
  pub said : (line : List ℕ) (first : ℕ) → BeginsWith line first → bit_and first k.mask ≡ k.number
      → line ≡ keyword k.kind ++ 32 ∷ drop k.len line

-- the text begins with plain words that spell an access of this kind and these further words
pub record BeginsAccess (kind : Kind) (text : List ℕ) (access : Access) (words : List (List ℕ))
    (behind : List ℕ) : Type 0 where
  pub spelled : List ℕ
  pub parts : text ≡ spelled ++ behind
  pub plain : list_all is_plain spelled ≡ true
  pub said : access_of kind (split_words spelled) ≡ Some (access, words)

-- the text begins with plain words that spell this call
pub record BeginsCall (text : List ℕ) (event : Event) (behind : List ℕ) : Type 0 where
  pub spelled : List ℕ
  pub parts : text ≡ spelled ++ behind
  pub plain : list_all is_plain spelled ≡ true
  pub said : call_in (split_words spelled) ≡ Some event

-- the text begins with a plain line that means this event on the first hart
pub record BeginsEvent (text : List ℕ) (event : Event) (behind : List ℕ) : Type 0 where
  pub line : List ℕ
  pub parts : text ≡ line ++ behind
  pub plain : list_all is_plain line ≡ true
  pub said : (harts : ℕ) → meaning_of harts line ≡ Some (Some (0, event))

-- the text consists of a hart's name, or no name, and the rest: an event that the rest means on the
-- first hart, the text means on the named hart
pub record Named (harts : ℕ) (text : List ℕ) (hart : ℕ) (behind : List ℕ) : Type 0 where
  pub name : List ℕ
  pub parts : text ≡ name ++ behind
  pub plain : list_all is_plain name ≡ true
  pub said : (line : List ℕ) (event : Event) → meaning_of 0 line ≡ Some (Some (0, event))
      → meaning_of harts line ≡ Some (Some (0, event))
      → meaning_of harts (name ++ line) ≡ Some (Some (hart, event))
